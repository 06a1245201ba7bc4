-- Domains and distances as C gets them. What an entry of a SRAT contains changes no result that isn't about it.
use Rattle.std.specs.Prelude.{◌≡◌, ◌+◌, ◌≤◌, ◌↔◌, ℕ, List, find, replicate, Option, Some, None, Result, Ok, Err, if◌then◌else◌, ok_or, option_and_then}
use Rattle.acpi_numa.specs.Words.{cut_of, lies_in, range_in}
use Rattle.acpi_c_devices.specs.Types.{◌>>=◌, Kind, is_left, sdt_kind, SLIT, ends_below, entry_of, ranges_of, revision_of, srat_kind, IsSane, distance_of, localities_of, domain_of_apic, domain_of_processor, MemoryRange, Localities, InvalidMemoryRange, InvalidSratEntryLength, NoDistance, NoDomain, EntryFault, Refusal, Source}
use Rattle.acpi_c_lib.specs.Answers.{result_map}
use Rattle.acpi_c_lib.specs.Below.{below_first, first_table, found_table}
use Rattle.acpi_c_lib.specs.EntryFaults.{fault_at, faults_from, rest_faults}

-- ---- entries at fault

-- why a range is at fault: it ends at 2^64 or above
abbrev pub range_fault : MemoryRange → Option Refusal
range_fault r = if ends_below r then None else Some InvalidMemoryRange

-- why an entry of a table of a revision is
abbrev pub srat_fault : ℕ → List ℕ → Option Refusal
srat_fault revision e = option_and_then range_fault (option_and_then range_in (entry_of revision e))

-- the faults of the table at an address
abbrev pub srat_faults_of : ℕ × List ℕ → List EntryFault
srat_faults_of found = faults_from (fault_at (srat_fault (revision_of found.1)))
    (rest_faults InvalidSratEntryLength (cut_of found.1).1) (found.0 + 48) (cut_of found.1).0

abbrev pub srat_faults_below : Source → Result (List EntryFault) Refusal
srat_faults_below s = result_map srat_faults_of (found_table srat_kind s)

-- ---- domains

-- why a table puts something into no domain: none of its entries does, or the malformed front might
abbrev pub no_domain : List ℕ → Refusal
no_domain table = if is_left (cut_of table).1 then InvalidSratEntryLength else NoDomain

-- the domain of a range that isn't at fault
abbrev pub range_domain : MemoryRange → Result ℕ Refusal
range_domain r = if ends_below r then Ok r.domain else Err InvalidMemoryRange

-- the domain of the first range that contains an address
abbrev pub domain_of_address_below : Source → ℕ → Result ℕ Refusal
domain_of_address_below s address = do
  table ← first_table srat_kind s
  range ← ok_or (find (lies_in address) (ranges_of table)) (no_domain table)
  range_domain range

abbrev pub domain_of_apic_below : Source → ℕ → Result ℕ Refusal
domain_of_apic_below s id = do
  table ← first_table srat_kind s
  ok_or (domain_of_apic table id) (no_domain table)

abbrev pub domain_of_processor_below : Source → ℕ → Result ℕ Refusal
domain_of_processor_below s uid = do
  table ← first_table srat_kind s
  ok_or (domain_of_processor table uid) (no_domain table)

-- ---- distances (SLIT, section 5.2.17)

abbrev pub slit_kind : Kind
slit_kind = sdt_kind SLIT 44

abbrev pub distance_below : Source → ℕ → ℕ → Result ℕ Refusal
distance_below s from to = do
  found ← below_first slit_kind s (λ table. distance_of table from to)
  ok_or found NoDistance

-- the size of the matrix of a table's bytes, and 1 exactly if the table can be believed, or else 0
abbrev pub IsLocalities : List ℕ → Localities → Type 0
IsLocalities table r =
    (r.localities ≡ localities_of table) × (r.is_sane ≤ 1) × (r.is_sane ≡ 1 ↔ IsSane table)
    × (r.reserved ≡ replicate 7 0)

-- the bytes of the first valid SLIT
abbrev pub slit_in : Source → Result (List ℕ) Refusal
slit_in s = first_table slit_kind s
