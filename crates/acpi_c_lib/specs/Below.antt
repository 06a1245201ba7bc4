-- The tables that a caller names.
use Rattle.std.specs.Prelude.{ℕ, ◌*◌, ◌==◌, List, drop, Option, Result, Ok, Err, if◌then◌else◌, nat_lt, option_map, unwrap_or}
use Rattle.acpi_base.specs.FromStd.{result_ok}
use Rattle.acpi_base.specs.Words.{Memory, ◌>>=◌, Kind, holds, accepted}
pub use Rattle.acpi_bytes.specs.declared.error.AcpiError.{AcpiError}
use Rattle.acpi.specs.Words.{accepted_found_rsdp, accepted_in_areas, accepted_opened, accepted_root, accepted_rsdp, accepted_rsdp_at, bios_areas, extended_length_of, root_of_revision, Opened, pointers, width_of, word_in, lookup}
use Rattle.acpi_c_lib.specs.Answers.{result_map}
use Rattle.acpi_c_lib.specs.Regions.{memory_in}
pub use Rattle.acpi_c_lib.specs.declared.records.Source.{Source}
pub use Rattle.acpi_c_lib.specs.declared.refusal.Refusal.{Refusal}
use Rattle.acpi_c_lib.specs.Types.{Acpi, RootPointer, Rsdp, UnknownPolicy, UnknownStart}

-- an error of the library's is one of the call's
abbrev pub refused_as : {A : Type 0} → Result A AcpiError → Result A Refusal
refused_as (Ok x) = Ok x
refused_as (Err e) = Err (Acpi e)

-- the address of the extended BIOS data area (EBDA), 16 times the word at 40:0Eh, if that is mapped
abbrev pub ebda_in : Memory → Option ℕ
ebda_in m = option_map (λ word. 16 * word) (result_ok (word_in m))

-- the RSDP of a start's number and an address, as its address and its first 36 bytes: the one there (section 5.2.5.3),
-- by the search of the BIOS areas (5.2.5.1), or by the search in these as far as they are mapped
abbrev pub rsdp_in : Memory → Source → Result (ℕ × List ℕ) Refusal
rsdp_in m s =
    if s.start == 0 then refused_as (result_map (λ bytes. (s.address, bytes)) (accepted_rsdp_at s.accept m s.address))
    else if s.start == 3 then refused_as (accepted_found_rsdp s.accept m)
    else if s.start == 4 then refused_as (accepted_in_areas s.accept m (bios_areas (ebda_in m)))
    else Err UnknownStart

-- where the root table is by them: at an RSDT (section 5.2.7), at an XSDT (5.2.8), or by the RSDP
abbrev pub root_pointer_in : Memory → Source → Result RootPointer Refusal
root_pointer_in m s =
    if s.start == 1 then Ok (root_of_revision 0 s.address)
    else if s.start == 2 then Ok (root_of_revision 2 s.address)
    else result_map (accepted_root s.accept m) (rsdp_in m s)

-- `accept` has no bits but the five that there are
abbrev pub check_policy : Source → Result (Unit {0}) Refusal
check_policy s = holds (nat_lt s.accept 32) UnknownPolicy

abbrev pub opened_in : Memory → Source → Result Opened Refusal
opened_in m s = do
  _ ← check_policy s
  place ← root_pointer_in m s
  refused_as (accepted_opened s.accept m place)

-- the addresses that it lists
abbrev pub pointers_in : Opened → List ℕ
pointers_in o = pointers (width_of o.kind) (drop 36 o.root)

-- how many bytes an RSDP has (section 5.2.5.3): Length, which revision 0 lacks, or 20
abbrev pub rsdp_length : Rsdp → ℕ
rsdp_length rsdp = unwrap_or (extended_length_of rsdp) 20

-- its address and how many bytes it has; none if the start is at a root table
abbrev pub rsdp_place_in : Memory → Source → Option (ℕ × ℕ)
rsdp_place_in m s =
    result_ok (result_map (λ found. (found.0, rsdp_length (accepted_rsdp s.accept m found))) (rsdp_in m s))

-- a definition over a memory and the root table in it, of the tables that a caller names
abbrev pub opened_below : {A : Type 0} → Source → (Memory → Opened → Result A Refusal) → Result A Refusal
opened_below s answer = do
  m ← memory_in s.regions.now
  o ← opened_in m s
  answer m o

-- a definition over a memory and the pointers of the root table in it, of the tables that a caller names
abbrev pub below : {A : Type 0} → Source → (Memory → List ℕ → Result A Refusal) → Result A Refusal
below s answer = opened_below s (λ m o. answer m (pointers_in o))

-- the same of a definition of the library
abbrev pub below_source : {A : Type 0} → Source → (Memory → List ℕ → Result A AcpiError)
    → Result A Refusal
below_source s answer = below s (λ m ps. refused_as (answer m ps))

-- the first table of a kind that is accepted: its address and its bytes
unfoldable pub found_table : Kind → Source → Result (ℕ × List ℕ) Refusal
found_table kind s = below_source s (λ m. lookup m (accepted s.accept kind))

-- its bytes, and what is shown of them
unfoldable pub first_table : Kind → Source → Result (List ℕ) Refusal
first_table kind s = below_source s (λ m ps. result_map (λ found. found.1) (lookup m (accepted s.accept kind) ps))

abbrev pub below_first : {A : Type 0} → Kind → Source → (List ℕ → A) → Result A Refusal
below_first kind s show = result_map show (first_table kind s)
