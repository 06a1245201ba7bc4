-- The domains that processors and memory are in: the System Resource Affinity Table, SRAT (ACPI 6.4, section 5.2.16).
use Rattle.std.specs.Prelude.{ℕ, ◌==◌, ◌&&◌, Bool, List, [], ◌∷◌, map, drop, slice_get, slice_index, Option, Some, None, if◌then◌else◌, filter_map, option_map}
use Rattle.acpi_base.specs.FromStd.{last_or}
use Rattle.acpi_base.specs.Words.{has_bit, field_of, header_at, cut}
use Rattle.acpi.specs.Types.{EntryLayout, Grammar, One}
use Rattle.acpi_numa.specs.SratEntries as entries
use Rattle.acpi_numa.specs.declared.srat.Srat.{Srat}
use Rattle.acpi_numa.specs.declared.srat.domains.Domains.{Domains}
use Rattle.acpi_numa.specs.declared.srat.entry.ProcessorId.{ProcessorId}
use Rattle.acpi_numa.specs.declared.srat.entry.ProcessorId.TheVariants as processor
use Rattle.acpi_numa.specs.declared.srat.entry.SratEntry.{SratEntry}
use Rattle.acpi_numa.specs.declared.srat.entry.SratEntry.TheVariants as kinds

-- the table SRAT, at least 48 bytes
unfoldable pub srat_at : List ℕ → Srat
srat_at b = record { header = header_at b }

-- Revision of the table, at 8
abbrev pub revision_of : List ℕ → ℕ
revision_of table = field_of table 8 1

-- ---- entries

-- the kinds in order, from kind 0 on: the least length of an entry, and what its bytes mean in a table
-- of a revision
abbrev pub srat_kinds : List (ℕ × (ℕ → List ℕ → SratEntry))
srat_kinds =
    (16, λ revision e. kinds.LocalApic (entries.local_apic_affinity_at revision e)) ∷
    (40, λ revision e. kinds.Memory (entries.memory_affinity_at revision e)) ∷
    (24, λ revision e. kinds.LocalX2Apic (entries.local_x2apic_affinity_at e)) ∷
    (18, λ revision e. kinds.Gicc (entries.gicc_affinity_at e)) ∷
    (12, λ revision e. kinds.GicIts (entries.gic_its_affinity_at e)) ∷
    (32, λ revision e. kinds.GenericInitiator (entries.generic_affinity_at e)) ∷
    (32, λ revision e. kinds.GenericPort (entries.generic_affinity_at e)) ∷ []

-- an entry begins with its kind and its length, one byte each
abbrev pub srat_layout : EntryLayout 7
srat_layout = record {
  kind_place = record { at = 0; width = One };  -- Type
  length_place = record { at = 1; width = One };  -- Length
  least_lengths = map (λ k. k.0) srat_kinds;
  least_of_others = 2;
}

-- there may be any number of entries
abbrev pub srat_grammar : Grammar 7
srat_grammar = record { layout = srat_layout; most = None }

-- what an entry of a table of a revision contains; nothing if its kind is after the last one
abbrev pub entry_of : ℕ → List ℕ → Option SratEntry
entry_of revision e = option_map (λ k. k.1 revision e) (slice_get srat_kinds (slice_index e 0))

-- the entries (Static Resource Allocation Structure[n], from 48 on) after a table's 48 fixed bytes, and the rest in
-- which no entry begins
abbrev pub cut_of : List ℕ → List (List ℕ) × List ℕ
cut_of table = cut srat_grammar (drop 48 table)

-- the entries of known kinds, in order
abbrev pub entries_of : List ℕ → List SratEntry
entries_of table = filter_map (entry_of (revision_of table)) (cut_of table).0

-- Flags of an entry, which all kinds have but GIC Interrupt Translation Service (ITS) Affinity
abbrev pub flags_of : SratEntry → Option ℕ
flags_of (kinds.LocalApic e) = Some e.flags
flags_of (kinds.Memory e) = Some e.flags
flags_of (kinds.LocalX2Apic e) = Some e.flags
flags_of (kinds.Gicc e) = Some e.flags
flags_of (kinds.GicIts e) = None
flags_of (kinds.GenericInitiator e) = Some e.flags
flags_of (kinds.GenericPort e) = Some e.flags

-- Enabled, bit 0 of Flags: whether an entry counts
abbrev pub is_enabled : SratEntry → Option Bool
is_enabled e = option_map (λ flags. has_bit flags 0) (flags_of e)

-- ---- domains

-- the domain of an entry with these Flags, if it is enabled (bit 0: Enabled) and is the one that is meant
abbrev pub given_by : ℕ → Bool → ℕ → Option ℕ
given_by flags is_meant domain = if has_bit flags 0 && is_meant then Some domain else None

-- the domain that an entry has for the processor whose local APIC has this id
abbrev pub apic_domain : ℕ → SratEntry → Option ℕ
apic_domain id (kinds.LocalApic e) = given_by e.flags (e.apic_id == id) e.domain
apic_domain id (kinds.LocalX2Apic e) = given_by e.flags (e.x2apic_id == id) e.domain
apic_domain id _ = None

-- the domain that an entry has for the processor of this uid, which has an interface to the GIC
abbrev pub processor_domain : ℕ → SratEntry → Option ℕ
processor_domain uid (kinds.Gicc e) = given_by e.flags (e.processor_uid == uid) e.domain
processor_domain uid _ = None

-- the domain that an entry has for a processor of either kind
abbrev pub domain_in : ProcessorId → SratEntry → Option ℕ
domain_in (processor.Apic id) = apic_domain id
domain_in (processor.Uid uid) = processor_domain uid

-- that of the last entry that has one
abbrev pub domain_of_apic : List ℕ → ℕ → Option ℕ
domain_of_apic table id = last_or None (filter_map (apic_domain id) (entries_of table))

abbrev pub domain_of_processor : List ℕ → ℕ → Option ℕ
domain_of_processor table uid =
    last_or None (filter_map (processor_domain uid) (entries_of table))

-- the table that domains are read from
abbrev pub srat_bytes : Domains → List ℕ
srat_bytes d = d.table.now
