-- What the SRAT puts into domains (section 5.2.16), as C gets it: the entries up to the first malformed front.
use Rattle.std.specs.Prelude.{ℕ, List, replicate, filter_map, Option, Some, None, Result, if◌then◌else◌, option_and_then}
use Rattle.acpi_base.specs.Words.{has_bit}
use Rattle.acpi_numa.specs.Words.{entries_of, range_in}
use Rattle.acpi_numa.specs.declared.srat.entry.SratEntry.{SratEntry}
use Rattle.acpi_numa.specs.declared.srat.entry.SratEntry.TheVariants as kinds
use Rattle.acpi_c_lib.specs.Answers.{flag}
use Rattle.acpi_c_devices.specs.Types.{srat_kind, ends_below, GenericInitiator, ItsAffinity, MemoryAffinity, MemoryRange, ProcessorAffinity, Refusal, Source}
use Rattle.acpi_c_lib.specs.Below.{below_first}

-- the memory of a range (section 5.2.16.2), if that ends below 2^64: else its entry is at fault
abbrev pub memory_affinity : MemoryRange → Option MemoryAffinity
memory_affinity r = if ends_below r then Some (record {
  address = r.base;
  length = r.length;
  domain = r.domain;
  is_hot_pluggable = flag r.is_hot_pluggable;
  is_non_volatile = flag r.is_non_volatile;
  reserved = replicate 2 0;
}) else None

abbrev pub memory_shown : SratEntry → Option MemoryAffinity
memory_shown e = option_and_then memory_affinity (range_in e)

-- an item, if the Flags of its entry have bit 0, Enabled: else the entry doesn't count
abbrev pub counted_if : {R : Type 0} → ℕ → R → Option R
counted_if flags item = if has_bit flags 0 then Some item else None

-- the processor of an entry: of its Type, with this id, in these two domains
abbrev pub processor_affinity : ℕ → ℕ → ℕ → ℕ → ProcessorAffinity
processor_affinity kind id domain clock_domain = record {
  id = id;
  domain = domain;
  clock_domain = clock_domain;
  entry_type = kind;
  reserved = replicate 3 0;
}

abbrev pub affinity_shown : SratEntry → Option ProcessorAffinity
affinity_shown (kinds.LocalApic e) = counted_if e.flags (processor_affinity 0 e.apic_id e.domain e.clock_domain)
affinity_shown (kinds.LocalX2Apic e) = counted_if e.flags (processor_affinity 2 e.x2apic_id e.domain e.clock_domain)
affinity_shown (kinds.Gicc e) = counted_if e.flags (processor_affinity 3 e.processor_uid e.domain e.clock_domain)
affinity_shown _ = None

abbrev pub initiator_shown : SratEntry → Option GenericInitiator
initiator_shown (kinds.GenericInitiator e) = counted_if e.flags (record {
  domain = e.domain;
  is_architectural = flag (has_bit e.flags 1);  -- Architectural Transactions
  handle_type = e.handle_type;
  handle = e.device_handle;
  reserved = replicate 2 0;
})
initiator_shown _ = None

abbrev pub its_shown : SratEntry → Option ItsAffinity
its_shown (kinds.GicIts e) = Some (record { domain = e.domain; its_id = e.its_id })
its_shown _ = None

-- what the entries of one type of the first valid SRAT put into domains
abbrev pub below_srat : {A : Type 0} → Source → (SratEntry → Option A) → Result (List A) Refusal
below_srat s record_in = below_first srat_kind s (λ table. filter_map record_in (entries_of table))
