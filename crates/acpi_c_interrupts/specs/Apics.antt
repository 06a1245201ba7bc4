-- The entries of a MADT that describes APICs, each by itself (ACPI 6.4, section 5.2.12): what another entry contains,
-- or why the strict model fails for it, changes nothing.
use Rattle.std.specs.Prelude.{ℕ, ◌==◌, Bool, true, false, List, [], ◌∷◌, replicate, Option, Some, None, Result, Ok, if◌then◌else◌, filter_map}
use Rattle.acpi_base.specs.FromStd.{list_any}
use Rattle.acpi_base.specs.Words.{all_apics, all_x2apics, bits_of, field_of, has_bit, entries_of, mailbox_of, online_capable, ◌>>=◌, holds}
pub use Rattle.acpi.specs.Types.{MadtEntry}
use Rattle.acpi_base.specs.declared.tables.madt.entry.MadtEntry.TheVariants as entry
use Rattle.acpi.specs.Words.{madt_kind}
use Rattle.acpi_c_lib.specs.Answers.{flag, result_map}
use Rattle.acpi_c_lib.specs.Below.{first_table, refused_as}
use Rattle.acpi_c_interrupts.specs.Records as records
use Rattle.acpi_c_interrupts.specs.Types.{Refusal, Source, NoApics}

-- the mailbox by which processors are woken: MailBoxAddress of the first Multiprocessor Wakeup (section 5.2.12.19)
abbrev pub mailbox_below : Source → Result ℕ Refusal
mailbox_below s = do
  table ← first_table madt_kind s
  refused_as (mailbox_of table)

-- whether an entry is of APICs: Types 0 to 5, 9 and 0xa
abbrev pub is_of_apics : MadtEntry → Bool
is_of_apics (entry.LocalApic e) = true
is_of_apics (entry.IoApic e) = true
is_of_apics (entry.InterruptSourceOverride e) = true
is_of_apics (entry.NmiSource e) = true
is_of_apics (entry.LocalApicNmi e) = true
is_of_apics (entry.LocalApicAddressOverride e) = true
is_of_apics (entry.LocalX2Apic e) = true
is_of_apics (entry.X2ApicNmi e) = true
is_of_apics _ = false

-- the bytes of a table, if one of its entries up to the first malformed front is of APICs
abbrev pub apics_among : List ℕ → Result (List ℕ) Refusal
apics_among table = do
  _ ← holds (list_any is_of_apics (entries_of table)) NoApics
  Ok table

-- the same bytes of the first valid MADT
unfoldable pub apic_table : Source → Result (List ℕ) Refusal
apic_table s = do
  table ← first_table madt_kind s
  apics_among table

-- its entries
abbrev pub apic_entries : Source → Result (List MadtEntry) Refusal
apic_entries s = result_map entries_of (apic_table s)

-- what is shown of them
abbrev pub below_apics : {A : Type 0} → Source → (List MadtEntry → A) → Result A Refusal
below_apics s show = result_map show (apic_entries s)

-- ---- processors (sections 5.2.12.2 and 5.2.12.12)

-- a processor that waits, if it is enabled, in a table of a revision. Bit 0 of Flags (Local APIC Flags) is Enabled
abbrev pub processor : ℕ → Bool → ℕ → ℕ → ℕ → records.Processor
processor revision is_x2apic uid id flags = record {
  uid = uid;
  local_apic_id = id;
  state = flag (has_bit flags 0);
  is_boot = 0;
  is_online_capable = flag (online_capable revision flags);
  is_x2apic = flag is_x2apic;
}

abbrev pub processor_in : ℕ → MadtEntry → Option records.Processor
processor_in revision (entry.LocalApic e) = Some (processor revision false e.processor_id e.apic_id e.flags)
processor_in revision (entry.LocalX2Apic e) = Some (processor revision true e.processor_uid e.x2apic_id e.flags)
processor_in revision _ = None

-- as the boot processor: it runs, if it is enabled
abbrev pub booted : records.Processor → records.Processor
booted p = record p { state = if p.state == 0 then 0 else 2; is_boot = 1 }

-- the first is the boot processor
abbrev pub boot_first : List records.Processor → List records.Processor
boot_first [] = []
boot_first (p ∷ others) = booted p ∷ others

-- the processors of a table, whose Revision is its byte 8
abbrev pub processors_of : List ℕ → List records.Processor
processors_of table = boot_first (filter_map (processor_in (field_of table 8 1)) (entries_of table))

abbrev pub processors_below : Source → Result (List records.Processor) Refusal
processors_below s = result_map processors_of (apic_table s)

-- ---- I/O APICs (section 5.2.12.3)

abbrev pub io_apic_in : MadtEntry → Option records.IoApic
io_apic_in (entry.IoApic e) = Some (record {
  address = e.io_apic_address;
  global_system_interrupt_base = e.global_system_interrupt_base;
  id = e.io_apic_id;
  reserved = replicate 3 0;
})
io_apic_in _ = None

-- ---- overrides (section 5.2.12.5). MPS INTI Flags: bits 0 and 1 Polarity, bits 2 and 3 Trigger Mode; 2 is reserved

abbrev pub override_in : MadtEntry → Option records.InterruptSourceOverride
override_in (entry.InterruptSourceOverride e) = Some (record {
  global_system_interrupt = e.global_system_interrupt;
  isa_source = e.irq;
  polarity = bits_of e.flags 0 2;
  trigger = bits_of e.flags 2 2;
  bus = e.bus;
})
override_in _ = None

-- ---- non-maskable interrupts (sections 5.2.12.6, 5.2.12.7 and 5.2.12.13)

abbrev pub nmi_source_in : MadtEntry → Option records.NmiSource
nmi_source_in (entry.NmiSource e) = Some (record {
  global_system_interrupt = e.global_system_interrupt;
  polarity = bits_of e.flags 0 2;
  trigger = bits_of e.flags 2 2;
  reserved = replicate 2 0;
})
nmi_source_in _ = None

-- a LINT pin of a processor, or of all of them, if the UID is the one that means all
abbrev pub nmi_line : ℕ → ℕ → ℕ → ℕ → records.NmiLine
nmi_line all uid lint flags = record {
  processor_uid = if uid == all then 0 else uid;
  of_all = flag (uid == all);
  lint = lint;
  polarity = bits_of flags 0 2;
  trigger = bits_of flags 2 2;
}

abbrev pub nmi_line_in : MadtEntry → Option records.NmiLine
nmi_line_in (entry.LocalApicNmi e) = Some (nmi_line all_apics e.processor_id e.nmi_line e.flags)
nmi_line_in (entry.X2ApicNmi e) = Some (nmi_line all_x2apics e.processor_uid e.nmi_line e.flags)
nmi_line_in _ = None
