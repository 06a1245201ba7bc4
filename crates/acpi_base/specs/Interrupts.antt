-- What one entry of the MADT contains of interrupts and processors (ACPI 6.4, section 5.2.12).
use Rattle.std.specs.Prelude.{ℕ, ◌==◌, ◌&&◌, Bool, nat_le, Option, Some, None, Result, Ok, Err, if◌then◌else◌}
use Rattle.acpi_base.specs.FromStd.{result_err, result_unwrap_or}
use Rattle.acpi_bytes.specs.Bits.{bits_of, has_bit}
use Rattle.acpi_base.specs.Codes.{all_apics, all_x2apics, line_of, polarity_for, processor_for, trigger_for}
use Rattle.acpi_bytes.specs.Steps.{◌>>=◌}
use Rattle.acpi_base.specs.Types.{MadtError, InterruptOverrideEntryHasInvalidBus, UnexpectedEntry, InterruptSourceOverrideEntry, IoApicEntry, NmiSourceEntry, MadtEntry, InterruptSourceOverride, IoApic, Lint0, NmiLine, NmiProcessor, NmiSource, Polarity, TriggerMode, MadtItem}
use Rattle.acpi_base.specs.declared.tables.madt.entry.MadtEntry.TheVariants as variants
use Rattle.acpi_base.specs.declared.model.item.MadtItem.TheVariants as item
use Rattle.acpi_base.specs.declared.model.interrupt.Polarity.TheVariants as polarity
use Rattle.acpi_base.specs.declared.model.interrupt.TriggerMode.TheVariants as trigger

-- Polarity: bits 0 and 1 of an interrupt's MPS INTI Flags (section 5.2.12.5)
abbrev pub polarity_of : ℕ → Result Polarity MadtError
polarity_of flags = polarity_for (bits_of flags 0 2)

-- Trigger Mode: bits 2 and 3 of them
abbrev pub trigger_mode_of : ℕ → Result TriggerMode MadtError
trigger_mode_of flags = trigger_for (bits_of flags 2 2)

-- Online Capable: bit 1 of the Local APIC Flags of a MADT of this revision (sections 5.2.12.2 and 5.2.12.12). It came
-- with ACPI 6.3, which is revision 5, and is reserved below
abbrev pub online_capable : ℕ → ℕ → Bool
online_capable revision flags = nat_le 5 revision && has_bit flags 1

-- what is wrong with these flags, if something is: Polarity is tested before Trigger Mode
abbrev pub flags_fault : ℕ → Option MadtError
flags_fault flags = result_err (do
  _ ← polarity_of flags
  trigger_mode_of flags)

-- Interrupt Source Override, another wiring of an interrupt. A reserved code, which is a fault, is read as that of the
-- bus
abbrev pub override_of : InterruptSourceOverrideEntry → InterruptSourceOverride
override_of e = record {
  isa_source = e.irq;
  global_system_interrupt = e.global_system_interrupt;
  polarity = result_unwrap_or (polarity_of e.flags) polarity.SameAsBus;
  trigger_mode = result_unwrap_or (trigger_mode_of e.flags) trigger.SameAsBus;
}

-- Bus is tested before Flags
abbrev pub override_fault : InterruptSourceOverrideEntry → Option MadtError
override_fault e = if e.bus == 0 then flags_fault e.flags else Some InterruptOverrideEntryHasInvalidBus

-- NMI Source: a non-maskable interrupt. Its flags are read in the same way
abbrev pub nmi_source_of : NmiSourceEntry → NmiSource
nmi_source_of e = record {
  global_system_interrupt = e.global_system_interrupt;
  polarity = result_unwrap_or (polarity_of e.flags) polarity.SameAsBus;
  trigger_mode = result_unwrap_or (trigger_mode_of e.flags) trigger.SameAsBus;
}

-- an input that NMIs come to: their flags are not looked at. A number above 1, which is a fault, is read as 0
abbrev pub nmi_line_of : NmiProcessor → ℕ → NmiLine
nmi_line_of processor number = record { processor = processor; line = result_unwrap_or (line_of number) Lint0 }

-- an I/O APIC
abbrev pub io_apic_of : IoApicEntry → IoApic
io_apic_of e = record {
  id = e.io_apic_id;
  address = e.io_apic_address;
  global_system_interrupt_base = e.global_system_interrupt_base;
}

-- what is read, unless the entry has a fault
abbrev pub unless_fault : Option MadtError → MadtItem → Result MadtItem MadtError
unless_fault (Some fault) item = Err fault
unless_fault None item = Ok item

-- what an entry contains, or what is wrong with it: the types of SAPICs (Platform Interrupt Sources among them) and of
-- the GIC are always errors. Enabled is bit 0 of the Local APIC Flags (section 5.2.12.2), which a Processor Local
-- x2APIC has too
unfoldable pub item_of : MadtEntry → Result MadtItem MadtError
item_of (variants.LocalApic e) = Ok (item.Processor e.processor_id e.apic_id (has_bit e.flags 0))
item_of (variants.LocalX2Apic e) = Ok (item.Processor e.processor_uid e.x2apic_id (has_bit e.flags 0))
item_of (variants.IoApic e) = Ok (item.IoApic (io_apic_of e))
item_of (variants.InterruptSourceOverride e) = unless_fault (override_fault e) (item.Override (override_of e))
item_of (variants.NmiSource e) = unless_fault (flags_fault e.flags) (item.NmiSource (nmi_source_of e))
item_of (variants.LocalApicNmi e) =
    unless_fault (result_err (line_of e.nmi_line))
    (item.NmiLine (nmi_line_of (processor_for all_apics e.processor_id) e.nmi_line))
item_of (variants.X2ApicNmi e) =
    unless_fault (result_err (line_of e.nmi_line))
    (item.NmiLine (nmi_line_of (processor_for all_x2apics e.processor_uid) e.nmi_line))
item_of (variants.LocalApicAddressOverride e) = Ok (item.LocalApicAddress e.local_apic_address)
item_of (variants.MultiprocessorWakeup e) = Ok item.Wakeup
item_of _ = Err UnexpectedEntry
