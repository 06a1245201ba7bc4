-- The MADT that is written for C (section 5.2.12).
use Rattle.std.specs.Prelude.{ℕ, ◌&&◌, ◌==◌, Bool, is_ok, not, nat_le, Option, Some, None, if◌then◌else◌}
use Rattle.acpi_base.specs.declared.model.interrupt.NmiProcessor.TheVariants as nmi
use Rattle.acpi_base.specs.declared.model.interrupt.Polarity.TheVariants as polarity
use Rattle.acpi_base.specs.declared.model.interrupt.TriggerMode.TheVariants as trigger
use Rattle.acpi_c_interrupts.specs.Types.{list_all, result_unwrap_or, polarity_for, trigger_for, InterruptSourceOverride, IoApic, Lint0, Lint1, NmiSource, Polarity, TriggerMode, MadtContents, MadtNmiLine, MadtProcessor, madt_meant}
use Rattle.acpi_c_interrupts.specs.Records as records
use Rattle.acpi_table_writer.specs.declared.madt.MadtContents as writer
use Rattle.acpi_table_writer.specs.Words.{MadtContents as WriterMadt}

-- Enabled is set unless the state is 0
abbrev pub processor_of : records.Processor → MadtProcessor
processor_of p = record {
  processor_uid = p.uid;
  local_apic_id = p.local_apic_id;
  is_enabled = not (p.state == 0);
  is_online_capable = not (p.is_online_capable == 0);
  is_x2apic = not (p.is_x2apic == 0);
}

abbrev pub io_apic_of : records.IoApic → IoApic
io_apic_of x = record { id = x.id; address = x.address; global_system_interrupt_base = x.global_system_interrupt_base }

-- a code that is not reserved: Polarity and Trigger Mode have the same ones
abbrev pub is_wiring : ℕ → Bool
is_wiring code = is_ok (polarity_for code)

abbrev pub polarity_of : ℕ → Polarity
polarity_of code = result_unwrap_or (polarity_for code) polarity.SameAsBus

abbrev pub trigger_of : ℕ → TriggerMode
trigger_of code = result_unwrap_or (trigger_for code) trigger.SameAsBus

abbrev pub override_of : records.InterruptSourceOverride → InterruptSourceOverride
override_of x = record {
  isa_source = x.isa_source;
  global_system_interrupt = x.global_system_interrupt;
  polarity = polarity_of x.polarity;
  trigger_mode = trigger_of x.trigger;
}

abbrev pub nmi_source_of : records.NmiSource → NmiSource
nmi_source_of x = record {
  global_system_interrupt = x.global_system_interrupt;
  polarity = polarity_of x.polarity;
  trigger_mode = trigger_of x.trigger;
}

abbrev pub nmi_line_of : records.NmiLine → MadtNmiLine
nmi_line_of x = record {
  processor = if x.of_all == 0 then nmi.ProcessorUid x.processor_uid else nmi.All;
  line = if x.lint == 0 then Lint0 else Lint1;
  polarity = polarity_of x.polarity;
  trigger_mode = trigger_of x.trigger;
}

-- the bus is 0, which is ISA, and the codes are of a polarity and a trigger mode
abbrev pub is_of_isa : records.InterruptSourceOverride → Bool
is_of_isa x = x.bus == 0 && (is_wiring x.polarity && is_wiring x.trigger)

-- the pin is LINT0 or LINT1, and the codes are of a polarity and a trigger mode
abbrev pub is_lint : records.NmiLine → Bool
is_lint x = nat_le x.lint 1 && (is_wiring x.polarity && is_wiring x.trigger)

-- each bus is ISA's, and each polarity, trigger mode and LINT pin is one that there is
abbrev pub has_codes : MadtContents → Bool
has_codes c =
    list_all is_of_isa c.overrides.now
    && (list_all (λ x. is_wiring x.polarity && is_wiring x.trigger) c.nmi_sources.now
    && list_all is_lint c.nmi_lines.now)

abbrev pub mailbox_of : MadtContents → Option ℕ
mailbox_of c = if c.has_wakeup_mailbox == 0 then None else Some c.wakeup_mailbox

-- the contents, as the writer has them
abbrev pub contents_of : MadtContents
    → writer.MadtContents records.Processor records.IoApic records.InterruptSourceOverride
    records.NmiSource records.NmiLine
contents_of c = record {
  local_apic_address = c.local_apic_address;
  also_has_legacy_pics = not (c.also_has_8259 == 0);
  processors = c.processors;
  io_apics = c.io_apics;
  interrupt_source_overrides = c.overrides;
  nmi_sources = c.nmi_sources;
  local_apic_nmi_lines = c.nmi_lines;
  wakeup_mailbox = mailbox_of c;
}

abbrev pub madt_of : MadtContents → WriterMadt
madt_of c = madt_meant processor_of io_apic_of override_of nmi_source_of nmi_line_of (contents_of c)
