-- The law: of a MADT none of whose entries is at fault, the lists are as in the strict model, beside which C's
-- records have the bus of an override, the wiring of a LINT pin, and what kind of processor it is.
use Rattle.std.specs.Prelude.{◌≡◌, ℕ, List, map, not, replicate, None, filter_map}
use Rattle.acpi_base.specs.Words.{entries_of, fault_of, line_code, polarity_code, trigger_code, uid_code}
use Rattle.acpi_base.specs.Model as base
use Rattle.acpi.specs.Types.{All, Disabled, InterruptSourceOverride, NmiLine, NmiProcessor, NmiSource, Processor, ProcessorState, ProcessorUid, Running, WaitingForSipi}
use Rattle.acpi_c_lib.specs.Answers.{flag}
use Rattle.acpi_c_interrupts.specs.Apics.{io_apic_in, nmi_line_in, nmi_source_in, override_in, processors_of}
use Rattle.acpi_c_interrupts.specs.Model.{io_apic_record, listed}
use Rattle.acpi_c_interrupts.specs.Records as records

abbrev pub override_record : InterruptSourceOverride → records.InterruptSourceOverride
override_record x = record {
  global_system_interrupt = x.global_system_interrupt;
  isa_source = x.isa_source;
  polarity = polarity_code x.polarity;
  trigger = trigger_code x.trigger_mode;
  bus = 0;
}

abbrev pub nmi_source_record : NmiSource → records.NmiSource
nmi_source_record x = record {
  global_system_interrupt = x.global_system_interrupt;
  polarity = polarity_code x.polarity;
  trigger = trigger_code x.trigger_mode;
  reserved = replicate 2 0;
}

abbrev pub of_all : NmiProcessor → ℕ
of_all All = 1
of_all (ProcessorUid uid) = 0

-- a LINT pin: the processor's UID, whether it is of all, and LINT#
abbrev pub line_said : NmiLine → ℕ × ℕ × ℕ
line_said x = (uid_code 0 x.processor, of_all x.processor, line_code x.line)

abbrev pub line_shown : records.NmiLine → ℕ × ℕ × ℕ
line_shown x = (x.processor_uid, x.of_all, x.lint)

abbrev pub state_code : ProcessorState → ℕ
state_code Disabled = 0
state_code WaitingForSipi = 1
state_code Running = 2

-- a processor: its UID, the id of its local APIC, its state, and whether it is the boot processor
abbrev pub processor_said : Processor → ℕ × ℕ × ℕ × ℕ
processor_said x = (x.processor_uid, x.local_apic_id, state_code x.state, flag (not x.is_ap))

abbrev pub processor_shown : records.Processor → ℕ × ℕ × ℕ × ℕ
processor_shown x = (x.uid, x.local_apic_id, x.state, x.is_boot)

pub record AreModels (table : List ℕ) : Type 0 where
  pub io_apics : filter_map io_apic_in (entries_of table)
      ≡ map io_apic_record (filter_map base.io_apic_in (base.items_of table))
  pub overrides : filter_map override_in (entries_of table)
      ≡ map override_record (filter_map base.override_in (base.items_of table))
  pub nmi_sources : filter_map nmi_source_in (entries_of table)
      ≡ map nmi_source_record (filter_map base.nmi_source_in (base.items_of table))
  pub nmi_lines : map line_shown (filter_map nmi_line_in (entries_of table))
      ≡ map line_said (filter_map base.nmi_line_in (base.items_of table))
  pub processors : map processor_shown (processors_of table)
      ≡ map processor_said (listed (base.processors_of (base.items_of table)))

abbrev pub ListsAreModels : Type 0
ListsAreModels = (table : List ℕ) → fault_of table ≡ None → AreModels table
