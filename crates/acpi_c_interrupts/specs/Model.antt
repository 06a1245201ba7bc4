-- The interrupt model (MADT, section 5.2.12) as C gets it.
use Rattle.std.specs.Prelude.{◌≡◌, ℕ, List, [], ◌∷◌, length, replicate, Option, Some, None, Result, Ok, Err}
use Rattle.acpi_base.specs.Words.{madt_at, Memory, ◌>>=◌, accepted}
use Rattle.acpi_base.specs.Model as base
use Rattle.acpi.specs.Types.{Apic, IoApic, Processor, ProcessorInfo}
use Rattle.acpi_base.specs.declared.model.interrupt.InterruptModel.TheVariants as model
pub use Rattle.acpi_base.specs.declared.model.item.MadtItem.{MadtItem}
use Rattle.acpi.specs.Words.{fadt_kind, madt_kind, or_later, timer_of, lookup}
use Rattle.acpi_fixed.specs.Words.{fadt_at}
use Rattle.acpi_c_interrupts.specs.Types.{PlatformInfo, InterruptModel, PlatformLists, Refusal, Source}
use Rattle.acpi_c_lib.specs.Answers.{flag, result_map}
use Rattle.acpi_c_lib.specs.Below.{AcpiError, below_source}
use Rattle.acpi_c_interrupts.specs.Records as records

-- a model and its processors, of no allocator
abbrev pub Platform : Type 0
Platform = base.Model (Unit {0})

-- a model of APICs
abbrev pub Apics : Type 0
Apics = Apic (Unit {0})

-- what the MADT that describes APICs contains about them
abbrev pub apics_by : List ℕ → Apics
apics_by table = base.apic_of (madt_at table) (base.items_of table)

-- what the MADT that describes APICs contains, or nothing if there is none
abbrev pub model_by : Option (List ℕ) → Platform
model_by (Some table) = base.gathered (madt_at table) (base.items_of table)
model_by None = (model.Unknown, None)

abbrev pub models_of : PlatformInfo (Unit {0}) → Platform
models_of info = (info.interrupt_model, info.processor_info)

-- the model of the first MADT that is accepted; nothing is known if none is
abbrev pub accepted_model : ℕ → Memory → List ℕ → Result Platform AcpiError
accepted_model accept m ps =
    or_later (λ madt. base.model_of madt.1) (lookup m (accepted accept madt_kind) ps) (Ok (model.Unknown, None))

-- the model and the processors of the platform: by 0 what `platform_of` has of them
abbrev pub platform_model : ℕ → Memory → List ℕ → Result Platform AcpiError
platform_model accept m ps = do
  found ← lookup m (accepted accept fadt_kind) ps
  read_model ← accepted_model accept m ps
  _ ← timer_of (fadt_at found.1)
  Ok read_model

-- a definition over the platform, of the tables that a caller names
abbrev pub below_platform : {A : Type 0} → Source → (Platform → A) → Result A Refusal
below_platform s show = result_map show (below_source s (platform_model s.accept))

-- ---- I/O APICs (section 5.2.12.3)

abbrev pub io_apic_record : IoApic → records.IoApic
io_apic_record x = record {
  address = x.address;
  global_system_interrupt_base = x.global_system_interrupt_base;
  id = x.id;
  reserved = replicate 3 0;
}

-- ---- processors

-- the boot processor, and then the others
abbrev pub listed : Option (ProcessorInfo (Unit {0})) → List Processor
listed (Some info) = info.boot_processor ∷ info.application_processors
listed None = []

-- ---- counts

abbrev pub counts_of : Platform → InterruptModel
counts_of (model.Apic apic, processors) = record {
  local_apic_address = apic.local_apic_address;
  io_apics = length apic.io_apics;
  overrides = length apic.interrupt_source_overrides;
  nmi_sources = length apic.nmi_sources;
  nmi_lines = length apic.local_apic_nmi_lines;
  processors = length (listed processors);
  known = 1;
  also_has_8259 = flag apic.also_has_legacy_pics;
  reserved = replicate 6 0;
}
counts_of (model.Unknown, processors) = record {
  local_apic_address = 0;
  io_apics = 0;
  overrides = 0;
  nmi_sources = 0;
  nmi_lines = 0;
  processors = length (listed processors);
  known = 0;
  also_has_8259 = 0;
  reserved = replicate 6 0;
}

-- how many items each list has is written as the model has it; of an error it stays
abbrev pub CountsBeside : PlatformLists → PlatformLists → Result InterruptModel Refusal → Type 0
CountsBeside old new (Ok read_model) =
    (new.processors_count ≡ read_model.processors) × (new.io_apics_count ≡ read_model.io_apics)
    × (new.overrides_count ≡ read_model.overrides) × (new.nmi_sources_count ≡ read_model.nmi_sources)
    × (new.nmi_lines_count ≡ read_model.nmi_lines)
CountsBeside old new (Err e) =
    (new.processors_count ≡ old.processors_count) × (new.io_apics_count ≡ old.io_apics_count)
    × (new.overrides_count ≡ old.overrides_count) × (new.nmi_sources_count ≡ old.nmi_sources_count)
    × (new.nmi_lines_count ≡ old.nmi_lines_count)

-- each list is where it was
abbrev pub AtSamePlaces : PlatformLists → PlatformLists → Type 0
AtSamePlaces old new =
    (new.processors.ghost_name ≡ old.processors.ghost_name) × (new.io_apics.ghost_name ≡ old.io_apics.ghost_name)
    × (new.overrides.ghost_name ≡ old.overrides.ghost_name)
    × (new.nmi_sources.ghost_name ≡ old.nmi_sources.ghost_name)
    × (new.nmi_lines.ghost_name ≡ old.nmi_lines.ghost_name)
