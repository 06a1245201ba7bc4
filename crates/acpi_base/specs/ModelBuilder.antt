-- How far a model is gathered.
use Rattle.std.specs.Prelude.{◌≡◌, ℕ, ◌+◌, ◌-◌, ◌≤◌, length, vec_capacity, vec_len, true, List, ◌++◌, Option, Some, None, filter_map, option_map}
use Rattle.acpi_base.specs.Model.{Model, local_apic_address_in, io_apic_in, last_address, nmi_line_in, nmi_source_in, override_in, processor_in, processors_of}
use Rattle.acpi_base.specs.Types.{Counts, ModelBuilder, MadtItem, Processor, ProcessorInfo}
use Rattle.acpi_base.specs.declared.model.interrupt.InterruptModel.TheVariants as model

-- the processors, if these are the ones so far and more follow
abbrev pub processors_behind : {A : Type 0} → Option Processor → List Processor → List MadtItem
    → Option (ProcessorInfo A)
processors_behind (Some boot) others items = Some (record {
  boot_processor = boot;
  application_processors = others ++ filter_map (processor_in true) items;
})
processors_behind {A = A} None others items =
    option_map (λ (info : ProcessorInfo A). record info {
      application_processors = others ++ info.application_processors;
    }) (processors_of items)

-- the model, if the entries after the gathered ones contain this
abbrev pub model_behind : {A : Type 0} → ModelBuilder A → List MadtItem → Model A
model_behind d items = (
  model.Apic (record {
    local_apic_address = last_address d.local_apic_address (filter_map local_apic_address_in items);
    io_apics = d.io_apics.items ++ filter_map io_apic_in items;
    local_apic_nmi_lines = d.nmi_lines.items ++ filter_map nmi_line_in items;
    interrupt_source_overrides = d.overrides.items ++ filter_map override_in items;
    nmi_sources = d.nmi_sources.items ++ filter_map nmi_source_in items;
    also_has_legacy_pics = d.has_legacy_pics;
  }),
  processors_behind d.boot_processor d.application_processors.items items,
)

-- ---- room

-- how many of the processors still to come are application processors
abbrev pub others_in : Option Processor → List MadtItem → ℕ
others_in None items = length (filter_map (processor_in true) items) - 1
others_in (Some boot) items = length (filter_map (processor_in true) items)

-- there is room for what these contain
pub record HasRoom {A : Type 0} (d : ModelBuilder A) (items : List MadtItem) : Type 0 where
  pub io_apics :
      vec_len d.io_apics + length (filter_map io_apic_in items) ≤ vec_capacity d.io_apics
  pub nmi_lines :
      vec_len d.nmi_lines + length (filter_map nmi_line_in items) ≤ vec_capacity d.nmi_lines
  pub overrides :
      vec_len d.overrides + length (filter_map override_in items) ≤ vec_capacity d.overrides
  pub nmi_sources :
      vec_len d.nmi_sources + length (filter_map nmi_source_in items) ≤ vec_capacity d.nmi_sources
  pub processors :
      vec_len d.application_processors + others_in d.boot_processor items
      ≤ vec_capacity d.application_processors

-- the room is just what is counted: all processors but the boot processor are in a list
pub record HoldsRoom {A : Type 0} (d : ModelBuilder A) (counts : Counts) : Type 0 where
  pub io_apics : vec_capacity d.io_apics ≡ counts.io_apics
  pub nmi_lines : vec_capacity d.nmi_lines ≡ counts.nmi_lines
  pub overrides : vec_capacity d.overrides ≡ counts.overrides
  pub nmi_sources : vec_capacity d.nmi_sources ≡ counts.nmi_sources
  pub processors : vec_capacity d.application_processors ≡ counts.processors - 1
