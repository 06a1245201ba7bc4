-- The interrupt controller of an Arm machine: what the entries of the MADT contain together of its GIC
-- (ACPI 6.4, sections 5.2.12.14 to 5.2.12.18).
use Rattle.std.specs.Prelude.{ℕ, ◌+◌, ◌<◌, ◌&&◌, nat_le, not, List, length, slice_get, Option, Some, None, Result, Ok, Err, if◌then◌else◌, filter_map, option_map}
use Rattle.acpi_base.specs.Words.{has_bit, field_of, shown_of, cut_of, entries_of, is_left, Memory, ◌>>=◌, holds}
use Rattle.acpi.specs.Types.{AcpiError, InvalidMadt, InvalidEntryLength, MadtEntry, GicMsiFrameEntry, GiccEntry}
use Rattle.acpi_base.specs.declared.tables.madt.entry.MadtEntry.TheVariants as kinds
use Rattle.acpi.specs.Words.{lookup, madt_kind}
use Rattle.acpi_arm.specs.Gtdt.{trigger_in}
use Rattle.acpi_arm.specs.declared.gic.GicModel.{GicModel}
use Rattle.acpi_arm.specs.declared.gic.part.GicCpuInterface.{GicCpuInterface}
use Rattle.acpi_arm.specs.declared.gic.part.GicDistributor.{GicDistributor}
use Rattle.acpi_arm.specs.declared.gic.part.GicMsiFrame.{GicMsiFrame}
use Rattle.acpi_arm.specs.declared.gic.part.GicRedistributors.{GicRedistributors}
use Rattle.acpi_arm.specs.declared.gic.part.GicTranslationService.{GicTranslationService}
use Rattle.acpi_arm.specs.declared.gic.part.SpiRange.{SpiRange}

-- ---- what one entry contains, in a table of a revision; nothing if it is of another kind

abbrev pub distributor_in : MadtEntry → Option GicDistributor
distributor_in (kinds.Gicd e) = Some (record {
  id = e.gic_id;
  address = e.physical_base_address;
  version = e.gic_version;
  system_vector_base = e.system_vector_base;
})
distributor_in _ = None

-- GICC CPU Interface Flags (section 5.2.12.14): of bits 1 and 2 a 1 is Edge; bit 3 came with ACPI 6.5, which is
-- revision 6 of the MADT, and is reserved below
abbrev pub cpu_interface_of : ℕ → GiccEntry → GicCpuInterface
cpu_interface_of revision e = record {
  number = e.cpu_interface_number;
  processor_uid = e.processor_uid;
  mpidr = e.mpidr;
  is_enabled = has_bit e.flags 0;  -- bit 0: Enabled
  is_online_capable = nat_le 6 revision && has_bit e.flags 3;  -- bit 3: Online Capable
  performance_interrupt = e.performance_interrupt_gsiv;
  performance_trigger = trigger_in e.flags 1;  -- bit 1: Performance Interrupt Mode
  parking_protocol_version = e.parking_protocol_version;
  parked_address = e.parked_address;
  address = e.gic_registers_address;
  virtual_address = e.gic_virtual_registers_address;
  hypervisor_address = e.gic_hypervisor_registers_address;
  maintenance_interrupt = e.vgic_maintenance_interrupt;
  maintenance_trigger = trigger_in e.flags 2;  -- bit 2: VGIC Maintenance interrupt Mode Flags
  redistributor_address = e.gicr_base_address;
  efficiency_class = e.processor_power_efficiency_class;
  spe_overflow_interrupt = e.spe_overflow_interrupt;
  trace_buffer_interrupt = shown_of e.trbe_interrupt revision;
}

abbrev pub cpu_interface_in : ℕ → MadtEntry → Option GicCpuInterface
cpu_interface_in revision (kinds.Gicc e) = Some (cpu_interface_of revision e)
cpu_interface_in revision _ = None

abbrev pub redistributors_in : ℕ → MadtEntry → Option GicRedistributors
redistributors_in revision (kinds.GicRedistributor e) = Some (record {
  address = e.discovery_range_base_address;
  length = e.discovery_range_length;
})
redistributors_in revision _ = None

abbrev pub translation_service_in : ℕ → MadtEntry → Option GicTranslationService
translation_service_in revision (kinds.GicInterruptTranslationService e) =
    Some (record { id = e.id; address = e.physical_base_address })
translation_service_in revision _ = None

-- the interrupts of a frame, if the entry has them by bit 0 of its GIC MSI Frame Flags, SPI Count/Base Select
-- (section 5.2.12.16)
abbrev pub spis_of : GicMsiFrameEntry → Option SpiRange
spis_of e =
    if has_bit e.flags 0 then Some (record { base = e.spi_base; count = e.spi_count }) else None

abbrev pub msi_frame_in : ℕ → MadtEntry → Option GicMsiFrame
msi_frame_in revision (kinds.GicMsiFrame e) =
    Some (record { id = e.frame_id; address = e.physical_base_address; spis = spis_of e })
msi_frame_in revision _ = None

-- ---- what all entries contain

-- what each entry of some kind contains, in order; Revision of the table is its byte 8
abbrev pub items_of : {T : Type 0} → (ℕ → MadtEntry → Option T) → List ℕ → List T
items_of part_in table = filter_map (part_in (field_of table 8 1)) (entries_of table)

-- the first distributor, unless the entries end before the table does
abbrev pub distributor_of : List ℕ → Result (Option GicDistributor) AcpiError
distributor_of table = do
  _ ← holds (not (is_left (cut_of table).1)) (InvalidMadt InvalidEntryLength)
  Ok (slice_get (filter_map distributor_in (entries_of table)) 0)

-- a distributor with the lists of a model; A is the allocator, which they don't contain
abbrev pub model_beside : {A : Type 0} → List ℕ → GicDistributor → GicModel A
model_beside table distributor = record {
  distributor = distributor;
  cpu_interfaces = items_of cpu_interface_in table;
  redistributors = items_of redistributors_in table;
  translation_services = items_of translation_service_in table;
  msi_frames = items_of msi_frame_in table;
}

-- the model; none if there is no distributor
abbrev pub gic_of : {A : Type 0} → List ℕ → Result (Option (GicModel A)) AcpiError
gic_of table = do
  distributor ← distributor_of table
  Ok (option_map (model_beside table) distributor)

-- that of the first valid MADT
abbrev pub found_gic : {A : Type 0} → Memory → List ℕ → Result (Option (GicModel A)) AcpiError
found_gic m ps = do
  found ← lookup m madt_kind ps
  gic_of found.1

-- ---- out of memory

-- how many items the lists have
abbrev pub item_count : List ℕ → ℕ
item_count table =
    length (items_of cpu_interface_in table) + length (items_of redistributors_in table)
    + length (items_of translation_service_in table) + length (items_of msi_frame_in table)

abbrev pub IsThere : Result (Option GicDistributor) AcpiError → Type 0
IsThere (Ok (Some distributor)) = Unit {0}
IsThere _ = ⊥

-- memory is requested only if there is a distributor, and a list has an item
abbrev pub AsksMemory : List ℕ → Type 0
AsksMemory table = IsThere (distributor_of table) × (0 < item_count table)

abbrev pub FoundAsks : Result (ℕ × List ℕ) AcpiError → Type 0
FoundAsks (Ok found) = AsksMemory found.1
FoundAsks (Err e) = ⊥

-- memory is requested only if a valid MADT is found, and the first one has a distributor and an item of a list
abbrev pub GicAsks : Memory → List ℕ → Type 0
GicAsks m ps = FoundAsks (lookup m madt_kind ps)
