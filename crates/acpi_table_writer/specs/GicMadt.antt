-- The MADT of an Arm machine: its bytes, and that what was given is what is read (ACPI 6.4, sections 5.2.12.14 to
-- 5.2.12.18).
use Rattle.std.specs.Prelude.{◌≡◌, ℕ, ◌&&◌, Bool, false, true, not, List, [], ◌∷◌, ◌++◌, flat_map, Option, Some, None, Result, Ok, All}
use Rattle.acpi_table_writer.specs.Types.{◌>>=◌, holds, MADT, gic_of, GicModel, GicCpuInterface, GicDistributor, GicMsiFrame, GicRedistributors, GicTranslationService, SpiRange, WriterError, NoProcessor, SameAsBus, TableIds, GicContents, Field, U8, U16, U32, U64, Zeros}
use Rattle.acpi_table_writer.specs.Checked.{all_checked}
use Rattle.acpi_table_writer.specs.Arm.{flags_of, has_trigger, is_edge}
use Rattle.acpi_table_writer.specs.Fields.{Fits, fields_bytes}
use Rattle.acpi_table_writer.specs.MadtBytes.{is_empty, madt_fixed}
use Rattle.acpi_table_writer.specs.Spelled.{items_of}
use Rattle.acpi_table_writer.specs.Table.{IsTableOf, IsValid, bit_of, table_written}
use Rattle.acpi_table_writer.specs.declared.madt.gic.GicContents as declared

-- ---- entries

-- GICD (section 5.2.12.15)
unfoldable pub gicd_fields : GicDistributor → List Field
gicd_fields x =
    U8 12 ∷ U8 24 ∷ Zeros 2 ∷ U32 x.id  -- 0: Type, 1: Length, 2: Reserved, 4: GIC ID
    ∷ U64 x.address ∷ U32 x.system_vector_base  -- 8: Physical Base Address, 16: System Vector Base
    ∷ U8 x.version ∷ Zeros 3  -- 20: GIC version, 21: Reserved
    ∷ []

abbrev pub gicd_entry : GicDistributor → List ℕ
gicd_entry x = fields_bytes (gicd_fields x)

-- GICC CPU Interface Flags: bit 0 Enabled, 1 Performance Interrupt Mode, 2 VGIC Maintenance Interrupt Mode, 3 Online
-- Capable, which came with ACPI 6.5
abbrev pub gicc_flags : GicCpuInterface → ℕ
gicc_flags x = flags_of x.is_enabled (is_edge x.performance_trigger) (is_edge x.maintenance_trigger) x.is_online_capable

-- TRBE Interrupt came with ACPI 6.5: without it a GICC ends before
abbrev pub gicc_length : Option ℕ → ℕ
gicc_length (Some interrupt) = 82
gicc_length None = 80

abbrev pub trace_field : Option ℕ → Field
trace_field (Some interrupt) = U16 interrupt
trace_field None = Zeros 0

-- GICC (section 5.2.12.14)
unfoldable pub gicc_list : GicCpuInterface → Option ℕ → List Field
gicc_list x trace =
    U8 11 ∷ U8 (gicc_length trace) ∷ Zeros 2  -- 0: Type, 1: Length, 2: Reserved
    ∷ U32 x.number ∷ U32 x.processor_uid  -- 4: CPU Interface Number, 8: ACPI Processor UID
    ∷ U32 (gicc_flags x) ∷ U32 x.parking_protocol_version  -- 12: Flags, 16: Parking Protocol Version
    ∷ U32 x.performance_interrupt ∷ U64 x.parked_address  -- 20: Performance Interrupt GSIV, 24: Parked Address
    ∷ U64 x.address ∷ U64 x.virtual_address  -- 32: Physical Base Address, 40: GICV
    ∷ U64 x.hypervisor_address ∷ U32 x.maintenance_interrupt  -- 48: GICH, 56: VGIC Maintenance interrupt
    ∷ U64 x.redistributor_address ∷ U64 x.mpidr  -- 60: GICR Base Address, 68: MPIDR
    ∷ U8 x.efficiency_class ∷ Zeros 1  -- 76: Processor Power Efficiency Class, 77: Reserved
    ∷ U16 x.spe_overflow_interrupt ∷ trace_field trace  -- 78: SPE overflow Interrupt, 80: TRBE Interrupt
    ∷ []

abbrev pub gicc_fields : GicCpuInterface → List Field
gicc_fields x = gicc_list x x.trace_buffer_interrupt

abbrev pub gicc_entry : GicCpuInterface → List ℕ
gicc_entry x = fields_bytes (gicc_fields x)

-- GICR (section 5.2.12.17)
unfoldable pub gicr_fields : GicRedistributors → List Field
gicr_fields x =
    U8 14 ∷ U8 16 ∷ Zeros 2 ∷ U64 x.address  -- 0: Type, 1: Length, 2: Reserved, 4: Discovery Range Base Address
    ∷ U32 x.length  -- 12: Discovery Range Length
    ∷ []

abbrev pub gicr_entry : GicRedistributors → List ℕ
gicr_entry x = fields_bytes (gicr_fields x)

-- ITS (section 5.2.12.18)
unfoldable pub its_fields : GicTranslationService → List Field
its_fields x =
    U8 15 ∷ U8 20 ∷ Zeros 2 ∷ U32 x.id  -- 0: Type, 1: Length, 2: Reserved, 4: GIC ITS ID
    ∷ U64 x.address ∷ Zeros 4  -- 8: Physical Base Address, 16: Reserved
    ∷ []

abbrev pub its_entry : GicTranslationService → List ℕ
its_entry x = fields_bytes (its_fields x)

-- bit 0 of the GIC MSI Frame Flags, SPI Count/Base Select, is set if the entry has the interrupts; else it has none

abbrev pub has_spis : Option SpiRange → Bool
has_spis (Some range) = true
has_spis None = false

abbrev pub spis_of : Option SpiRange → SpiRange
spis_of (Some range) = range
spis_of None = record { base = 0; count = 0 }

-- GIC MSI Frame (section 5.2.12.16)
unfoldable pub msi_fields : GicMsiFrame → List Field
msi_fields x =
    U8 13 ∷ U8 24 ∷ Zeros 2 ∷ U32 x.id  -- 0: Type, 1: Length, 2: Reserved, 4: GIC MSI Frame ID
    ∷ U64 x.address ∷ U32 (bit_of (has_spis x.spis))  -- 8: Physical Base Address, 16: Flags
    ∷ U16 (spis_of x.spis).count ∷ U16 (spis_of x.spis).base  -- 20: SPI Count, 22: SPI Base
    ∷ []

abbrev pub msi_entry : GicMsiFrame → List ℕ
msi_entry x = fields_bytes (msi_fields x)

-- ---- the table

-- the contents in the reader's items, by contents with a caller's records of them
abbrev pub gic_meant : {C R T F : Type 0} → (C → GicCpuInterface) → (R → GicRedistributors)
    → (T → GicTranslationService) → (F → GicMsiFrame) → declared.GicContents C R T F → GicContents
gic_meant interface redistributors service frame c = record {
  distributor = c.distributor;
  cpu_interfaces = items_of interface c.cpu_interfaces;
  redistributors = items_of redistributors c.redistributors;
  translation_services = items_of service c.translation_services;
  msi_frames = items_of frame c.msi_frames;
}

-- after the header: the fields of APICs, which are 0, and the entries, sort by sort
abbrev pub gic_body : GicContents → List ℕ
gic_body c =
    madt_fixed 0 false
    ++ (gicd_entry c.distributor
    ++ (flat_map gicc_entry c.cpu_interfaces.now
    ++ (flat_map gicr_entry c.redistributors.now
    ++ (flat_map its_entry c.translation_services.now
    ++ flat_map msi_entry c.msi_frames.now))))

-- flags have to express both trigger modes
abbrev pub interface_checked : GicCpuInterface → Result (Unit {0}) WriterError
interface_checked x = holds (has_trigger x.performance_trigger && has_trigger x.maintenance_trigger) SameAsBus

-- the first error of the contents
abbrev pub gic_checked : GicContents → Result (Unit {0}) WriterError
gic_checked c = do
  _ ← holds (not (is_empty c.cpu_interfaces.now)) NoProcessor
  all_checked interface_checked c.cpu_interfaces.now

-- the table, of revision 6, in so much room, or the first error
unfoldable pub gic_written : ℕ → TableIds → GicContents → Result (List ℕ) WriterError
gic_written room ids c = do
  _ ← gic_checked c
  table_written room MADT 6 ids (gic_body c)

-- ---- which numbers have a place in an entry

pub record AreGicFit (c : GicContents) : Type 0 where
  pub distributor : Fits gicd_fields c.distributor
  pub cpu_interfaces : All (Fits gicc_fields) c.cpu_interfaces.now
  pub redistributors : All (Fits gicr_fields) c.redistributors.now
  pub translation_services : All (Fits its_fields) c.translation_services.now
  pub msi_frames : All (Fits msi_fields) c.msi_frames.now

-- the bytes are the table of contents whose numbers and trigger modes have a place
pub record IsGicMadt (ids : TableIds) (c : GicContents) (table : List ℕ) : Type 0 where
  pub written : IsTableOf MADT 6 ids (gic_body c) table
  pub fit : AreGicFit c
  pub checked : all_checked interface_checked c.cpu_interfaces.now ≡ Ok tt

-- ---- laws

-- what is to be read
abbrev pub gic_read : {A : Type 0} → GicContents → GicModel A
gic_read c = record {
  distributor = c.distributor;
  cpu_interfaces = c.cpu_interfaces.now;
  redistributors = c.redistributors.now;
  translation_services = c.translation_services.now;
  msi_frames = c.msi_frames.now;
}

-- such a table is valid
abbrev pub GicMadtIsValid : Type 0
GicMadtIsValid = (ids : TableIds) (c : GicContents) (table : List ℕ) → IsGicMadt ids c table → IsValid MADT table

-- and its GIC is exactly the one that was given, each list in order
abbrev pub GicMadtIsRead : Type 0 → Type 0
GicMadtIsRead A = (ids : TableIds) (c : GicContents) (table : List ℕ) → IsGicMadt ids c table
    → gic_of {A = A} table ≡ Ok (Some (gic_read c))
