-- The units that remap devices' accesses to memory, as C gets them.
use Rattle.std.specs.Prelude.{ℕ, ◌+◌, List, replicate, Option, Some, None, map, Result, Ok, Err, unwrap_or}
use Rattle.acpi_base.specs.FromStd.{is_some}
use Rattle.acpi_base.specs.Words.{◌>>=◌, sdt_kind}
use Rattle.acpi.specs.Types.{DMAR, IVRS}
use Rattle.acpi_iommu.specs.Words.{blocks_of, dmar_at, find_block, find_source, find_unit, includes_pci_all, memory_in, register_bytes, reserved_in, structures_of}
use Rattle.acpi_c_devices.specs.Types.{Dmar, DmarFlags, Drhd, Rmrr, Hop, UnitSource, IommuError, Ivhd, Ivmd, DeviceUnit, DmarReserved, DmarSource, DmarUnit, IvrsDevice, IvrsMemory, IvrsUnit, NoIommu, Refusal, Source}
use Rattle.acpi_c_lib.specs.Answers.{flag, result_map}
use Rattle.acpi_c_lib.specs.Below.{first_table}
use Rattle.acpi_c_lib.specs.Refusals.{iommu_refusal}

-- ---- results

-- what is shown of what is found, or that there is no unit
abbrev pub found : {A B : Type 0} → (A → B) → Result (Option A) IommuError → Result B Refusal
found show (Ok (Some x)) = Ok (show x)
found show (Ok None) = Err NoIommu
found show (Err e) = Err (iommu_refusal e)

-- ---- the DMAR (Intel Virtualization Technology for Directed I/O 4.0, chapter 8)

-- the bytes of the first valid DMAR
abbrev pub dmar_in : Source → Result (List ℕ) Refusal
dmar_in s = first_table (sdt_kind DMAR 48) s

abbrev pub dmar_flags_record : Dmar → DmarFlags
dmar_flags_record d = record {
  address_bits = d.host_address_width + 1;
  flags = d.flags;
  reserved = 0;
}

abbrev pub dmar_flags_below : Source → Result DmarFlags Refusal
dmar_flags_below s = result_map (λ table. dmar_flags_record (dmar_at table)) (dmar_in s)

abbrev pub unit_record : Drhd → DmarUnit
unit_record d = record {
  register_base = d.register_base;
  register_bytes = register_bytes d;
  segment = d.segment;
  includes_pci_all = flag (includes_pci_all d);
  flags = d.flags;
  size = d.size;
  reserved = replicate 3 0;
}

abbrev pub source_record : UnitSource → DmarSource
source_record u = record {
  unit = unit_record u.unit;
  bus = u.bus;
  hop = unwrap_or u.hop (record { device = 0; function = 0 });
  has_hop = flag (is_some u.hop);
  reserved = replicate 4 0;
}

abbrev pub dmar_unit_below : Source → ℕ → ℕ → List Hop → Result DmarUnit Refusal
dmar_unit_below s segment bus hops = do
  table ← dmar_in s
  found unit_record (find_unit table segment bus hops)

abbrev pub dmar_io_apic_below : Source → ℕ → Result DmarSource Refusal
dmar_io_apic_below s id = do
  table ← dmar_in s
  found source_record (find_source 3 table id)

abbrev pub dmar_hpet_below : Source → ℕ → Result DmarSource Refusal
dmar_hpet_below s number = do
  table ← dmar_in s
  found source_record (find_source 4 table number)

abbrev pub reserved_record : Rmrr → DmarReserved
reserved_record r = record { base = r.base; limit = r.limit; segment = r.segment; reserved = replicate 6 0 }

abbrev pub dmar_reserved_below : Source → ℕ → ℕ → List Hop → Result (List DmarReserved) Refusal
dmar_reserved_below s segment bus hops =
    result_map (λ table. map reserved_record (reserved_in segment bus hops (structures_of table))) (dmar_in s)

-- ---- the IVRS (AMD I/O Virtualization Technology (IOMMU) Specification 3.08, section 5.2)

-- the bytes of the first valid IVRS
abbrev pub ivrs_in : Source → Result (List ℕ) Refusal
ivrs_in s = first_table (sdt_kind IVRS 48) s

abbrev pub block_record : Ivhd → IvrsUnit
block_record b = record {
  base = b.base;
  extended_features = unwrap_or b.extended_features 0;
  features = b.features;
  segment = b.segment;
  device_id = b.device_id;
  capability_offset = b.capability_offset;
  info = b.info;
  block_type = b.kind;
  flags = b.flags;
  has_extended_features = flag (is_some b.extended_features);
  reserved = 0;
}

abbrev pub device_record : DeviceUnit → IvrsDevice
device_record d = record {
  unit = block_record d.unit;
  source_id = d.source;
  settings = d.settings;
  reserved = replicate 5 0;
}

abbrev pub ivrs_unit_below : Source → ℕ → ℕ → Result IvrsDevice Refusal
ivrs_unit_below s segment id = do
  table ← ivrs_in s
  found device_record (find_block table segment id)

abbrev pub memory_record : Ivmd → IvrsMemory
memory_record m = record {
  start = m.start;
  length = m.length;
  device_id = m.device_id;
  auxiliary = m.auxiliary;
  block_type = m.kind;
  flags = m.flags;
  reserved = replicate 2 0;
}

abbrev pub ivrs_memory_below : Source → ℕ → Result (List IvrsMemory) Refusal
ivrs_memory_below s id = result_map (λ table. map memory_record (memory_in id (blocks_of table))) (ivrs_in s)
