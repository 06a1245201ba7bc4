-- What a DMAR (Intel Virtualization Technology for Directed I/O 4.0, chapter 8) and an IVRS (AMD I/O Virtualization
-- Technology (IOMMU) Specification 3.08, section 5.2) have beside units, as C gets it.
use Rattle.std.specs.Prelude.{ℕ, List, replicate, filter_map, Option, Some, None, Result, option_and_then}
use Rattle.acpi_base.specs.Words.{has_bit}
use Rattle.acpi_iommu.specs.Words.{block_fields, blocks_of, fields_of, structures_of}
use Rattle.acpi_iommu.specs.declared.dmar.fields.DmarFields.{DmarFields}
use Rattle.acpi_iommu.specs.declared.dmar.fields.DmarFields.TheVariants as dmar
use Rattle.acpi_iommu.specs.declared.ivrs.block.IvrsFields.{IvrsFields}
use Rattle.acpi_iommu.specs.declared.ivrs.block.IvrsFields.TheVariants as ivrs
use Rattle.acpi_c_lib.specs.Answers.{flag, result_map}
use Rattle.acpi_c_devices.specs.Iommu.{dmar_in, ivrs_in, memory_record, reserved_record}
use Rattle.acpi_c_devices.specs.Types.{DmarAffinity, DmarReserved, DmarRootPorts, IvrsMemory, Refusal, Source}

-- ---- the DMAR

-- what the structures of one type of the first valid DMAR show
abbrev pub below_dmar : {A : Type 0} → Source → (List ℕ → Option A) → Result (List A) Refusal
below_dmar s shown = result_map (λ table. filter_map shown (structures_of table)) (dmar_in s)

-- the memory of an RMRR (section 8.4)
abbrev pub region_in : DmarFields → Option DmarReserved
region_in (dmar.Rmrr r) = Some (reserved_record r)
region_in _ = None

abbrev pub rmrr_shown : List ℕ → Option DmarReserved
rmrr_shown e = option_and_then region_in (fields_of e)

-- the ports of an ATSR (section 8.5)
abbrev pub ports_in : DmarFields → Option DmarRootPorts
ports_in (dmar.Atsr a) = Some (record {
  segment = a.segment;
  includes_all = flag (has_bit a.flags 0);  -- ALL_PORTS
  flags = a.flags;
})
ports_in _ = None

abbrev pub root_ports_shown : List ℕ → Option DmarRootPorts
root_ports_shown e = option_and_then ports_in (fields_of e)

-- the unit and the domain of an RHSA (section 8.6)
abbrev pub affinity_in : DmarFields → Option DmarAffinity
affinity_in (dmar.Rhsa r) =
    Some (record { register_base = r.register_base; domain = r.domain; reserved = replicate 4 0 })
affinity_in _ = None

abbrev pub dmar_affinity_shown : List ℕ → Option DmarAffinity
dmar_affinity_shown e = option_and_then affinity_in (fields_of e)

-- ---- the IVRS

-- what the blocks of one type of the first valid IVRS show
abbrev pub below_ivrs : {A : Type 0} → Source → (List ℕ → Option A) → Result (List A) Refusal
below_ivrs s shown = result_map (λ table. filter_map shown (blocks_of table)) (ivrs_in s)

-- the memory of an IVMD
abbrev pub memory_of_block : IvrsFields → Option IvrsMemory
memory_of_block (ivrs.Ivmd m) = Some (memory_record m)
memory_of_block (ivrs.Ivhd b) = None

abbrev pub ivmd_shown : List ℕ → Option IvrsMemory
ivmd_shown b = option_and_then memory_of_block (block_fields b)
