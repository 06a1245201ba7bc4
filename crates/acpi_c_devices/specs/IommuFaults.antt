-- The structures of a DMAR and the blocks of an IVRS at fault, as C gets them.
use Rattle.std.specs.Prelude.{ℕ, ◌+◌, List, [], ◌∷◌, length, Option, Result, option_map}
use Rattle.acpi_base.specs.FromStd.{cons_option}
use Rattle.acpi_base.specs.Words.{sdt_kind}
use Rattle.acpi.specs.Types.{DMAR, IVRS}
use Rattle.acpi_iommu.specs.Words.{block_fault, block_kind, blocks_cut, cut_of, kind_of, structure_fault}
use Rattle.acpi_c_lib.specs.Answers.{result_map}
use Rattle.acpi_c_lib.specs.Below.{found_table}
use Rattle.acpi_c_lib.specs.EntryFaults.{entry_fault}
use Rattle.acpi_c_lib.specs.Refusals.{iommu_refusal}
use Rattle.acpi_c_devices.specs.Types.{IommuError, InvalidStructureLength, Refusal, Source}
use Rattle.acpi_c_lib.specs.declared.entry_faults.EntryFault.{EntryFault}

-- one of a type, at an address, with its error
abbrev pub iommu_fault : ℕ → ℕ → IommuError → EntryFault
iommu_fault address entry_type error = entry_fault address entry_type (iommu_refusal error)

-- those at fault among pieces one after the other, from an address on, and then the rest, if it isn't empty
abbrev pub iommu_faults_from : (List ℕ → ℕ) → (List ℕ → Option IommuError) → ℕ → List (List ℕ) → List ℕ
    → List EntryFault
iommu_faults_from type_of fault_of address [] [] = []
iommu_faults_from type_of fault_of address [] (b ∷ rest) =
    iommu_fault address (type_of (b ∷ rest)) InvalidStructureLength ∷ []
iommu_faults_from type_of fault_of address (p ∷ ps) rest =
    cons_option (option_map (iommu_fault address (type_of p)) (fault_of p))
    (iommu_faults_from type_of fault_of (address + length p) ps rest)

-- the faults of a table at an address, whose pieces begin at 48

abbrev pub dmar_faults_of : ℕ × List ℕ → List EntryFault
dmar_faults_of found =
    iommu_faults_from kind_of structure_fault (found.0 + 48) (cut_of found.1).0 (cut_of found.1).1

abbrev pub ivrs_faults_of : ℕ × List ℕ → List EntryFault
ivrs_faults_of found =
    iommu_faults_from block_kind block_fault (found.0 + 48) (blocks_cut found.1).0 (blocks_cut found.1).1

abbrev pub dmar_faults_below : Source → Result (List EntryFault) Refusal
dmar_faults_below s = result_map dmar_faults_of (found_table (sdt_kind DMAR 48) s)

abbrev pub ivrs_faults_below : Source → Result (List EntryFault) Refusal
ivrs_faults_below s = result_map ivrs_faults_of (found_table (sdt_kind IVRS 48) s)
