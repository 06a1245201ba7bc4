-- How an error is printed.
use Rattle.std.specs.Prelude.{ℕ, List, codes}
use Rattle.acpi_iommu.specs.declared.error.IommuError.{IommuError}
use Rattle.acpi_iommu.specs.declared.error.IommuError.TheVariants.{InvalidMemoryRange, InvalidStructureLength}

-- the variant's name
abbrev pub iommu_error_text : IommuError → List ℕ
iommu_error_text InvalidStructureLength = codes "InvalidStructureLength"
iommu_error_text InvalidMemoryRange = codes "InvalidMemoryRange"
