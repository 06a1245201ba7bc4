use Rattle.std.proofs.Common.{length, ap, arith}
use Rattle.acpi_iommu.specs.Words.{dmar_bytes}
use Rattle.acpi_c_devices.proofs.IommuLists.{units_few}
use Rattle.acpi_c_devices.proofs.iommu.regions.fill_structures.Goals as goal

pub fill-requires-clause-few : goal.fill-requires-clause-few
fill-requires-clause-few g c =
    let few = units_few g.R.DmarRecord.shown (dmar_bytes c.over.result) in
    rw c.structures.ensures.items (omega (arith, few, ap length c.over.ensures))
