use Rattle.std.proofs.Common.{length, ap, arith}
use Rattle.acpi_iommu.specs.Words.{ivrs_bytes}
use Rattle.acpi_c_devices.proofs.IommuLists.{ivhds_few}
use Rattle.acpi_c_devices.proofs.iommu.regions.fill_blocks.Goals as goal

pub fill-requires-clause-few : goal.fill-requires-clause-few
fill-requires-clause-few g c =
    let few = ivhds_few g.R.IvrsRecord.shown (ivrs_bytes c.over.result) in
    rw c.blocks-2.ensures.items (omega (arith, few, ap length c.over.ensures))
