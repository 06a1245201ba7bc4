use Rattle.std.proofs.Common.{length, ap, arith}
use Rattle.acpi_iommu.specs.Words.{dmar_bytes}
use Rattle.acpi_c_devices.specs.Words.{reserved_record}
use Rattle.acpi_c_devices.proofs.IommuLists.{reserved_few}
use Rattle.acpi_c_devices.proofs.iommu.fill_reserved.Goals as goal

pub fill-requires-clause-few : goal.fill-requires-clause-few
fill-requires-clause-few c =
    let a = c.args in
    let few = reserved_few reserved_record (dmar_bytes c.over.result) a.segment a.bus a.hops.now in
    rw c.each_reserved-ranges.ensures (omega (arith, few, ap length c.over.ensures))
