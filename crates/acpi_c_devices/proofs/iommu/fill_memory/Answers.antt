use Rattle.std.proofs.Common.{length, ap, arith}
use Rattle.acpi_iommu.specs.Words.{ivrs_bytes}
use Rattle.acpi_c_devices.specs.Words.{memory_record}
use Rattle.acpi_c_devices.proofs.IommuLists.{memory_few}
use Rattle.acpi_c_devices.proofs.iommu.fill_memory.Goals as goal

pub fill-requires-clause-few : goal.fill-requires-clause-few
fill-requires-clause-few c =
    let few = memory_few memory_record (ivrs_bytes c.over.result) c.args.device_id in
    rw c.each_memory.ensures (omega (arith, few, ap length c.over.ensures))
