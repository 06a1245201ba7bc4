use Rattle.std.proofs.Common.{arith}
use Rattle.acpi_iommu.specs.Words.{structure_bytes}
use Rattle.acpi_c_devices.specs.Words.{scope_record}
use Rattle.acpi_c_devices.proofs.IommuLists.{scopes_few}
use Rattle.acpi_c_devices.proofs.iommu.lists.fill_scopes.Goals as goal

pub fill-requires-clause-few : goal.fill-requires-clause-few
fill-requires-clause-few c =
    let few = scopes_few scope_record (structure_bytes c.args.structure.now) in
    rw c.scopes.ensures.items (omega (arith, few))
