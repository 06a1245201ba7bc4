use Rattle.std.proofs.Common.{◌≡◌, ◌∙◌, true}
use Rattle.acpi_iommu.specs.Words.{dmar_bytes, is_whole}
use Rattle.acpi_iommu.proofs.Sure.{unit_found}
use Rattle.acpi_iommu.proofs.dmar.units.DmarUnits.unit_for.Goals as goal

pub returns : goal.returns
returns c =
    let a = c.args in
    let whole : is_whole (dmar_bytes a.self.now) ≡ true = cc in
    c.find_unit.ensures ∙ unit_found (dmar_bytes a.self.now) a.segment a.bus a.hops.now whole
