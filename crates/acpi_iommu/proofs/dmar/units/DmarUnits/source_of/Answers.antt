use Rattle.std.proofs.Common.{◌≡◌, ◌∙◌, true}
use Rattle.acpi_iommu.specs.Words.{dmar_bytes, is_whole}
use Rattle.acpi_iommu.proofs.Sure.{source_found}
use Rattle.acpi_iommu.proofs.dmar.units.DmarUnits.source_of.Goals as goal

pub returns : goal.returns
returns c =
    let whole : is_whole (dmar_bytes c.args.self.now) ≡ true = cc in
    c.find_source.ensures ∙ source_found c.args.kind (dmar_bytes c.args.self.now) c.args.id whole
