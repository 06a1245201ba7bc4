use Rattle.std.proofs.Common.{◌≡◌, ◌∙◌, true}
use Rattle.acpi_iommu.specs.IvrsUnits.{is_whole}
use Rattle.acpi_iommu.specs.Words.{ivrs_bytes}
use Rattle.acpi_iommu.proofs.Sure.{block_found}
use Rattle.acpi_iommu.proofs.ivrs.blocks.IvrsBlocks.block_for.Goals as goal

pub returns : goal.returns
returns c =
    let a = c.args in
    let whole : is_whole (ivrs_bytes a.self.now) ≡ true = cc in
    c.find_block.ensures ∙ block_found (ivrs_bytes a.self.now) a.segment a.device_id whole
