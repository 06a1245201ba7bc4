use Rattle.std.proofs.Common.{arith, ◌||◌, not}
use Rattle.acpi_base.proofs.FromStd.{common_steps, nat_tests}
use Rattle.acpi_iommu.proofs.Sure.{passed}
use Rattle.acpi_iommu.specs.Words.{block_bytes, has_whole_entries, is_ivhd_of, unit_in}
use Rattle.acpi_iommu.proofs.ivrs.blocks.IvrsBlocks.find_block.Goals as goal

pub loop-block-preserved : goal.loop-block-preserved
loop-block-preserved c =
    let a = c.args in
    let kind = c.best_kind-kind.result in
    passed (unit_in kind a.segment a.device_id) (λ b. not (is_ivhd_of kind a.segment b) || has_whole_entries b)
    (block_bytes c.in-Some.block) _ _ _ _ _ c.in-Some.ensures.steps.0 c.in-Some.ensures.steps.1.0
    (grind (arith, common_steps, nat_tests)) (grind (arith, common_steps, nat_tests)) c.loop-block.invariant
