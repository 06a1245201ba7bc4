use Rattle.std.proofs.Common.{◌≡◌, ◌||◌, not}
use Rattle.acpi_iommu.specs.Ivrs.{rest_left}
use Rattle.acpi_iommu.specs.Words.{blocks_left, find_block, first_sure, has_whole_entries, is_ivhd_of, ivrs_bytes, unit_in}
use Rattle.acpi_iommu.proofs.ivrs.blocks.IvrsBlocks.find_block.Given as goal

-- those passed over say nothing of the device, and are sure not to
abbrev pub invariant-loop-block : goal.invariant-loop-block
invariant-loop-block l =
    first_sure (unit_in l.kind l.segment l.device_id)
    (λ b. not (is_ivhd_of l.kind l.segment b) || has_whole_entries b) (blocks_left l.blocks) (rest_left l.blocks)
    ≡ find_block (ivrs_bytes l.self) l.segment l.device_id
