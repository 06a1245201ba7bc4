use Rattle.std.proofs.Common.{◌≡◌, length}
use Rattle.acpi_iommu.specs.Words.{blocks_left, best_left}
use Rattle.acpi_iommu.proofs.ivrs.blocks.BestBlockIterIterator.next.Given as goal

-- what was passed over is of other types
abbrev pub invariant-loop-block : goal.invariant-loop-block
invariant-loop-block l = best_left l.self ≡ best_left l.fn.self

abbrev pub decreases-loop-block : goal.decreases-loop-block
decreases-loop-block l = length (blocks_left l.self.blocks)
