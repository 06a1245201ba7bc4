use Rattle.std.proofs.Common.{◌≡◌, length}
use Rattle.acpi_iommu.specs.Words.{blocks_left, memory_left}
use Rattle.acpi_iommu.proofs.ivrs.blocks.MemoryIterIterator.next.Given as goal

-- what was passed over is no memory for the device
abbrev pub invariant-loop-block : goal.invariant-loop-block
invariant-loop-block l = memory_left l.self ≡ memory_left l.fn.self

abbrev pub decreases-loop-block : goal.decreases-loop-block
decreases-loop-block l = length (blocks_left l.self.blocks)
