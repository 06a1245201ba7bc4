use Rattle.std.proofs.Common.{◌≡◌}
use Rattle.acpi_base.specs.FromStd.{list_all}
use Rattle.acpi_iommu.specs.Words.{ends_below, memory_left}
use Rattle.acpi_iommu.proofs.ivrs.blocks.IvrsBlocks.memory_for.Given as goal

-- those passed over end below 2^64
abbrev pub invariant-loop-range : goal.invariant-loop-range
invariant-loop-range l = list_all ends_below (memory_left l.rest) ≡ list_all ends_below (memory_left l.memory)
