use Rattle.std.proofs.Common.{◌≡◌, length}
use Rattle.acpi_base.specs.FromStd.{list_all}
use Rattle.acpi_iommu.specs.Words.{is_range, reserved_left}
use Rattle.acpi_iommu.proofs.dmar.units.DmarUnits.reserved_for.Given as goal

-- those passed over are ranges
abbrev pub invariant-loop-range : goal.invariant-loop-range
invariant-loop-range l = list_all is_range (reserved_left l.rest) ≡ list_all is_range (reserved_left l.ranges)

abbrev pub decreases-loop-range : goal.decreases-loop-range
decreases-loop-range l = length (reserved_left l.rest)
