use Rattle.std.proofs.Common.{◌≡◌, length}
use Rattle.acpi_iommu.specs.Words.{structures_left, reserved_left}
use Rattle.acpi_iommu.proofs.dmar.reserved.ReservedIterIterator.next.Given as goal

-- what was passed over is not reserved for the device
abbrev pub invariant-loop-structure : goal.invariant-loop-structure
invariant-loop-structure l = reserved_left l.self ≡ reserved_left l.fn.self

abbrev pub decreases-loop-structure : goal.decreases-loop-structure
decreases-loop-structure l = length (structures_left l.self.structures)
