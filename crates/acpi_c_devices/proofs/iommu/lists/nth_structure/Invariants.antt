use Rattle.std.proofs.Common.{◌≡◌, filter, length, slice_get}
use Rattle.acpi_iommu.specs.Words.{structures_left}
use Rattle.acpi_c_devices.specs.Words.{is_of_type, structure_in}
use Rattle.acpi_c_devices.proofs.iommu.lists.nth_structure.Given as goal

-- the unit is at the index `before` among those that are left
abbrev pub invariant-loop-structure : goal.invariant-loop-structure
invariant-loop-structure l =
    slice_get (filter (is_of_type l.kind) (structures_left l.structures)) l.before ≡ structure_in l.kind l.table l.index

abbrev pub decreases-loop-structure : goal.decreases-loop-structure
decreases-loop-structure l = length (structures_left l.structures)
