use Rattle.std.proofs.Common.{◌≡◌, length, ◌||◌, not}
use Rattle.acpi_iommu.specs.Words.{dmar_bytes, drhd_in, find_unit, first_sure, has_whole_scopes, is_unit_of, rest_left, structures_left}
use Rattle.acpi_iommu.proofs.dmar.units.DmarUnits.find_unit.Given as goal

-- those passed over aren't the unit, and are sure not to be
abbrev pub invariant-loop-structure : goal.invariant-loop-structure
invariant-loop-structure l =
    first_sure (drhd_in l.segment l.bus l.hops l.is_named) (λ e. not (is_unit_of l.segment e) || has_whole_scopes e)
    (structures_left l.structures) (rest_left l.structures)
    ≡ find_unit (dmar_bytes l.self) l.segment l.bus l.hops

abbrev pub decreases-loop-structure : goal.decreases-loop-structure
decreases-loop-structure l = length (structures_left l.structures)
