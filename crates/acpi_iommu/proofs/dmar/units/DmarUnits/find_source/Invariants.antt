use Rattle.std.proofs.Common.{◌≡◌, length, ◌==◌, ◌||◌, not}
use Rattle.acpi_iommu.specs.Words.{dmar_bytes, find_source, first_sure, has_whole_scopes, kind_of, rest_left, source_in, structures_left}
use Rattle.acpi_iommu.proofs.dmar.units.DmarUnits.find_source.Given as goal

-- those passed over have no such scope, and are sure to have none
abbrev pub invariant-loop-structure : goal.invariant-loop-structure
invariant-loop-structure l =
    first_sure (source_in l.kind l.id) (λ e. not (kind_of e == 0) || has_whole_scopes e)
    (structures_left l.structures) (rest_left l.structures)
    ≡ find_source l.kind (dmar_bytes l.self) l.id

abbrev pub decreases-loop-structure : goal.decreases-loop-structure
decreases-loop-structure l = length (structures_left l.structures)
