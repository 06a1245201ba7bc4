use Rattle.std.proofs.Common.{◌≡◌, length, find}
use Rattle.acpi_iommu.specs.Words.{structure_bytes, is_numbered, scopes_left, scopes_of}
use Rattle.acpi_iommu.proofs.dmar.structure.DmarStructure.source.Given as goal

-- those passed over have another type or Enumeration ID
abbrev pub invariant-loop-scope : goal.invariant-loop-scope
invariant-loop-scope l = find (is_numbered l.kind l.id) (scopes_left l.scopes)
    ≡ find (is_numbered l.kind l.id) (scopes_of (structure_bytes l.self))

abbrev pub decreases-loop-scope : goal.decreases-loop-scope
decreases-loop-scope l = length (scopes_left l.scopes)
