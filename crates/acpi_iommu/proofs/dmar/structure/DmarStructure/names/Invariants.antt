use Rattle.std.proofs.Common.{◌≡◌, length}
use Rattle.acpi_base.specs.FromStd.{list_any}
use Rattle.acpi_iommu.specs.Words.{structure_bytes, names, names_device, scopes_left}
use Rattle.acpi_iommu.proofs.dmar.structure.DmarStructure.names.Given as goal

-- those passed over don't name the device
abbrev pub invariant-loop-scope : goal.invariant-loop-scope
invariant-loop-scope l = list_any (names l.bus l.hops) (scopes_left l.scopes)
    ≡ names_device l.bus l.hops (structure_bytes l.self)

abbrev pub decreases-loop-scope : goal.decreases-loop-scope
decreases-loop-scope l = length (scopes_left l.scopes)
