use Rattle.std.proofs.Common.{◌≡◌, length, ◌&&◌}
use Rattle.acpi_base.specs.FromStd.{list_any}
use Rattle.acpi_iommu.specs.Words.{dmar_bytes, is_named, is_unit_of, names_device, structures_left}
use Rattle.acpi_iommu.proofs.dmar.units.DmarUnits.is_named.Given as goal

-- those passed over don't name the device
abbrev pub invariant-loop-structure : goal.invariant-loop-structure
invariant-loop-structure l =
    list_any (λ e. is_unit_of l.segment e && names_device l.bus l.hops e) (structures_left l.structures)
    ≡ is_named (dmar_bytes l.self) l.segment l.bus l.hops

abbrev pub decreases-loop-structure : goal.decreases-loop-structure
decreases-loop-structure l = length (structures_left l.structures)
