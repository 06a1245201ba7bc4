use Rattle.std.proofs.Common.{◌≡◌, drop}
use Rattle.acpi_base.specs.Words.{Allows}
use Rattle.acpi.specs.Words.{areas_ranges, found_among}
use Rattle.acpi.proofs.rsdp.areas.first_of_areas.Given as goal

-- the areas that are left have the first valid one of all
abbrev pub invariant-loop-area : goal.invariant-loop-area
invariant-loop-area g l =
    let m = g.H.Lender.memory l.handler in
    (found_among l.accept m (drop l.area-index l.areas) ≡ found_among l.accept m l.areas)
    × Allows (g.H.Lender.may l.handler) (areas_ranges l.accept m (drop l.area-index l.areas))
