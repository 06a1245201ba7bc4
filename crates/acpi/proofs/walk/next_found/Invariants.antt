use Rattle.std.proofs.Common.{◌≡◌, filter_map, flat_map, length}
use Rattle.acpi_base.specs.Words.{Allows}
use Rattle.acpi.specs.Words.{pointers_left}
use Rattle.acpi.proofs.walk.next_found.Given as goal

-- what was passed over gives no item, and the others may be asked for
abbrev pub invariant-loop-address : goal.invariant-loop-address
invariant-loop-address g l =
    let m = g.H.Lender.memory l.handler in
    (filter_map (g.M.Found.found l.accept m) (pointers_left l.pointers) ≡ filter_map (g.M.Found.found l.accept m)
    (pointers_left l.fn.pointers))
    × Allows (g.H.Lender.may l.handler) (flat_map (g.M.Asked.ranges l.accept m) (pointers_left l.pointers))

abbrev pub decreases-loop-address : goal.decreases-loop-address
decreases-loop-address g l = length (pointers_left l.pointers)
