use Rattle.std.proofs.Common.{◌<◌, ◌≤◌, length, refl, arith}
use Rattle.acpi.specs.Words.{accepted_in_areas}
use Rattle.acpi.proofs.Among.{area_in_turn, found_in_turn, later_areas, no_area_left}
use Rattle.acpi.proofs.rsdp.areas.first_of_areas.Goals as goal

pub first_of_area-requires : goal.first_of_area-requires
first_of_area-requires g c =
    let h = c.args.handler.now in
    let less : c.loop-area.area-index < length c.args.areas.now = omega arith in
    area_in_turn c.args.accept (g.H.Lender.may h) (g.H.Lender.memory h) _ _ _ less c.loop-area.invariant.1

pub loop-area-preserved : goal.loop-area-preserved
loop-area-preserved g c =
    let h = c.args.handler.now in
    let less : c.loop-area.area-index < length c.args.areas.now = omega arith in
    later_areas c.args.accept (g.H.Lender.may h) (g.H.Lender.memory h) _ _ _ _ less c.loop-area.invariant.0
    c.loop-area.invariant.1
    c.in_default.ensures.found

pub returns-in-Some-clause-exact : goal.returns-in-Some-clause-exact
unfolding accepted_in_areas
returns-in-Some-clause-exact g c =
    let less : c.loop-area.area-index < length c.args.areas.now = omega arith in
    let first = found_in_turn c.args.accept (g.H.Lender.memory c.args.handler.now) _ _ _ _ _ less
    c.loop-area.invariant.0
    c.in-Some.ensures.found in
    rw (← first) refl

pub returns-clause-exact : goal.returns-clause-exact
unfolding accepted_in_areas
returns-clause-exact g c =
    let over : length c.args.areas.now ≤ c.loop-area.area-index = omega arith in
    let none = no_area_left c.args.accept (g.H.Lender.memory c.args.handler.now) _ _ _ over c.loop-area.invariant.0 in
    rw (← none) refl
