use Rattle.std.proofs.Common.{◌≤◌, arith, refl}
use Rattle.std.proofs.lemmas.List.{length-take}
use Rattle.acpi_dump_walk.proofs.Passed.{begun, if_err, only_begun, whole_term}
use Rattle.acpi_dump_walk.proofs.aml.show_object.Goals as goal

pub returns-in_err-map_err-in-Some-inner-clause-begun : goal.returns-in_err-map_err-in-Some-inner-clause-begun
returns-in_err-map_err-in-Some-inner-clause-begun g c =
    if_err _ _ (λ e. only_begun g.S.ShowObjects.shows c.args.at _ _ _ c.object.ensures refl)

pub returns-in_err-show_units-in_default-inner-clause-begun : goal.returns-in_err-show_units-in_default-inner-clause-begun
returns-in_err-show_units-in_default-inner-clause-begun g c =
    let low : c.args.at ≤ c.in-Some-units.units = rw c.in-Some-units.is at c.in_ok-found.ensures.units in
    if_err _ _ (λ e. begun g.S.ShowObjects.shows c.args.at _ _ _ _ _ _ c.object.ensures c.show_units.ensures refl low
    (simp length-take (omega (arith, c.in_ok-found.ensures.after))))

pub returns-in_ok-show_units-in_default-inner-clause-term : goal.returns-in_ok-show_units-in_default-inner-clause-term
returns-in_ok-show_units-in_default-inner-clause-term g c =
    let low : c.args.at ≤ c.in-Some-units.units = rw c.in-Some-units.is at c.in_ok-found.ensures.units in
    whole_term g.S.ShowObjects.shows c.args.at c.in_ok-found.found.end _ _ _ _ _ _ c.object.ensures c.show_units.ensures
    refl (omega (arith, c.in_ok-found.ensures.after)) c.in_ok-found.ensures.after low
    (simp length-take (omega arith))
