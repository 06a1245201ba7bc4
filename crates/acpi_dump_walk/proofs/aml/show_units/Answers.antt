use Rattle.std.proofs.Common.{◌≤◌, [], length, arith, refl}
use Rattle.acpi_dump_walk.proofs.Passed.{unit_more, unit_none, units_all}
use Rattle.acpi_dump_walk.proofs.aml.show_units.Goals as goal
use Rattle.acpi_dump_walk.proofs.aml.show_units.Goals.{in-Some+in_ok-first, in_default-name}

pub units-init : goal.units-init
units-init g c = (omega arith, ([], refl))

pub returns-in_default : goal.returns-in_default
returns-in_default g c = units_all g.S.ShowObjects.shows c.args.start c.units.at _ _ _ c.units.invariant.1

pub returns-in_err-first : goal.returns-in_err-first
returns-in_err-first g c = units_all g.S.ShowObjects.shows c.args.start c.units.at _ _ _ c.units.invariant.1

pub returns : goal.returns
returns g c = units_all g.S.ShowObjects.shows c.args.start c.units.at _ _ _ c.units.invariant.1

pub units-preserved : goal.units-preserved
units-preserved g c =
    let low : c.args.start ≤ c.in-Ok.unit.end = omega (arith, c.units.invariant.0, c.in-Ok.ensures.after) in (
      low,
      elim c.match-unit.branch [
        | in-Some+in_ok-first w ↦
            let fits : c.in-Ok.unit.end ≤ length c.args.aml.now = rw w.in-Some.is at c.in-Ok.ensures.within in
            rw w.show-is (unit_more g.S.ShowObjects.shows c.args.start c.units.at c.in-Ok.unit.end (length c.args.aml.now) _ _ _ _
            c.units.invariant.0 c.units-test.true c.in-Ok.ensures.after fits refl (omega (arith, c.in-Ok.ensures.after))
            c.units.invariant.1 w.object.ensures)
        | in_default-name w ↦
            rw w.show-is (unit_none g.S.ShowObjects.shows c.args.start c.units.at c.in-Ok.unit.end (length c.args.aml.now) _ _
            c.in-Ok.ensures.after c.units.invariant.1)
      ],
    )
