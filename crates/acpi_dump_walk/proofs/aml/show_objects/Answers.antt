use Rattle.std.proofs.Common.{◌∷◌, [], ◌++◌, arith, inl, inr, refl}
use Rattle.acpi_dump_walk.proofs.Passed.{terms_more}
use Rattle.acpi_dump_walk.proofs.aml.show_objects.Goals as goal

pub objects-init : goal.objects-init
objects-init g c = (c.requires, ([], (refl, refl)))

pub objects-preserved : goal.objects-preserved
objects-preserved g c =
    let so_far = c.objects.invariant.1 in (
      c.in-Ok.ensures.within,
      (
        so_far.0 ++ c.in-Ok.next ∷ [],
        terms_more g.S.ShowObjects.shows c.args.start c.objects.at c.in-Ok.next so_far.0 _ _ _ so_far.1 c.in-Ok.ensures.term,
      ),
    )

pub returns-in-Err : goal.returns-in-Err
returns-in-Err g c = record {
  terms = c.objects.invariant.1.0;
  stop = c.objects.at;
  middle = c.objects.show;
  passed = c.objects.invariant.1.1;
  last = inr (c.objects-test.true, (c.in-Err.ends, c.show_object.new.show, c.in-Err.ensures.begun, c.ends.ensures));
}

pub returns : goal.returns
returns g c = record {
  terms = c.objects.invariant.1.0;
  stop = c.objects.at;
  middle = c.objects.show;
  passed = c.objects.invariant.1.1;
  last = inl (omega (arith, c.objects.invariant.0, c.objects-test.false), refl);
}
