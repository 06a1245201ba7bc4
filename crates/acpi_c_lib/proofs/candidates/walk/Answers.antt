use Rattle.std.proofs.Common.{arith, sym}
use Rattle.acpi_c_lib.proofs.Unmapped.{few_missing_ranges, walked_all, walked_more, walked_to}
use Rattle.acpi_c_lib.proofs.candidates.walk.Goals as goal

pub loop-left-preserved : goal.loop-left-preserved
loop-left-preserved g c =
    let o = c.in-Err.missing_range in (
      rw (c.put_pair-next.ensures.items, c.put_pair-next.ensures.count)
          (walked_more c.args.accept _ _ _ _ _ o _ _ _ c.loop-left-test.true
          (sym c.in-Err.ensures.valid) c.in-Err.ensures.missing_range
          c.loop-left.invariant.0),
      omega (arith, c.put_pair-next.ensures.count, few_missing_ranges o),
      omega arith,
    )

pub returns-in-Ok-clause-written : goal.returns-in-Ok-clause-written
returns-in-Ok-clause-written g c = (walked_to c.args.accept _ _ _ _ _ _ _ _ c.loop-left-test.true
    (sym c.in-Ok.ensures.valid)
    c.loop-left.invariant.0).0

pub returns-in-Ok-clause-next : goal.returns-in-Ok-clause-next
returns-in-Ok-clause-next g c = (walked_to c.args.accept _ _ _ _ _ _ _ _ c.loop-left-test.true
    (sym c.in-Ok.ensures.valid)
    c.loop-left.invariant.0).1

pub returns-in-Ok-clause-found : goal.returns-in-Ok-clause-found
returns-in-Ok-clause-found g c = (walked_to c.args.accept _ _ _ _ _ _ _ _ c.loop-left-test.true
    (sym c.in-Ok.ensures.valid)
    c.loop-left.invariant.0).2

pub returns-clause-written : goal.returns-clause-written
returns-clause-written g c = (walked_all c.args.accept _ _ _ _ _ _ _ _ c.loop-left-test.false c.loop-left.invariant.0).0

pub returns-clause-next : goal.returns-clause-next
returns-clause-next g c = (walked_all c.args.accept _ _ _ _ _ _ _ _ c.loop-left-test.false c.loop-left.invariant.0).1

pub returns-clause-found : goal.returns-clause-found
returns-clause-found g c = (walked_all c.args.accept _ _ _ _ _ _ _ _ c.loop-left-test.false c.loop-left.invariant.0).2
