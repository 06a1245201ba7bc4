use Rattle.std.proofs.Common.{◌+◌, ◌<◌, ◌≤◌, arith}
use Rattle.acpi.proofs.Among.{asked_past_all, walk_past_all}
use Rattle.acpi.proofs.Asked.{asked_candidate}
use Rattle.acpi.proofs.rsdp.areas.first_valid.Goals as goal

pub candidate_at-requires-clause-asked : goal.candidate_at-requires-clause-asked
candidate_at-requires-clause-asked g c =
    let h = c.args.handler.now in
    let turn : c.loop-passed.passed < c.args.count = omega arith in
    asked_candidate (g.H.Lender.may h) c.args.accept (g.H.Lender.memory h) _ _ _ turn c.loop-passed.invariant.2

pub loop-passed-preserved : goal.loop-passed-preserved
loop-passed-preserved g c =
    let h = c.args.handler.now in
    let m = g.H.Lender.memory h in
    let turn : c.loop-passed.passed < c.args.count = omega arith in
    let most : c.loop-passed.passed + c.in-Err.refused ≤ c.args.count = omega (arith, c.in-Err.ensures.most) in (
      most,
      walk_past_all c.args.accept m _ _ _ _ _ c.loop-passed.invariant.1 most c.in-Err.ensures.refused,
      asked_past_all c.args.accept m _ _ (g.H.Lender.may h) _ _ c.loop-passed.invariant.2 most c.in-Err.ensures.refused,
    )
