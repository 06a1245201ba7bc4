use Rattle.acpi.proofs.Asked.{asked_kept, asked_now}
use Rattle.acpi.specs.Words.{pointers_left}
use Rattle.acpi.proofs.walk.next_asked.Goals as goal

pub returns-clause-here : goal.returns-clause-here
returns-clause-here g c =
    let h = c.args.handler.now in
    asked_now (g.H.Lender.may h) (g.M.Asked.ranges c.args.accept (g.H.Lender.memory h)) _ _ _ c.next.ensures.steps c.requires

pub returns-clause-left : goal.returns-clause-left
returns-clause-left g c =
    let h = c.args.handler.now in
    asked_kept (g.H.Lender.may h) (g.M.Asked.ranges c.args.accept (g.H.Lender.memory h)) (pointers_left c.args.pointers.now)
    (pointers_left c.next.new.self) c.next.result c.next.ensures.steps c.requires
