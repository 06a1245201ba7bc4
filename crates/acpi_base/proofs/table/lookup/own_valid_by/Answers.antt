use Rattle.acpi_base.proofs.AllowedRanges.{asked_own}
use Rattle.acpi_base.proofs.OwnTable.{own_accepted_is, own_signature, same_own_accepted}
use Rattle.acpi_base.proofs.table.lookup.own_valid_by.Goals as goal

pub claim_by-requires-clause-signature : goal.claim_by-requires-clause-signature
claim_by-requires-clause-signature g c = own_signature _ _ (rw c.shown.ensures at c.leading-signature.ensures)

pub claim_by-requires-clause-asked : goal.claim_by-requires-clause-asked
claim_by-requires-clause-asked g c =
    let own = own_signature _ _ (rw c.shown.ensures at c.leading-signature.ensures) in
    rw (c.in_ok-head.ensures.handler, c.in_ok-head.ensures.start)
    (asked_own (g.H.Lender.may c.args.handler.now) c.args.accept _ _ _ _ c.requires c.in_ok-head.ensures.shown own)

pub returns-clause-table : goal.returns-clause-table
returns-clause-table g c =
    let own = own_signature _ _ (rw c.shown.ensures at c.leading-signature.ensures) in
    rw (own_accepted_is c.args.accept (g.H.Lender.memory c.args.handler.now) c.leading-signature.result c.args.address _
    c.in_ok-head.ensures.shown own)
    (rw (c.in_ok-head.ensures.handler, c.in_ok-head.ensures.start) at c.claim_by.ensures.shown)

pub returns-clause-footprint : goal.returns-clause-footprint
returns-clause-footprint g c n h =
    rw (same_own_accepted c.args.accept (g.H.Lender.memory c.args.handler.now) n c.args.address h)
    (returns-clause-table g c)
