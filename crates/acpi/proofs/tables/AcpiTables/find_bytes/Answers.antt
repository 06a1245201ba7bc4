use Rattle.std.proofs.Common.{rules, subst, sym, ◌∙◌}
use Rattle.acpi_base.specs.Words.{Allows, accepted, sdt_kind, table_ranges}
use Rattle.acpi.proofs.Agreed.{from_tables, same_lookup}
use Rattle.acpi.proofs.Asked.{asked_member, found_member, later_kept}
use Rattle.acpi.specs.Words.{accepted_by, may_of, memory_of}
use Rattle.acpi.proofs.tables.AcpiTables.find_bytes.Goals as goal

pub valid_by-requires-clause-asked : goal.valid_by-requires-clause-asked
valid_by-requires-clause-asked g c =
    let t = c.args.self.now in
    let k = sdt_kind c.args.signature c.args.least in
    subst (λ a. Allows (g.H.Lender.may c.handler.result.now)
    (table_ranges (g.H.Lender.memory c.handler.result.now) (accepted a k) c.in-Some.address)) (sym c.bits.ensures)
    (subst (λ h. Allows (g.H.Lender.may h) (table_ranges (g.H.Lender.memory h) (accepted_by t k) c.in-Some.address))
    (sym c.handler.ensures) (asked_member (may_of t) (memory_of t) (accepted_by t k) c.in-Some.address _ _
    c.in-Some.ensures.steps c.loop-address.invariant.1))

pub loop-address-preserved : goal.loop-address-preserved
loop-address-preserved g c =
    let t = c.args.self.now in
    later_kept (may_of t) (memory_of t) (accepted_by t (sdt_kind c.args.signature c.args.least)) c.in-Some.address _ _ _
    c.in_default.field-0 (rw (c.handler.ensures, c.bits.ensures) at c.in_default.ensures.table) c.in-Some.ensures.steps
    c.loop-address.invariant

pub returns-in-Ok-clause-found : goal.returns-in-Ok-clause-found
returns-in-Ok-clause-found g c =
    let t = c.args.self.now in
    rw c.in-Ok.ensures.place (found_member (memory_of t) (accepted_by t (sdt_kind c.args.signature c.args.least))
    c.in-Some.address _ _ _ _ (rw (c.handler.ensures, c.bits.ensures) at c.in-Ok.ensures.table) c.in-Some.ensures.steps
    c.loop-address.invariant.0)

pub returns-in-Ok-clause-handler : goal.returns-in-Ok-clause-handler
returns-in-Ok-clause-handler g c = c.in-Ok.ensures.handler ∙ c.handler.ensures

pub returns-in-Ok-clause-lent : goal.returns-in-Ok-clause-lent
returns-in-Ok-clause-lent g c = rw c.handler.ensures at c.in-Ok.ensures.lent

pub returns-in-Ok-clause-footprint : goal.returns-in-Ok-clause-footprint
returns-in-Ok-clause-footprint g c n h =
    rw (from_tables c.args.self.now _ _ (same_lookup (accepted_by c.args.self.now (sdt_kind c.args.signature
    c.args.least))) c.args.self.now.valid n h) (returns-in-Ok-clause-found g c)

pub returns-clause-footprint : goal.returns-clause-footprint
returns-clause-footprint g c n h =
    rw (from_tables c.args.self.now _ _ (same_lookup (accepted_by c.args.self.now (sdt_kind c.args.signature
    c.args.least))) c.args.self.now.valid n h) (search rules)
