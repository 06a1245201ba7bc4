use Rattle.std.proofs.Common.{◌∙◌, ap, rules, sym}
use Rattle.acpi_base.proofs.Accepted.{none_given_up}
use Rattle.acpi_base.proofs.OwnTable.{same_table}
use Rattle.acpi_base.specs.Words.{accepted, check_names}
use Rattle.acpi_base.proofs.table.lookup.accepted_at.Goals as goal

pub returns-in_err-head-clause-footprint : goal.returns-in_err-head-clause-footprint
returns-in_err-head-clause-footprint g c n h =
    let own = g.met.T.AcpiTable.agrees in
    let refused = c.in_err-head.ensures.unaccepted c.args.accept g.T.AcpiTable.kind
    (own.0 ∙ sym c.SIGNATURE.ensures) (own.2 ∙ ap check_names (sym c.SIGNATURE.ensures)) in
    rw (same_table (accepted c.args.accept g.T.AcpiTable.kind)
    (g.H.Lender.memory c.args.handler.now) n c.args.address h)
    (search rules)

pub returns-else-has_bit-2-clause-footprint : goal.returns-else-has_bit-2-clause-footprint
returns-else-has_bit-2-clause-footprint g c n h =
    rw (same_table (accepted c.args.accept g.T.AcpiTable.kind)
    (g.H.Lender.memory c.args.handler.now) n c.args.address h)
    (search (rules, none_given_up))
