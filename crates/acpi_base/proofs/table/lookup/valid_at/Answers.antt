use Rattle.std.proofs.Common.{◌∙◌, ap, rules, sym}
use Rattle.acpi_base.proofs.OwnTable.{same_table}
use Rattle.acpi_base.specs.Words.{check_names}
use Rattle.acpi_base.proofs.table.lookup.valid_at.Goals as goal

pub returns-in_err-head-clause-table : goal.returns-in_err-head-clause-table
returns-in_err-head-clause-table g c =
    let own = g.met.T.AcpiTable.agrees in
    let refused = c.in_err-head.ensures.unaccepted 0 g.T.AcpiTable.kind (own.0 ∙ sym c.SIGNATURE.ensures)
    (own.2 ∙ ap check_names (sym c.SIGNATURE.ensures)) in
    search rules

pub returns-in_err-head-clause-footprint : goal.returns-in_err-head-clause-footprint
returns-in_err-head-clause-footprint g c n h =
    rw (same_table g.T.AcpiTable.kind (g.H.Lender.memory c.args.handler.now) n c.args.address h)
    (returns-in_err-head-clause-table g c)
