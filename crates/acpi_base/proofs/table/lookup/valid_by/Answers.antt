use Rattle.std.proofs.Common.{refl, rules}
use Rattle.acpi_base.proofs.OwnTable.{same_table}
use Rattle.acpi_base.specs.Words.{accepted, sdt_kind}
use Rattle.acpi_base.proofs.table.lookup.valid_by.Goals as goal

pub returns-in_err-head-clause-table : goal.returns-in_err-head-clause-table
returns-in_err-head-clause-table g c =
    let refused = c.in_err-head.ensures.unaccepted c.args.accept (sdt_kind c.args.signature c.args.least) refl refl in
    search rules

pub returns-in_err-head-clause-footprint : goal.returns-in_err-head-clause-footprint
returns-in_err-head-clause-footprint g c n h =
    rw (same_table (accepted c.args.accept (sdt_kind c.args.signature c.args.least))
    (g.H.Lender.memory c.args.handler.now) n c.args.address h) (returns-in_err-head-clause-table g c)
