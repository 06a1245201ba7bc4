use Rattle.std.proofs.Common.{subst, sym, ◌∙◌, All}
use Rattle.acpi_base.proofs.FromStd.{take_all}
use Rattle.acpi_writer.proofs.Sized.{listed_error, listed_step}
use Rattle.acpi_writer.proofs.machine.listed_size.Goals as goal

pub returns-in-Err-clause-exact : goal.returns-in-Err-clause-exact
returns-in-Err-clause-exact g c =
    sym (listed_error g.T.Listed.written c.args.ids.now c.args.tables.now c.loop-table.table-index c.loop-table.size
    c.table-item.result c.in-Err.error c.table-item.is c.loop-table-test.true
    (sym c.size.ensures.exact ∙ c.in-Err.is)) ∙ c.loop-table.invariant.0

pub loop-table-preserved : goal.loop-table-preserved
loop-table-preserved g c =
    listed_step g.T.Listed.written g.T.Listed.fits c.args.ids.now c.args.tables.now c.loop-table.table-index
    c.loop-table.size c.in-Ok.more c.rounded-size.result _ c.table-item.result c.table-item.is
    c.loop-table-test.true (sym c.size.ensures.exact ∙ c.in-Ok.is) c.in-Ok.ensures.fits c.in-Ok.ensures.short
    c.rounded-size.ensures c.loop-table.invariant

pub returns-clause-fits : goal.returns-clause-fits
returns-clause-fits g c = subst (All g.T.Listed.fits)
    (take_all c.loop-table.table-index c.args.tables.now c.loop-table-test.false) c.loop-table.invariant.2
