use Rattle.std.proofs.Common.{map}
use Rattle.acpi_table_writer.proofs.Sized.{meant_at, measured_more, not_whole}
use Rattle.acpi_table_writer.proofs.spelled.EachItemSpelled.measure.Goals as goal

pub returns-in-None : goal.returns-in-None
returns-in-None g c =
    let items = map g.R.StandsFor.meant c.args.self.now.0.now in
    let at = meant_at g.R.StandsFor.meant c.args.self.now.0.now c.loop-x.x-index c.x-item.result c.item.result
    c.item.ensures c.x-item.is c.loop-x-test.true in
    not_whole g.T.Spelled.spelled items c.loop-x.x-index c.loop-x.size c.args.room c.item.result at.0 at.1
    c.loop-x.invariant.0 c.loop-x.invariant.1 c.in-None.ensures

pub loop-x-preserved : goal.loop-x-preserved
loop-x-preserved g c =
    let items = map g.R.StandsFor.meant c.args.self.now.0.now in
    let at = meant_at g.R.StandsFor.meant c.args.self.now.0.now c.loop-x.x-index c.x-item.result c.item.result
    c.item.ensures c.x-item.is c.loop-x-test.true in
    measured_more g.T.Spelled.spelled g.T.Spelled.fits items c.loop-x.x-index c.loop-x.size c.in-Some.more c.args.room
    c.item.result at.0 at.1 c.loop-x.invariant c.in-Some.ensures
