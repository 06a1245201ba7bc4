use Rattle.std.proofs.Common.{length, map, arith}
use Rattle.acpi_base.proofs.FromStd.{length-flat_map-take}
use Rattle.acpi_table_writer.proofs.Sized.{meant_at, not_whole, put_more}
use Rattle.acpi_table_writer.proofs.spelled.EachItemSpelled.put.Goals as goal

pub returns-in-None : goal.returns-in-None
returns-in-None g c =
    let items = map g.R.StandsFor.meant c.args.self.now.0.now in
    let at = meant_at g.R.StandsFor.meant c.args.self.now.0.now c.loop-x.x-index c.x-item.result
    c.item-item.result c.item-item.ensures c.x-item.is c.loop-x-test.true in
    let within = length-flat_map-take g.T.Spelled.spelled items c.loop-x.x-index c.item-item.result at.1 in
    let short =
    not_whole g.T.Spelled.spelled items c.loop-x.x-index c.loop-x.at (length c.loop-x.out) c.item-item.result at.0 at.1
    c.loop-x.invariant.1 (omega (arith, within, c.requires, c.loop-x.invariant.1, c.loop-x.invariant.2))
    c.in-None.ensures in
    absurd (omega (arith, short, c.requires, c.loop-x.invariant.2))

pub loop-x-preserved : goal.loop-x-preserved
loop-x-preserved g c =
    let items = map g.R.StandsFor.meant c.args.self.now.0.now in
    let at = meant_at g.R.StandsFor.meant c.args.self.now.0.now c.loop-x.x-index c.x-item.result
    c.item-item.result c.item-item.ensures c.x-item.is c.loop-x-test.true in
    put_more g.T.Spelled.spelled items c.loop-x.x-index c.loop-x.at c.in-Some.size (length c.args.out.now)
    c.item-item.result c.loop-x.out c.put.new.out at.0 at.1 c.put.ensures
    (c.in-Some.ensures.0, c.in-Some.ensures.1) c.requires c.loop-x.invariant
