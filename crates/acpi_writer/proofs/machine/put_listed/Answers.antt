use Rattle.std.proofs.Common.{length}
use Rattle.acpi_writer.proofs.Sized.{put_step}
use Rattle.acpi_writer.proofs.machine.put_listed.Goals as goal

pub loop-table-preserved : goal.loop-table-preserved
loop-table-preserved g c =
    put_step g.T.Listed.written c.args.ids.now c.args.tables.now c.loop-table.table-index c.loop-table.at
    c.put-at.result (length c.args.out.now) c.loop-table.out c.put-at.new.out _ c.table-item.result c.table-item.is
    c.loop-table-test.true c.put-at.ensures.size c.put-at.ensures.bytes c.loop-table.invariant
