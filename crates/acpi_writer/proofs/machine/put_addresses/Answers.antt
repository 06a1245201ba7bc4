use Rattle.std.proofs.Common.{length, ◌∙◌}
use Rattle.acpi_writer.proofs.Sized.{addresses_step}
use Rattle.acpi_writer.proofs.machine.put_addresses.Goals as goal

pub loop-table-preserved : goal.loop-table-preserved
loop-table-preserved g c =
    addresses_step g.T.Listed.written c.args.ids.now c.args.tables.now c.loop-table.table-index c.loop-table.place
    c.loop-table.at c.place.result (length c.args.out.now) _ c.loop-table.out c.copy_from_slice.new.self _
    c.table-item.result c.table-item.is c.loop-table-test.true c.requires.whole c.place.ensures.size
    (c.copy_from_slice.ensures.after ∙ c.qword.ensures) c.loop-table.invariant
