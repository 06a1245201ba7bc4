use Rattle.std.proofs.Common.{sym}
use Rattle.acpi_image.proofs.Checks.{table_added, table_fits, table_shares, tables_end}
use Rattle.acpi_image.proofs.write.places.tables_share.Goals as goal

pub shares_with_listed-requires : goal.shares_with_listed-requires
shares_with_listed-requires g c =
    table_fits c.args.tables.now c.loop-table.table-index _ c.range_of-place.result c.loop-table-test.true
    c.range_of-place.ensures.address c.range_of-place.ensures.length c.requires

pub returns-then-shares_with_listed : goal.returns-then-shares_with_listed
returns-then-shares_with_listed g c = λ m was.
    table_shares m c.args.tables.now c.loop-table.table-index _ c.loop-table-test.true c.range_of-place.result
    c.range_of-place.ensures.address c.range_of-place.ensures.length
    (c.if-shares_with_listed.ensures _ (c.loop-table.invariant m was))

pub loop-table-preserved : goal.loop-table-preserved
loop-table-preserved g c = λ m was.
    let so_far = c.loop-table.invariant m was in
    let apart = sym (c.if-shares_with_listed.ensures _ so_far) in
    table_added m c.args.tables.now c.loop-table.table-index _ c.loop-table-test.true c.range_of-place.result
    c.range_of-place.ensures.address c.range_of-place.ensures.length c.add_place.new.starts
    (c.in_ok-add_place.ensures _ apart so_far)

pub returns : goal.returns
returns g c = λ m was.
    tables_end m c.args.tables.now c.loop-table.table-index c.loop-table.starts (c.loop-table-test.false)
    (c.loop-table.invariant m was)
