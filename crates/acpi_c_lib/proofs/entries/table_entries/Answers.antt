use Rattle.std.proofs.Common.{◌+◌, ◌^◌, ◌<◌, length, length-drop, arith}
use Rattle.acpi_c_lib.proofs.entries.table_entries.Goals as goal

pub overflow_add-address : goal.overflow_add-address
overflow_add-address c =
    let fits : c.args.address + length c.bytes-bytes.result.now < 2 ^ 64 =
    rw (c.bytes-bytes.ensures.value, c.mapping-table.ensures.bytes, ← c.in_ok-own_valid_by.ensures.place)
    c.in_ok-own_valid_by.ensures.ends in
    omega (arith, fits, c.if-bytes-first.false)

pub fill-count-requires : goal.fill-count-requires
fill-count-requires c =
    let bytes = c.bytes-bytes.result.now in
    let fits : c.args.address + length bytes < 2 ^ 64 =
    rw (c.bytes-bytes.ensures.value, c.mapping-table.ensures.bytes, ← c.in_ok-own_valid_by.ensures.place)
    c.in_ok-own_valid_by.ensures.ends in
    rw c.skip.ensures (omega (arith, fits, length-drop c.args.walk.first bytes, c.if-bytes-first.false))
