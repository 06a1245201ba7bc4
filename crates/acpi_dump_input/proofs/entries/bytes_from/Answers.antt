use Rattle.std.proofs.Common.{◌≡◌, ◌<◌, length, arith}
use Rattle.acpi_image_reader.specs.Words.{memory_of}
use Rattle.acpi_dump_input.proofs.Parts.{is_rest, rest_begins, rest_ends, rest_is, rest_none}
use Rattle.acpi_dump_input.proofs.entries.bytes_from.Goals as goal
use Rattle.acpi_dump_input.proofs.entries.bytes_from.Goals.{then-record-address+else-not-is_empty, else-record-address}

pub returns-then-not-is_empty-clause-rest : goal.returns-then-not-is_empty-clause-rest
returns-then-not-is_empty-clause-rest c = is_rest c.records-record-items.result.now _ c.loop-record.record-index c.args.address _ _
    c.records-record-items.ensures c.loop-record-test.true c.if-record-address.true c.bytes_after-rest.ensures

pub returns-then-not-is_empty-clause-exact : goal.returns-then-not-is_empty-clause-exact
returns-then-not-is_empty-clause-exact c =
    let some : 0 < length c.bytes_after-rest.result.now = grind (arith, c.if-not-is_empty.ensures) in
    rest_is c.records-record-items.result.now (memory_of c.args.image.now) c.loop-record.record-index c.args.address
    c.records-record-items.ensures c.loop-record.invariant _ _ c.loop-record-test.true c.if-record-address.true
    c.bytes_after-rest.ensures some

pub loop-record-preserved : goal.loop-record-preserved
loop-record-preserved c =
    let rs = c.records-record-items.result.now in
    let m = memory_of c.args.image.now in
    elim c.if-record-address.branch [
      | then-record-address+else-not-is_empty w ↦
          let none : length w.bytes_after-rest.result.now ≡ 0 = grind (arith, w.if-not-is_empty.ensures) in
          rest_ends rs m c.loop-record.record-index c.args.address c.records-record-items.ensures c.loop-record.invariant _ _
          c.loop-record-test.true w.bytes_after-rest.ensures none
      | else-record-address w ↦
          rest_begins rs m c.loop-record.record-index c.args.address c.records-record-items.ensures c.loop-record.invariant _
          c.loop-record-test.true w.if-record-address.false
    ]

pub returns-clause-exact : goal.returns-clause-exact
returns-clause-exact c =
    rest_none c.records-record-items.result.now (memory_of c.args.image.now) c.loop-record.record-index c.args.address
    c.records-record-items.ensures c.loop-record.invariant c.loop-record-test.false
