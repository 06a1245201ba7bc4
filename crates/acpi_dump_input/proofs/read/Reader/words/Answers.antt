use Rattle.std.proofs.Common.{◌<◌, arith, map}
use Rattle.acpi_dump_input.proofs.Growing.{grows_among, words_are_input}
use Rattle.acpi_dump_input.proofs.Lists.{is_name, name_count, ok_weaker}
use Rattle.acpi_dump_input.proofs.read.Reader.words.Goals as goal

pub loop-name-preserved : goal.loop-name-preserved
loop-name-preserved g c = (
  grows_among g.S.Sources.gives (map (λ n. n.now) c.args.names.now) _ _ _ _
      (is_name c.args.names.now c.in_ok-in_order.field-0.items c.deref-name-items.result.now c.loop-name.name-index _
      c.in_ok-in_order.ensures c.deref-name-items.ensures.value c.loop-name-test.true)
      c.loop-name.invariant.0 c.add_word.ensures.grows,
  λ some. omega (arith, c.in_ok-add_word.ensures.some),
)

pub returns : goal.returns
returns g c = ok_weaker c.all.result _ _
    (λ i are none some.
    let count = name_count c.args.names.now c.in_ok-in_order.field-0.items c.deref-name-items.result.now
    c.in_ok-in_order.ensures c.deref-name-items.ensures.value in
    let is_last = c.loop-name-test.false in
    let read : 0 < c.loop-name.name-index = omega (arith, some, is_last, count) in
    words_are_input g.S.Sources.gives (map (λ n. n.now) c.args.names.now) c.args.self.tables.items
    c.loop-name.self.tables.items i are none (c.loop-name.invariant.1 read) c.loop-name.invariant.0) c.all.ensures
