use Rattle.std.proofs.Common.{◌∙◌, arith, length}
use Rattle.std.proofs.lemmas.Iterator.Adapters.{YieldsList-from_vec}
use Rattle.std.proofs.lemmas.Iterator.Consumers.{YieldsList-turn}
use Rattle.acpi_dump_input.proofs.Growing.{longer}
use Rattle.acpi_dump_input.specs.Given.{HasTable}
use Rattle.acpi_dump_input.proofs.Spelled.{grows_spelled}
use Rattle.acpi_dump_input.proofs.read.Reader.add_text.Goals as goal

pub loop-table-preserved : goal.loop-table-preserved
loop-table-preserved g c =
    let gives = c.into_iter-table-iterator.ensures.into_iter_gives in
    let turn = YieldsList-turn (YieldsList-from_vec {s = c.into_iter-table-iterator.result} c.in-Ok.spelled.items gives.0 (gives.1 ∙ c.in-Ok.spelled.ok.0))
    c.loop-table.yielded c.loop-table.table-iterator c.loop-table.yielded_by c.next.result c.next.new.self
    c.in-Some-table.table c.in-Some-table.is c.next.ensures.steps in (
      grows_spelled c.in-Some.text.now c.args.bytes.now c.in-Ok.spelled.items c.in-Some-table.table
          (length c.loop-table.yielded) _ _ _ c.in-Some.ensures c.in-Ok.ensures.spelled turn c.loop-table.invariant.0
          c.push.ensures.grows,
      λ some. let long = longer (HasTable c.args.bytes.now) c.args.self.now.tables.items c.loop-table.self.tables.items
          c.loop-table.invariant.0 in omega (arith, long, c.in_ok-push-in-Ok.ensures.some),
    )

pub returns-in_err-push-in-Ok-clause-grows : goal.returns-in_err-push-in-Ok-clause-grows
returns-in_err-push-in-Ok-clause-grows g c =
    let gives = c.into_iter-table-iterator.ensures.into_iter_gives in
    let turn = YieldsList-turn (YieldsList-from_vec {s = c.into_iter-table-iterator.result} c.in-Ok.spelled.items gives.0 (gives.1 ∙ c.in-Ok.spelled.ok.0))
    c.loop-table.yielded c.loop-table.table-iterator c.loop-table.yielded_by c.next.result c.next.new.self
    c.in-Some-table.table c.in-Some-table.is c.next.ensures.steps in
    grows_spelled c.in-Some.text.now c.args.bytes.now c.in-Ok.spelled.items c.in-Some-table.table
    (length c.loop-table.yielded) _ _ _ c.in-Some.ensures c.in-Ok.ensures.spelled turn c.loop-table.invariant.0
    c.push.ensures.grows
