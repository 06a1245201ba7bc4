use Rattle.std.proofs.Common.{◌∙◌, arith, rules, sym}
use Rattle.std.proofs.lemmas.Iterator.Adapters.{YieldsList-from_vec}
use Rattle.std.proofs.lemmas.Iterator.Consumers.{YieldsList-end}
use Rattle.acpi_base.proofs.FromStd.{map-id}
use Rattle.acpi_dump_input.proofs.Lists.{few_of_more, more_of_more}
use Rattle.std.proofs.lemmas.Grind.{common_steps}
use Rattle.acpi_dump_input.proofs.machine.of_one_machine.Goals as goal

pub loop-table-preserved-in-Some-get : goal.loop-table-preserved-in-Some-get
loop-table-preserved-in-Some-get c =
    (few_of_more (λ f. f.bytes.items) _ _ c.in-Some.table c.loop-table.invariant.0, λ some. grind (arith, common_steps))

pub loop-table-preserved : goal.loop-table-preserved
loop-table-preserved c =
    rw c.in_ok-push.ensures.items (
      more_of_more (λ f. f.bytes.items) _ _ c.in-Some.table c.loop-table.invariant.0,
      λ some. search rules,
    )

pub returns-clause-same : goal.returns-clause-same
returns-clause-same c =
    let gives = c.into_iter-table-iterator.ensures.into_iter_gives in
    let seen = YieldsList-end (YieldsList-from_vec {s = c.into_iter-table-iterator.result} c.args.tables.items gives.0 (gives.1 ∙ c.args.tables.ok.0))
    c.loop-table.yielded c.loop-table.table-iterator c.loop-table.yielded_by c.next.result c.next.new.self c.in-None.is c.next.ensures.steps in
    rw (← sym (map-id c.loop-table.yielded) ∙ seen.0) c.loop-table.invariant.0
