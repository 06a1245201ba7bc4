use Rattle.std.proofs.Common.{ap, rules, ◌∙◌}
use Rattle.acpi.specs.Types.{SSDT}
use Rattle.acpi.specs.Words.{dsdt_ranges, found_left, may_of, memory_of, pointers_of}
use Rattle.acpi_base.proofs.Words.{all_back, all_front}
use Rattle.acpi_base.specs.Words.{plain_kind}
use Rattle.acpi_sleep.proofs.Answering.{begun, none_left, one_block, types_found}
use Rattle.acpi_sleep.specs.Words.{block_answer}
use Rattle.acpi_sleep.proofs.tables.tables_answer.Goals as goal

pub dsdt_answer-answer-requires-clause-asked : goal.dsdt_answer-answer-requires-clause-asked
dsdt_answer-answer-requires-clause-asked g c =
    let t = c.args.tables.now in
    all_front (may_of t) (dsdt_ranges (memory_of t) (pointers_of t)) _ c.requires

pub find_tables-ssdt-items-requires : goal.find_tables-ssdt-items-requires
find_tables-ssdt-items-requires g c =
    let t = c.args.tables.now in
    all_back (may_of t) (dsdt_ranges (memory_of t) (pointers_of t)) _ c.requires

pub loop-ssdt-init : goal.loop-ssdt-init
loop-ssdt-init g c =
    let t = c.args.tables.now in
    begun c.args.state (memory_of t) (pointers_of t) _ _ c.if-state-gt5.false c.dsdt_answer-answer.ensures
    (ap (found_left g.H.Lender.memory (plain_kind SSDT)) c.into_iter-ssdt-iterator.ensures.into_iter_gives
    ∙ c.find_tables-ssdt-items.ensures.items)

pub returns-in-Ok-Types : goal.returns-in-Ok-Types
returns-in-Ok-Types g c =
    types_found c.args.state _ _ _ c.in-Ok-Types.field-0-0 c.loop-ssdt.invariant (search rules)

pub loop-ssdt-preserved : goal.loop-ssdt-preserved
loop-ssdt-preserved g c =
    one_block c.args.state _ _ _ _ _ _ _ c.loop-ssdt.invariant c.in-Some.ensures.steps
    (c.block_answer.ensures ∙ ap (block_answer SSDT c.args.state) c.bytes.ensures.value) c.or_after-answer.ensures

pub returns : goal.returns
returns g c = none_left c.args.state _ _ _ c.loop-ssdt.invariant c.in-None.ensures.steps.0
