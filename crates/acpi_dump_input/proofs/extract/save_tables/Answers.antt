use Rattle.std.proofs.Common.{rules}
use Rattle.acpi_dump_input.proofs.Within.{last_table, next_table}
use Rattle.acpi_dump_input.proofs.extract.save_tables.Goals as goal

pub returns-in_err-save_table : goal.returns-in_err-save_table
returns-in_err-save_table g c = last_table _ _ c.args.entries.now c.loop-line.line _ _ _ _ _ _ _ c.loop-line-test.true
    (search rules) c.loop-line.invariant c.save_table.ensures.exact

pub loop-line-preserved : goal.loop-line-preserved
loop-line-preserved g c = next_table _ _ c.args.entries.now c.loop-line.line _ _ _ _ _ _ _ c.loop-line-test.true
    c.save_table.ensures.keeps (search rules) c.loop-line.invariant c.save_table.ensures.exact
