use Rattle.std.proofs.Common.{◌≡◌, drop}
use Rattle.acpi_table_writer.specs.Words.{all_checked}
use Rattle.acpi_table_writer.proofs.checked.check_all.Given as goal

abbrev pub invariant-loop-x : goal.invariant-loop-x
invariant-loop-x g l = all_checked g.T.Checked.checked (drop l.x-index l.xs) ≡ all_checked g.T.Checked.checked l.xs
