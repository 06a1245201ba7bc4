use Rattle.std.proofs.Common.{◌≡◌}
use Rattle.acpi_dump_input.proofs.read.Reader.push_inner.Given as goal

abbrev pub invariant-loop-name : goal.invariant-loop-name
invariant-loop-name g l = l.self.tables ≡ l.fn.self.tables

abbrev pub invariant-loop-inner : goal.invariant-loop-inner
invariant-loop-inner g l = l.self.tables ≡ l.fn.self.tables
