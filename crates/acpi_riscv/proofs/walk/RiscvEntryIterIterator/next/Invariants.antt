use Rattle.std.proofs.Common.{◌≡◌, length}
use Rattle.acpi_riscv.specs.Words.{entries_left}
use Rattle.acpi_riscv.proofs.walk.RiscvEntryIterIterator.next.Given as goal

-- what was passed over is of no such type
abbrev pub invariant-loop-entry : goal.invariant-loop-entry
invariant-loop-entry l = entries_left l.self ≡ entries_left l.fn.self

abbrev pub decreases-loop-entry : goal.decreases-loop-entry
decreases-loop-entry l = length l.self.rest.now
