use Rattle.std.proofs.Common.{◌≡◌, length}
use Rattle.acpi_base.specs.Words.{cut, madt_grammar, entries_in}
use Rattle.acpi_base.proofs.tables.madt.walk.past_others.Given as goal

-- what was passed over is of no defined type, and the rest is the same
abbrev pub invariant-loop-entry : goal.invariant-loop-entry
invariant-loop-entry l =
    (entries_in l.rest ≡ entries_in l.bytes) × ((cut madt_grammar l.rest).1 ≡ (cut madt_grammar l.bytes).1)

abbrev pub decreases-loop-entry : goal.decreases-loop-entry
decreases-loop-entry l = length l.rest
