use Rattle.std.proofs.Common.{◌≡◌, length}
use Rattle.acpi_numa.specs.Words.{entries_left, has_ended, rest_left}
use Rattle.acpi_numa.proofs.srat.walk.SratEntryIterIterator.next.Given as goal

-- what was passed over is of no defined kind, and the rest is the same
abbrev pub invariant-loop-entry : goal.invariant-loop-entry
invariant-loop-entry l =
    (entries_left l.self ≡ entries_left l.fn.self) × (rest_left l.self ≡ rest_left l.fn.self)
    × (has_ended l.self ≡ has_ended l.fn.self)

abbrev pub decreases-loop-entry : goal.decreases-loop-entry
decreases-loop-entry l = length l.self.rest.now
