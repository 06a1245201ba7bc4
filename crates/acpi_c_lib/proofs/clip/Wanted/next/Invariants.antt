use Rattle.std.proofs.Common.{◌≡◌, ℕ, ◌-◌, ◌<◌, ◌≤◌, not}
use Rattle.acpi_c_lib.specs.Words.{wanted}
use Rattle.acpi_c_lib.proofs.clip.Wanted.next.Given as goal

-- up to here each byte is of the other sort
abbrev pub invariant-loop-at : goal.invariant-loop-at
invariant-loop-at l =
    (l.from ≤ l.at) × ((b : ℕ) → l.from ≤ b → b < l.at
    → wanted l.self.ranges.all.now l.self.without.all.now l.self.window b ≡ not l.is_asked)

abbrev pub decreases-loop-at : goal.decreases-loop-at
decreases-loop-at l = l.end - l.at
