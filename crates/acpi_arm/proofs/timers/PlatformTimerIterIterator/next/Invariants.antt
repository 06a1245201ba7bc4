use Rattle.std.proofs.Common.{◌≡◌, length}
use Rattle.acpi_arm.specs.Timers.{has_ended, missing_left, timers_left}
use Rattle.acpi_arm.proofs.timers.PlatformTimerIterIterator.next.Given as goal

-- what was passed over is of no defined type, and as many are missing
abbrev pub invariant-loop-structure : goal.invariant-loop-structure
invariant-loop-structure l =
    (timers_left l.self ≡ timers_left l.fn.self) × (missing_left l.self ≡ missing_left l.fn.self)
    × (has_ended l.self ≡ has_ended l.fn.self)

abbrev pub decreases-loop-structure : goal.decreases-loop-structure
decreases-loop-structure l = length l.self.rest.now
