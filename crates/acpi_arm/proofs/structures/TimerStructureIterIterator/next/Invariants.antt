use Rattle.std.proofs.Common.{◌≡◌, length}
use Rattle.acpi_arm.specs.Timers.{each_left}
use Rattle.acpi_arm.proofs.structures.TimerStructureIterIterator.next.Given as goal

-- what was passed over is of no defined type
abbrev pub invariant-loop-structure : goal.invariant-loop-structure
invariant-loop-structure l = each_left l.self ≡ each_left l.fn.self

abbrev pub decreases-loop-structure : goal.decreases-loop-structure
decreases-loop-structure l = length l.self.rest.now
