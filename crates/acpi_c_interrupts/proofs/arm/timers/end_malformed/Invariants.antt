use Rattle.std.proofs.Common.{◌≡◌, length}
use Rattle.acpi_arm.specs.Timers.{missing_left, timers_left}
use Rattle.acpi_c_interrupts.proofs.arm.timers.end_malformed.Given as goal

-- the number of missing timers is the same
abbrev pub invariant-all : goal.invariant-all
invariant-all l = missing_left l.timers ≡ missing_left l.initial.timers

abbrev pub decreases-all : goal.decreases-all
decreases-all l = length (timers_left l.timers)
