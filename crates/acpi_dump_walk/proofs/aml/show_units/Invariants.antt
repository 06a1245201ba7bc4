use Rattle.std.proofs.Common.{length, ◌-◌, ◌≤◌, min}
use Rattle.acpi_dump_walk.specs.Passed.{Within}
use Rattle.acpi_dump_walk.proofs.aml.show_units.Given as goal

-- each unit leaves fewer bytes
abbrev pub decreases-units : goal.decreases-units
decreases-units g l = length l.aml - l.at

-- the units so far are up to here
abbrev pub invariant-units : goal.invariant-units
invariant-units g l =
    (l.fn.start ≤ l.at) × Within g.S.ShowObjects.shows l.fn.start (min l.at (length l.aml)) l.fn.show l.show
