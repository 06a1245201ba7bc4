use Rattle.std.proofs.Common.{length, ℕ, List, ◌-◌, ◌≤◌}
use Rattle.acpi_dump_walk.specs.Passed.{AreTerms}
use Rattle.acpi_dump_walk.proofs.aml.show_objects.Given as goal

-- each object leaves fewer bytes
abbrev pub decreases-objects : goal.decreases-objects
decreases-objects g l = length l.table - l.at

-- the terms so far are a division of the bytes up to here
abbrev pub invariant-objects : goal.invariant-objects
invariant-objects g l =
    (l.at ≤ length l.table)
    × ((terms : List ℕ) × AreTerms g.S.ShowObjects.shows l.fn.start terms l.at l.fn.show l.show)
