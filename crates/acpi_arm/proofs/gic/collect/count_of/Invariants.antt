use Rattle.std.proofs.Common.{◌≡◌, ◌≤◌, length, ◌+◌, filter_map}
use Rattle.acpi_base.specs.Words.{entries_left}
use Rattle.acpi_arm.specs.Gic.{items_of}
use Rattle.acpi_arm.proofs.gic.collect.count_of.Given as goal

-- what is counted and what is left are all, and there are no more than bytes
abbrev pub invariant-loop-entry : goal.invariant-loop-entry
invariant-loop-entry g l =
    (l.count + length (filter_map (g.T.GicPart.part_in l.revision) (entries_left l.entries))
    ≡ length (items_of g.T.GicPart.part_in l.table)) × (l.count + length (entries_left l.entries) ≤ length l.table)

abbrev pub decreases-loop-entry : goal.decreases-loop-entry
decreases-loop-entry g l = length (entries_left l.entries)
