use Rattle.std.proofs.Common.{◌≡◌, ◌≤◌, ◌++◌, length, ◌+◌, vec_capacity, vec_len, filter_map}
use Rattle.acpi_base.specs.Words.{entries_left}
use Rattle.acpi_arm.specs.Gic.{items_of}
use Rattle.acpi_arm.proofs.gic.collect.collected.Given as goal

-- what is kept and what is left are all, and there is room for what is left
abbrev pub invariant-loop-entry : goal.invariant-loop-entry
invariant-loop-entry g l =
    let left = filter_map (g.T.GicPart.part_in l.revision) (entries_left l.entries) in
    (l.items.items ++ left ≡ items_of g.T.GicPart.part_in l.table)
    × (vec_len l.items + length left ≤ vec_capacity l.items)

abbrev pub decreases-loop-entry : goal.decreases-loop-entry
decreases-loop-entry g l = length (entries_left l.entries)
