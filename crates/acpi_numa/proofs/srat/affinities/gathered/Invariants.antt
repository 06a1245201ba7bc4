use Rattle.std.proofs.Common.{◌≡◌, ◌+◌, ◌++◌, length, vec_capacity, vec_len, filter_map}
use Rattle.acpi_numa.specs.Words.{range_in, ranges_of, entries_left}
use Rattle.acpi_numa.proofs.srat.affinities.gathered.Given as goal

-- what is gathered and what is left are the whole, and there is room for just what is left
abbrev pub invariant-loop-entry : goal.invariant-loop-entry
invariant-loop-entry g l =
    let left = filter_map range_in (entries_left l.entries) in
    (l.ranges.items ++ left ≡ ranges_of l.table) × (vec_len l.ranges + length left ≡ vec_capacity l.ranges)

abbrev pub decreases-loop-entry : goal.decreases-loop-entry
decreases-loop-entry g l = length (entries_left l.entries)
