use Rattle.std.proofs.Common.{◌≡◌, find, length, filter_map}
use Rattle.acpi_numa.specs.Words.{lies_in, range_in, ranges_of, entries_left}
use Rattle.acpi_c_devices.proofs.numa.range_at.Given as goal

-- the first among those left is the first of all
abbrev pub invariant-loop-entry : goal.invariant-loop-entry
invariant-loop-entry l = find (lies_in l.address) (filter_map range_in (entries_left l.entries))
    ≡ find (lies_in l.address) (ranges_of l.table)

abbrev pub decreases-loop-entry : goal.decreases-loop-entry
decreases-loop-entry l = length (entries_left l.entries)
