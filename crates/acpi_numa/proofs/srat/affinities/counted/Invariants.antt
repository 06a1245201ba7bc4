use Rattle.std.proofs.Common.{◌≡◌, ◌+◌, length, ◌&&◌, filter_map}
use Rattle.acpi_base.specs.FromStd.{list_all}
use Rattle.acpi_numa.specs.Words.{ends_below, range_in, ranges_of, cut_of, entries_left, rest_left}
use Rattle.acpi_numa.proofs.srat.affinities.counted.Given as goal

-- what is counted and what is left are the whole, what is tested and what is left to test too, and the rest is the same
abbrev pub invariant-loop-entry : goal.invariant-loop-entry
invariant-loop-entry l =
    let left = filter_map range_in (entries_left l.entries) in
    record {
      count : l.count + length left ≡ length (ranges_of l.table);
      tested : (l.all_end && list_all ends_below left) ≡ list_all ends_below (ranges_of l.table);
      rest : rest_left l.entries ≡ (cut_of l.table).1;
    }

abbrev pub decreases-loop-entry : goal.decreases-loop-entry
decreases-loop-entry l = length (entries_left l.entries)
