use Rattle.std.proofs.Common.{◌≡◌, filter_map, length}
use Rattle.acpi_c_interrupts.specs.Words.{cut_of, entries_left, entries_of, rest_left, distributor_in}
use Rattle.acpi_c_interrupts.proofs.arm.gic.first_distributor.Given as goal

-- the distributors of those that are left are all, and the rest is the table's
abbrev pub invariant-loop-entry : goal.invariant-loop-entry
invariant-loop-entry l =
    (filter_map distributor_in (entries_left l.entries) ≡ filter_map distributor_in (entries_of l.table))
    × (rest_left l.entries ≡ (cut_of l.table).1)

abbrev pub decreases-loop-entry : goal.decreases-loop-entry
decreases-loop-entry l = length (entries_left l.entries)
