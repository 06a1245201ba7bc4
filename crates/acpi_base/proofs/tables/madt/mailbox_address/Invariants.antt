use Rattle.std.proofs.Common.{◌≡◌, length, filter_map}
use Rattle.acpi_base.specs.Words.{cut_of, entries_of, mailbox_in, entries_left, rest_left}
use Rattle.acpi_base.proofs.tables.madt.mailbox_address.Given as goal

-- the entries so far gave no mailbox, and the rest is the same
abbrev pub invariant-loop-entry : goal.invariant-loop-entry
invariant-loop-entry l =
    (filter_map mailbox_in (entries_left l.entries) ≡ filter_map mailbox_in (entries_of l.table))
    × (rest_left l.entries ≡ (cut_of l.table).1)

abbrev pub decreases-loop-entry : goal.decreases-loop-entry
decreases-loop-entry l = length (entries_left l.entries)
