use Rattle.std.proofs.Common.{◌≡◌, length}
use Rattle.acpi_numa.specs.Words.{cut_of, entries_left, rest_left}
use Rattle.acpi_c_devices.proofs.numa.no_domain.Given as goal

-- the rest is the table's
abbrev pub invariant-all : goal.invariant-all
invariant-all l = rest_left l.entries ≡ (cut_of l.table).1

abbrev pub decreases-all : goal.decreases-all
decreases-all l = length (entries_left l.entries)
