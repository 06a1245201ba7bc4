use Rattle.std.proofs.Common.{◌≡◌, List, length, Option, Some, None, slice_get, filter_map}
use Rattle.acpi_base.specs.Words.{cut_of, entries_of, entries_left, rest_left}
use Rattle.acpi_arm.specs.Gic.{distributor_in}
use Rattle.acpi_arm.specs.declared.gic.part.GicDistributor.{GicDistributor}
use Rattle.acpi_arm.proofs.gic.collect.distributor_of.Given as goal

-- the first one: the one found so far, or else the first one that follows
abbrev first_of : Option GicDistributor → List GicDistributor → Option GicDistributor
first_of (Some d) more = Some d
first_of None more = slice_get more 0

-- the first one of all is the first one of those found and left, and the rest is the same
abbrev pub invariant-loop-entry : goal.invariant-loop-entry
invariant-loop-entry l =
    (first_of l.distributor (filter_map distributor_in (entries_left l.entries))
    ≡ slice_get (filter_map distributor_in (entries_of l.table)) 0) × (rest_left l.entries ≡ (cut_of l.table).1)

abbrev pub decreases-loop-entry : goal.decreases-loop-entry
decreases-loop-entry l = length (entries_left l.entries)
