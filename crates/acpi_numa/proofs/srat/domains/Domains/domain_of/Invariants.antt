use Rattle.std.proofs.Common.{◌≡◌, None, length, filter_map}
use Rattle.acpi_base.specs.FromStd.{last_or}
use Rattle.acpi_numa.specs.Words.{domain_in, entries_of, srat_bytes, entries_left}
use Rattle.acpi_numa.proofs.srat.domains.Domains.domain_of.Given as goal

-- what is found so far, or what the entries left give last
abbrev pub invariant-loop-entry : goal.invariant-loop-entry
invariant-loop-entry l =
    last_or l.found (filter_map (domain_in l.processor) (entries_left l.entries))
    ≡ last_or None (filter_map (domain_in l.processor) (entries_of (srat_bytes l.self)))

abbrev pub decreases-loop-entry : goal.decreases-loop-entry
decreases-loop-entry l = length (entries_left l.entries)
