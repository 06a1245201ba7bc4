use Rattle.std.proofs.Common.{◌≡◌, drop, map}
use Rattle.acpi_table_writer.specs.Words.{list_all, is_range}
use Rattle.acpi_table_writer.proofs.srat.ranges_fit.Given as goal

abbrev pub invariant-loop-range : goal.invariant-loop-range
invariant-loop-range g l =
    list_all is_range (map g.R.StandsFor.meant (drop l.range-index l.ranges))
    ≡ list_all is_range (map g.R.StandsFor.meant l.ranges)
