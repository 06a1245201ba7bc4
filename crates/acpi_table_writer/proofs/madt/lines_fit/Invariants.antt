use Rattle.std.proofs.Common.{◌≡◌, drop, map}
use Rattle.acpi_table_writer.specs.Words.{list_all, names_one}
use Rattle.acpi_table_writer.proofs.madt.lines_fit.Given as goal

abbrev pub invariant-loop-line : goal.invariant-loop-line
invariant-loop-line g l =
    list_all (λ x. names_one x.processor) (map g.L.StandsFor.meant (drop l.line-index l.lines))
    ≡ list_all (λ x. names_one x.processor) (map g.L.StandsFor.meant l.lines)
