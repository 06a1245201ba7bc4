use Rattle.std.proofs.Common.{◌≡◌, drop, map}
use Rattle.acpi_table_writer.specs.Words.{list_all, is_single}
use Rattle.acpi_table_writer.proofs.madt.processors_fit.Given as goal

abbrev pub invariant-loop-processor : goal.invariant-loop-processor
invariant-loop-processor g l =
    list_all is_single (map g.P.StandsFor.meant (drop l.processor-index l.processors))
    ≡ list_all is_single (map g.P.StandsFor.meant l.processors)
