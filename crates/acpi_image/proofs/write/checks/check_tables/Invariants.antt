use Rattle.std.proofs.Common.{◌≡◌, drop}
use Rattle.acpi_image.specs.WriteChecks as checks
use Rattle.acpi_image.specs.Words.{placed}
use Rattle.acpi_image.proofs.write.checks.check_tables.Given as goal

abbrev pub invariant-loop-index : goal.invariant-loop-index
invariant-loop-index l = checks.check_tables l.index (placed (drop l.index l.tables))
    ≡ checks.check_tables 0 (placed l.tables)
