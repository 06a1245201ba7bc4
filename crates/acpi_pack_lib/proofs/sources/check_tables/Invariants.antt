use Rattle.std.proofs.Common.{◌≡◌, drop}
use Rattle.acpi_pack_lib.specs.Words.{contents}
use Rattle.acpi_pack_lib.specs.Sources as sources
use Rattle.acpi_pack_lib.proofs.sources.check_tables.Given as goal

abbrev pub invariant-loop-index : goal.invariant-loop-index
invariant-loop-index l = sources.check_tables l.index (contents (drop l.index l.files))
    ≡ sources.check_tables 0 (contents l.files)
