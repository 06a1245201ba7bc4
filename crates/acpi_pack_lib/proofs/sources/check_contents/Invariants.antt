use Rattle.std.proofs.Common.{◌≡◌, drop}
use Rattle.acpi_pack_lib.specs.Words.{contents}
use Rattle.acpi_pack_lib.specs.Sources as sources
use Rattle.acpi_pack_lib.proofs.sources.check_contents.Given as goal

abbrev pub invariant-loop-index : goal.invariant-loop-index
invariant-loop-index l = sources.check_contents l.index (contents (drop l.index l.files))
    ≡ sources.check_contents 0 (contents l.files)
