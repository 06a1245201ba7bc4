use Rattle.std.proofs.Common.{◌≡◌, drop}
use Rattle.acpi_image.specs.Words.{places_of}
use Rattle.acpi_image.specs.WriteChecks as checks
use Rattle.acpi_image.proofs.write.places.some_share.Given as goal

abbrev pub invariant-loop-index : goal.invariant-loop-index
invariant-loop-index l = checks.some_share (places_of (drop l.index l.tables)) ≡ checks.some_share (places_of l.tables)
