use Rattle.std.proofs.Common.{◌≡◌, drop}
use Rattle.acpi_image_reader.specs.Words.{regions_of}
use Rattle.acpi_pack_lib.specs.Words.{end_from, end_in}
use Rattle.acpi_pack_lib.proofs.plain.end_address.Given as goal

abbrev pub invariant-loop-record : goal.invariant-loop-record
invariant-loop-record l = end_from l.end (regions_of (drop l.record-index l.records)) ≡ end_in (regions_of l.records)
