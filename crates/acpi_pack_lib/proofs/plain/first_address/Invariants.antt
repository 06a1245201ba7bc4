use Rattle.std.proofs.Common.{◌≡◌, drop}
use Rattle.acpi_image_reader.specs.Words.{regions_of}
use Rattle.acpi_pack_lib.specs.Words.{first_from, first_in}
use Rattle.acpi_pack_lib.proofs.plain.first_address.Given as goal

abbrev pub invariant-loop-record : goal.invariant-loop-record
invariant-loop-record l = first_from l.first (regions_of (drop l.record-index l.records))
    ≡ first_in (regions_of l.records)
