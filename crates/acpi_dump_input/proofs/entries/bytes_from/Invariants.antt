use Rattle.std.proofs.Common.{◌≡◌, drop}
use Rattle.acpi_base.specs.Words.{rest_from}
use Rattle.acpi_image_reader.specs.Words.{memory_of}
use Rattle.acpi_dump_input.proofs.entries.bytes_from.Given as goal

-- no record so far has the address
abbrev pub invariant-loop-record : goal.invariant-loop-record
invariant-loop-record l =
    rest_from (memory_of l.image) l.address ≡ rest_from (drop l.record-index (memory_of l.image)) l.address
