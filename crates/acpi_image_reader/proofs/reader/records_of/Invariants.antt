use Rattle.acpi_image_reader.proofs.Images.{Reads}
use Rattle.acpi_image_reader.specs.Words.{regions_of}
use Rattle.std.proofs.Common.{length}
use Rattle.acpi_image_reader.proofs.reader.records_of.Given as goal

abbrev pub invariant-loop-rest : goal.invariant-loop-rest
invariant-loop-rest g l = Reads (regions_of l.records.list.items) l.rest l.bytes

abbrev pub decreases-loop-rest : goal.decreases-loop-rest
decreases-loop-rest g l = length l.rest
