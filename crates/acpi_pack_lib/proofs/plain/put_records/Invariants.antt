use Rattle.std.proofs.Common.{◌≡◌, drop, length}
use Rattle.acpi_base.specs.FromStd.{AllByRecursion}
use Rattle.acpi_image_reader.specs.Words.{regions_of}
use Rattle.acpi_pack_lib.specs.Words.{LiesIn, with_regions}
use Rattle.acpi_pack_lib.proofs.plain.put_records.Given as goal

-- what is put, and what is to come, which is inside the bytes
abbrev pub invariant-loop-record : goal.invariant-loop-record
invariant-loop-record l =
    (with_regions l.fn.first l.bytes (regions_of (drop l.record-index l.records))
    ≡ with_regions l.fn.first l.initial.bytes (regions_of l.records))
    × (length l.bytes ≡ length l.initial.bytes)
    × AllByRecursion (LiesIn l.fn.first (length l.initial.bytes)) (regions_of (drop l.record-index l.records))
