use Rattle.std.proofs.Common.{◌≡◌, ◌++◌, drop, map, string_bytes}
use Rattle.acpi_image_reader.specs.Words.{regions_of}
use Rattle.acpi_pack_lib.specs.Words.{label_text, record_lines}
use Rattle.acpi_pack_lib.proofs.listing.put_lines.Given as goal

abbrev pub invariant-loop-index : goal.invariant-loop-index
invariant-loop-index l =
    string_bytes l.text ++ record_lines (map label_text l.labels) l.index (regions_of (drop l.index l.records))
    ≡ string_bytes l.initial.text ++ record_lines (map label_text l.labels) 0 (regions_of l.records)
