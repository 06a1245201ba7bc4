use Rattle.std.proofs.Common.{◌≡◌, ◌++◌, drop, flat_map}
use Rattle.acpi_image_reader.specs.Words.{record_spelling}
use Rattle.acpi_image.specs.Words.{placed}
use Rattle.acpi_pack_lib.proofs.pack.put_tables.Given as goal

abbrev pub invariant-loop-table : goal.invariant-loop-table
invariant-loop-table l = l.file.items ++ flat_map record_spelling (placed (drop l.table-index l.tables))
    ≡ l.initial.file.items ++ flat_map record_spelling (placed l.tables)
