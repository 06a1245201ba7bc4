use Rattle.std.proofs.Common.{◌≡◌, ◌++◌, drop, map, flat_map}
use Rattle.acpi_image_reader.specs.Words.{record_spelling}
use Rattle.acpi_image.specs.Words.{placed, plan, records_of, summed}
use Rattle.acpi_image.proofs.write.records.put_records.Given as goal

abbrev pub invariant-loop-table : goal.invariant-loop-table
invariant-loop-table g l = l.file.items ++ flat_map record_spelling (map summed (placed (drop l.table-index l.tables)))
    ≡ l.fn.file.items ++ flat_map record_spelling (records_of (plan l.rsdp_address l.root_address l.revision l.tables))
