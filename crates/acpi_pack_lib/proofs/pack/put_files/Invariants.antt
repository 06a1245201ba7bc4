use Rattle.std.proofs.Common.{◌≡◌, ◌++◌, flat_map}
use Rattle.acpi_image_reader.specs.Words.{record_spelling}
use Rattle.acpi_pack_lib.specs.Words.{contents, regions_left, regions}
use Rattle.acpi_pack_lib.proofs.pack.put_files.Given as goal

abbrev pub invariant-loop-table : goal.invariant-loop-table
invariant-loop-table l =
    l.file.items ++ flat_map record_spelling (regions_left l.table-iterator)
    ≡ l.initial.file.items ++ flat_map record_spelling (regions l.addresses (contents l.fn.files))
