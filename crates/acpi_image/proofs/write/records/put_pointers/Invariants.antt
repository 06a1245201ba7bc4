use Rattle.std.proofs.Common.{◌≡◌, ◌≤◌, ◌++◌, drop, flat_map, length}
use Rattle.acpi_base.specs.Words.{spelling}
use Rattle.acpi_image.specs.Words.{placed, starts_of}
use Rattle.acpi_image.proofs.write.records.put_pointers.Given as goal

abbrev pub invariant-loop-table : goal.invariant-loop-table
invariant-loop-table g l =
    (l.file.items ++ flat_map (spelling l.width) (starts_of (placed (drop l.table-index l.tables)))
    ≡ l.initial.file.items ++ flat_map (spelling l.width) (starts_of (placed l.tables)))
    × (length l.initial.file.items ≤ length l.file.items)
