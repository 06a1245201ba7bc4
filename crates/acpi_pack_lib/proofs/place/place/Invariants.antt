use Rattle.std.proofs.Common.{◌≡◌}
use Rattle.acpi_image.specs.Words.{placed, placed_region}
use Rattle.acpi_pack_lib.specs.Words.{contents, entries_left, placed_from, bytes_of, listed}
use Rattle.acpi_pack_lib.proofs.Placing.{behind}
use Rattle.acpi_pack_lib.proofs.place.place.Given as goal

abbrev pub invariant-loop-table : goal.invariant-loop-table
invariant-loop-table l =
    behind (placed l.placed.items) (placed_from (placed_region l.fixed) l.next
    (bytes_of (entries_left l.table-iterator))) ≡ placed_from (placed_region l.fixed) l.fn.from
    (listed (contents l.files))
