use Rattle.std.proofs.Common.{◌≡◌}
use Rattle.acpi_image.specs.Words.{placed_region}
use Rattle.acpi_pack_lib.specs.Words.{contents, entries_left, room, bytes_of, listed}
use Rattle.acpi_pack_lib.proofs.place.check_room.Given as goal

abbrev pub invariant-loop-table : goal.invariant-loop-table
invariant-loop-table l = room (placed_region l.fixed) l.next (bytes_of (entries_left l.table-iterator))
    ≡ room (placed_region l.fixed) l.fn.from (listed (contents l.files))
