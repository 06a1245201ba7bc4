use Rattle.std.proofs.Common.{◌≡◌}
use Rattle.acpi_pack_lib.specs.Words.{contents, entries_left, bytes_of, listed}
use Rattle.acpi_pack_lib.specs.Pack as pack
use Rattle.acpi_pack_lib.proofs.pack.dsdt_address.Given as goal

abbrev pub invariant-loop-table : goal.invariant-loop-table
invariant-loop-table l = pack.dsdt_address (bytes_of (entries_left l.table-iterator))
    ≡ pack.dsdt_address (listed (contents l.files))
