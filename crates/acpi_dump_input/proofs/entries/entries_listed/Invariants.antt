use Rattle.std.proofs.Common.{◌≡◌, ◌<◌, ◌++◌, length, map}
use Rattle.std.specs.Prelude.{All, None}
use Rattle.acpi.specs.Words.{pointers_left, pointers_of, root_address_of}
use Rattle.acpi_image_reader.specs.Words.{memory_of}
use Rattle.acpi_dump_input.specs.Inputs.{IsPart}
use Rattle.acpi_dump_input.specs.Listed.{listed_at, seen, tables_listed}
use Rattle.acpi_dump_input.proofs.entries.entries_listed.Given as goal

-- the tables so far, and those to which the pointers that are left lead, are all that are listed
abbrev pub invariant-loop-address : goal.invariant-loop-address
invariant-loop-address l =
    let m = memory_of l.image in
    All (IsPart m) (map (λ e. e.bytes.now) l.entries.items)
    × (0 < length l.entries.items)
    × (map seen l.entries.items ++ map (listed_at m None) (pointers_left l.address-iterator)
    ≡ tables_listed m (root_address_of l.tables) (pointers_of l.tables))
