use Rattle.std.proofs.Common.{◌<◌, length}
use Rattle.acpi_dump_input.specs.Given.{Grows, HasTable}
use Rattle.acpi_dump_input.specs.Inputs.{tables_in}
use Rattle.acpi_dump_input.proofs.read.Reader.add_text.Given as goal

-- some of the tables that the text spells, one at least once the first is added
abbrev pub invariant-loop-table : goal.invariant-loop-table
invariant-loop-table g l =
    Grows (HasTable l.bytes) (tables_in l.fn.self.tables.items) (tables_in l.self.tables.items)
    × (0 < length l.yielded → length l.fn.self.tables.items < length l.self.tables.items)
