use Rattle.std.proofs.Common.{◌<◌, length, map}
use Rattle.acpi_dump_input.specs.Given.{GiveTable, Grows}
use Rattle.acpi_dump_input.specs.Inputs.{tables_in}
use Rattle.acpi_dump_input.proofs.read.Reader.words.Given as goal

-- tables of the names, one at least for the first of them
abbrev pub invariant-loop-name : goal.invariant-loop-name
invariant-loop-name g l =
    Grows (GiveTable g.S.Sources.gives (map (λ n. n.now) l.names)) (tables_in l.fn.self.tables.items)
    (tables_in l.self.tables.items)
    × (0 < l.name-index → 0 < length l.self.tables.items)
