use Rattle.acpi_dump_input.specs.Given.{GivesTable, Grows}
use Rattle.acpi_dump_input.specs.Inputs.{tables_in}
use Rattle.acpi_dump_input.proofs.read.Reader.add_names.Given as goal

abbrev pub invariant-loop-name : goal.invariant-loop-name
invariant-loop-name g l =
    Grows (GivesTable g.S.Sources.gives l.folder) (tables_in l.fn.self.tables.items) (tables_in l.self.tables.items)
