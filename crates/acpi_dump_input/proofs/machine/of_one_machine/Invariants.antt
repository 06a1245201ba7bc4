use Rattle.std.proofs.Common.{◌<◌, length}
use Rattle.std.specs.Prelude.{All, Contains}
use Rattle.acpi_dump_input.specs.Inputs.{tables_in}
use Rattle.acpi_dump_input.proofs.machine.of_one_machine.Given as goal

abbrev pub invariant-loop-table : goal.invariant-loop-table
invariant-loop-table l = All (Contains (tables_in l.yielded)) (tables_in l.kept.items)
    × (0 < length l.yielded → 0 < length l.kept.items)
