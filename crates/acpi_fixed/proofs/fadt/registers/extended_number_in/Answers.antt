use Rattle.std.proofs.Common.{arith}
use Rattle.acpi_fixed.proofs.ExtendedFields.{is_there}
use Rattle.acpi_fixed.proofs.fadt.registers.extended_number_in.Goals as goal

pub field_in-requires-clause-there : goal.field_in-requires-clause-there
field_in-requires-clause-there c =
    is_there c.args.table.now c.args.offset 8 (omega arith) (omega (arith, c.requires.reach, c.if-offset-reach.true))
