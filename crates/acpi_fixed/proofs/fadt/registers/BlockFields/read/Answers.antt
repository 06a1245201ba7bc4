use Rattle.std.proofs.Common.{◌∙◌, ap, option_and_then, sym}
use Rattle.acpi_fixed.specs.Words.{block_at, usable_extended}
use Rattle.acpi_fixed.proofs.ExtendedFields.{part_field, usable_in}
use Rattle.acpi_fixed.proofs.fadt.registers.BlockFields.read.Goals as goal

pub returns-clause-extended : goal.returns-clause-extended
unfolding block_at
returns-clause-extended c =
    c.usable.ensures ∙ ap (option_and_then usable_extended) c.raw_in.ensures
    ∙ usable_in c.args.table.now c.args.reach c.args.place.extended c.requires.reach

pub returns-clause-port : goal.returns-clause-port
unfolding block_at
returns-clause-port c =
    c.u32_in.ensures ∙ sym (part_field c.args.table.now c.args.place.address 4 c.requires.address)
