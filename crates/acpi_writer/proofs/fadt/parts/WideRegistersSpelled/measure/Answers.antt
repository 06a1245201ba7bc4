use Rattle.std.proofs.Common.{All, flat_map, subst}
use Rattle.acpi_writer.specs.Words.{FitsRegister, Measures, register_bytes}
use Rattle.acpi_writer.proofs.fadt.parts.WideRegistersSpelled.measure.Goals as goal

pub returns : goal.returns
returns c =
    subst (λ rs. Measures c.measure.result c.args.room (flat_map register_bytes rs) (All FitsRegister rs))
    c.registers.ensures c.measure.ensures
