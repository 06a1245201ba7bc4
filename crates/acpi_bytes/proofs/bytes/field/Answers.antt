use Rattle.std.proofs.Common.{arith, take-take, take_all}
use Rattle.acpi_bytes.proofs.FromStd.{common_steps}
use Rattle.acpi_bytes.proofs.Spelling.{field_fits}
use Rattle.acpi_bytes.specs.Words.{field_of}
use Rattle.acpi_bytes.proofs.bytes.field.Goals as goal

pub returns-then-n-rest-clause-fits : goal.returns-then-n-rest-clause-fits
unfolding field_of
returns-then-n-rest-clause-fits c =
    let fits = field_fits c.args.bytes.now c.args.offset c.args.n c.type_inv.bytes in
    grind (arith, common_steps, take-take)

pub returns-else-n-rest-clause-fits : goal.returns-else-n-rest-clause-fits
unfolding field_of
returns-else-n-rest-clause-fits c =
    let fits = field_fits c.args.bytes.now c.args.offset c.args.n c.type_inv.bytes in
    grind (arith, common_steps, take_all)
