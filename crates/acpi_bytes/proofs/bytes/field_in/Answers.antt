use Rattle.std.proofs.Common.{length, ◌-◌, drop, take-take, arith}
use Rattle.acpi_bytes.proofs.Spelling.{field_fits}
use Rattle.acpi_bytes.specs.Words.{field_of}
use Rattle.acpi_bytes.proofs.bytes.field_in.Goals as goal

pub returns-clause-fits : goal.returns-clause-fits
unfolding field_of
returns-clause-fits c =
    let whole = take-take c.args.n (length c.args.bytes.now - c.args.offset) (drop c.args.offset c.args.bytes.now)
    (omega (arith, c.requires.there)) in
    rw (c.number_of.ensures, whole) (field_fits c.args.bytes.now c.args.offset c.args.n c.type_inv.bytes)
