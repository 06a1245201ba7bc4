use Rattle.std.proofs.Common.{◌≡◌, length, arith}
use Rattle.acpi_image_reader.specs.Words.{memory_of}
use Rattle.acpi_dump_input.proofs.Absent.{nothing_here}
use Rattle.acpi_dump_input.proofs.checks.check_at.Goals as goal

pub returns-in-Some : goal.returns-in-Some
returns-in-Some c =
    let none : length c.args.lent.now ≡ 0 = grind (arith, c.if-is_empty.ensures) in
    nothing_here (memory_of c.args.image.now) c.args.sought c.in-Some.field-0 c.args.address c.args.lent.now c.requires
    none c.in-Some.is
