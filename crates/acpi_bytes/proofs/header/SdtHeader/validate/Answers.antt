use Rattle.std.proofs.Common.{◌≡◌, Ok, arith}
use Rattle.acpi_bytes.proofs.FromStd.{common_steps}
use Rattle.acpi_bytes.proofs.Sums.{damage_shows}
use Rattle.acpi_bytes.specs.Words.{check_table, header_at}
use Rattle.acpi_bytes.proofs.header.SdtHeader.validate.Goals as goal

pub returns-clause-damage : goal.returns-clause-damage
unfolding check_table header_at
returns-clause-damage c =
    let exact : Ok tt ≡ check_table c.args.signature c.args.bytes.now = grind (arith, common_steps) in
    damage_shows c.args.signature c.args.bytes.now (Ok tt) c.type_inv.bytes exact
