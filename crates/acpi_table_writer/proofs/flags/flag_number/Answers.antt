use Rattle.std.proofs.Common.{◌<◌, arith}
use Rattle.acpi_table_writer.proofs.Bits.{bit_small, flags_few, flags_none}
use Rattle.acpi_table_writer.proofs.flags.flag_number.Goals as goal

pub loop-i-init : goal.loop-i-init
loop-i-init c = (flags_none c.args.flags.now, omega arith)

pub overflow_mul-number : goal.overflow_mul-number
overflow_mul-number c = omega (
  arith,
  c.loop-i.invariant.0,
  flags_few c.args.flags.now c.loop-i.i c.requires
      c.loop-i-test.true,
)

pub overflow_add-number : goal.overflow_add-number
overflow_add-number c =
    let small : c.bit_of.result < 2 = rw c.bit_of.ensures (bit_small _) in
    omega (arith, c.loop-i.invariant.0, small, flags_few c.args.flags.now c.loop-i.i c.requires c.loop-i-test.true)
