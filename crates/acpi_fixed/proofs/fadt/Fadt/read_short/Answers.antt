use Rattle.std.proofs.Common.{refl, lit<, lit≤}
use Rattle.acpi_fixed.specs.Words.{fadt_at}
use Rattle.acpi_fixed.proofs.Short.{block_is, blocks, field, plain, sleep_is, x_dsdt_is, x_firmware_ctrl_is}
use Rattle.acpi_fixed.proofs.fadt.Fadt.read_short.Goals as goal

pub fadt_at-requires-clause-known : goal.fadt_at-requires-clause-known
fadt_at-requires-clause-known c = rw c.whole.ensures (blocks c.args.table.now)

pub returns : goal.returns
unfolding fadt_at
returns c =
    let b = c.args.table.now in
    rw (c.read.ensures, c.fadt_at.ensures, c.whole.ensures)
    (rw (field b 36 4 refl refl, field b 40 4 refl refl, field b 45 1 refl refl, field b 46 2 refl refl, field b 48 4 refl refl, field b 52 1 refl refl, field b 53 1 refl refl, field b 54 1 refl refl, field b 55 1 refl refl, field b 94 1 refl refl, field b 95 1 refl refl, field b 96 2 refl refl, field b 98 2 refl refl, field b 100 2 refl refl, field b 102 2 refl refl, field b 104 1 refl refl, field b 105 1 refl refl, field b 106 1 refl refl, field b 107 1 refl refl, field b 108 1 refl refl, field b 109 2 refl refl, field b 112 4 refl refl, field b 128 1 refl refl, field b 129 2 refl refl)
    (rw (block_is b 56 88 0 refl refl refl refl refl, block_is b 60 88 1 refl refl refl refl refl, block_is b 64 89 2 refl refl refl refl refl, block_is b 68 89 3 refl refl refl refl refl, block_is b 72 90 4 refl refl refl refl refl, block_is b 76 91 5 refl refl refl refl refl, block_is b 80 92 6 refl refl refl refl refl, block_is b 84 93 7 refl refl refl refl refl)
    (rw (
      plain b 116 12 (lit< tt) (lit≤ tt),
      x_firmware_ctrl_is b,
      x_dsdt_is b,
      sleep_is b 244 refl c.requires.short,
      sleep_is b 256 refl c.requires.short,
    ) refl)))
