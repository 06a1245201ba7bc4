use Rattle.std.proofs.Common.{rules}
use Rattle.acpi_table_writer.specs.Rhct.{rhct_written}
use Rattle.acpi_table_writer.proofs.Harts.{hart_nodes}
use Rattle.acpi_table_writer.proofs.rhct.write_rhct.Goals as goal

pub returns-clause-exact : goal.returns-clause-exact
unfolding rhct_written
returns-clause-exact c =
    rw (← c.in_ok-check.ensures.exact, ← c.from_bytes.ensures, ← hart_nodes c.args.contents.now.harts.now)
    (search rules)
