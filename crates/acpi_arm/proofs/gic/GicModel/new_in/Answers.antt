use Rattle.std.proofs.Common.{rules}
use Rattle.acpi.proofs.Agreed.{from_tables}
use Rattle.acpi.proofs.Moved.{moved_tables}
use Rattle.acpi_arm.proofs.Theorems.{gic_follows, same_gic}
use Rattle.acpi_arm.proofs.gic.GicModel.new_in.Goals as goal

pub returns-in_err-madt-clause-exact : goal.returns-in_err-madt-clause-exact
returns-in_err-madt-clause-exact g c = search rules

pub returns-in_err-madt-clause-relocation : goal.returns-in_err-madt-clause-relocation
returns-in_err-madt-clause-relocation g c = λ n kind address same.
    rw (moved_tables c.args.tables.now _ (gic_follows {A = g.row.A.Denot}) n kind address same)
    (returns-in_err-madt-clause-exact g c)

pub returns-clause-exact : goal.returns-clause-exact
returns-clause-exact g c = let exactly = rw c.bytes.ensures.value at c.of.ensures in search (rules, exactly)

pub returns-clause-footprint : goal.returns-clause-footprint
returns-clause-footprint g c = λ n h.
    rw (from_tables c.args.tables.now _ _ (same_gic {A = g.row.A.Denot}) c.args.tables.now.valid n h)
    (returns-clause-exact g c)

pub returns-clause-relocation : goal.returns-clause-relocation
returns-clause-relocation g c = λ n kind address same.
    rw (moved_tables c.args.tables.now _ (gic_follows {A = g.row.A.Denot}) n kind address same)
    (returns-clause-exact g c)
