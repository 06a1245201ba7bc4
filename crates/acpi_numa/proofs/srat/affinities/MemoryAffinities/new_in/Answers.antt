use Rattle.std.proofs.Common.{rules}
use Rattle.acpi.proofs.Agreed.{from_tables}
use Rattle.acpi.proofs.Moved.{moved_tables}
use Rattle.acpi_numa.proofs.Affinities.{affinities_follow, same_affinities}
use Rattle.acpi_numa.proofs.srat.affinities.MemoryAffinities.new_in.Goals as goal

pub returns-in_err-srat-clause-exact : goal.returns-in_err-srat-clause-exact
returns-in_err-srat-clause-exact g c = search rules

pub returns-in_err-srat-clause-footprint : goal.returns-in_err-srat-clause-footprint
returns-in_err-srat-clause-footprint g c = λ n h.
    rw (from_tables c.args.tables.now _ _ same_affinities c.args.tables.now.valid n h)
    (returns-in_err-srat-clause-exact g c)

pub returns-in_err-srat-clause-relocation : goal.returns-in_err-srat-clause-relocation
returns-in_err-srat-clause-relocation g c = λ n kind address same.
    rw (moved_tables c.args.tables.now _ affinities_follow n kind address same) (returns-in_err-srat-clause-exact g c)

pub returns-clause-exact : goal.returns-clause-exact
returns-clause-exact g c = search rules

pub returns-clause-footprint : goal.returns-clause-footprint
returns-clause-footprint g c = λ n h.
    rw (from_tables c.args.tables.now _ _ same_affinities c.args.tables.now.valid n h) (returns-clause-exact g c)

pub returns-clause-relocation : goal.returns-clause-relocation
returns-clause-relocation g c = λ n kind address same.
    rw (moved_tables c.args.tables.now _ affinities_follow n kind address same) (returns-clause-exact g c)
