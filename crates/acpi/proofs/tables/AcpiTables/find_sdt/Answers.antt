use Rattle.std.proofs.Common.{rules}
use Rattle.acpi.proofs.Agreed.{from_tables, same_lookup}
use Rattle.acpi_base.specs.Words.{plain_kind}
use Rattle.acpi.specs.Words.{accepted_by}
use Rattle.acpi.proofs.tables.AcpiTables.find_sdt.Goals as goal

pub returns-clause-footprint : goal.returns-clause-footprint
returns-clause-footprint g c n h =
    rw (from_tables c.args.self.now _ _ (same_lookup (accepted_by c.args.self.now (plain_kind c.args.signature)))
    c.args.self.now.valid n h) (search rules)

pub returns-in_err-found-clause-footprint : goal.returns-in_err-found-clause-footprint
returns-in_err-found-clause-footprint g c n h =
    rw (from_tables c.args.self.now _ _ (same_lookup (accepted_by c.args.self.now (plain_kind c.args.signature)))
    c.args.self.now.valid n h) (search rules)
