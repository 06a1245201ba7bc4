use Rattle.std.proofs.Common.{rules}
use Rattle.acpi_base.proofs.OwnTable.{same_own_accepted}
use Rattle.acpi.specs.Words.{accept_of, memory_of}
use Rattle.acpi.proofs.tables.AcpiTables.own_sdt_at.Goals as goal

pub returns-in_err-table-clause-footprint : goal.returns-in_err-table-clause-footprint
returns-in_err-table-clause-footprint g c n h =
    rw (same_own_accepted (accept_of c.args.self.now) (memory_of c.args.self.now) n c.args.address h) (search rules)

pub returns-clause-footprint : goal.returns-clause-footprint
returns-clause-footprint g c n h =
    rw (same_own_accepted (accept_of c.args.self.now) (memory_of c.args.self.now) n c.args.address h) (search rules)
