use Rattle.std.proofs.Common.{rules}
use Rattle.acpi_base.proofs.Words.{same_table}
use Rattle.acpi.specs.Words.{accepted_by, memory_of}
use Rattle.acpi.proofs.tables.AcpiTables.table_at.Goals as goal

pub returns-clause-footprint : goal.returns-clause-footprint
returns-clause-footprint g c n h =
    rw (same_table (accepted_by c.args.self.now g.T.AcpiTable.kind) (memory_of c.args.self.now) n c.args.address h)
    (search rules)
