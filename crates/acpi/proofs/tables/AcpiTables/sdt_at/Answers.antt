use Rattle.std.proofs.Common.{rules}
use Rattle.acpi_base.proofs.Words.{same_table}
use Rattle.acpi_base.specs.Words.{plain_kind}
use Rattle.acpi.specs.Words.{accepted_by, memory_of}
use Rattle.acpi.proofs.tables.AcpiTables.sdt_at.Goals as goal

pub returns-in_err-table-clause-footprint : goal.returns-in_err-table-clause-footprint
returns-in_err-table-clause-footprint g c n h =
    rw (same_table (accepted_by c.args.self.now (plain_kind c.args.signature)) (memory_of c.args.self.now) n
    c.args.address h) (search rules)

pub returns-clause-footprint : goal.returns-clause-footprint
returns-clause-footprint g c n h =
    rw (same_table (accepted_by c.args.self.now (plain_kind c.args.signature)) (memory_of c.args.self.now) n
    c.args.address h) (search rules)
