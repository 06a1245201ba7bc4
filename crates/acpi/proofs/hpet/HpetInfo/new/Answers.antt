use Rattle.std.proofs.Common.{arith}
use Rattle.acpi.proofs.Moved.{moved_tables, hpet_follows}
use Rattle.acpi.proofs.hpet.HpetInfo.new.Goals as goal

pub returns-clause-relocation : goal.returns-clause-relocation
returns-clause-relocation g c n kind address same =
    grind (arith, moved_tables c.args.tables.now _ hpet_follows n kind address same)

pub returns-in_err-find_table-clause-relocation : goal.returns-in_err-find_table-clause-relocation
returns-in_err-find_table-clause-relocation g c n kind address same =
    grind (arith, moved_tables c.args.tables.now _ hpet_follows n kind address same)
