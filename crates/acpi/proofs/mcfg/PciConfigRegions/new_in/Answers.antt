use Rattle.std.proofs.Common.{arith}
use Rattle.acpi.proofs.Moved.{moved_tables, regions_follow}
use Rattle.acpi.proofs.mcfg.PciConfigRegions.new_in.Goals as goal

pub returns-in-Ok-clause-relocation : goal.returns-in-Ok-clause-relocation
returns-in-Ok-clause-relocation g c n kind address same =
    grind (arith, moved_tables c.args.tables.now _ regions_follow n kind address same)

pub returns-clause-relocation : goal.returns-clause-relocation
returns-clause-relocation g c n kind address same =
    grind (arith, moved_tables c.args.tables.now _ regions_follow n kind address same)

pub returns-in_err-mcfg-clause-relocation : goal.returns-in_err-mcfg-clause-relocation
returns-in_err-mcfg-clause-relocation g c n kind address same =
    grind (arith, moved_tables c.args.tables.now _ regions_follow n kind address same)
