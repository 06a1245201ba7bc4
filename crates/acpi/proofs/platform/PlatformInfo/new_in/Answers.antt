use Rattle.std.proofs.Common.{arith}
use Rattle.acpi.proofs.Agreed.{from_tables, same_platform}
use Rattle.acpi.proofs.Asked.{asked_fadt, asked_place}
use Rattle.acpi.proofs.Moved.{moved_tables, platform_follows}
use Rattle.acpi.specs.Words.{lookup_ranges, madt_kind, may_of, memory_of, pointers_of}
use Rattle.acpi.proofs.platform.PlatformInfo.new_in.Goals as goal

pub find_fadt-requires : goal.find_fadt-requires
find_fadt-requires g c =
    let t = c.args.tables.now in
    asked_fadt (may_of t) 0 (λ m f. lookup_ranges m madt_kind (pointers_of t)) (memory_of t) (pointers_of t) c.requires

pub found_model-requires : goal.found_model-requires
found_model-requires g c =
    let t = c.args.tables.now in
    asked_place (may_of t) 0 (λ m f. lookup_ranges m madt_kind (pointers_of t)) (memory_of t) (pointers_of t) _ c.requires
    c.in_ok-fadt.ensures.exact

pub returns-in_err-fadt-clause-relocation : goal.returns-in_err-fadt-clause-relocation
returns-in_err-fadt-clause-relocation g c n kind address same =
    grind (arith, moved_tables c.args.tables.now _ (platform_follows {A = g.row.A.Denot}) n kind address same)

pub returns-in_err-interrupt_model-clause-relocation : goal.returns-in_err-interrupt_model-clause-relocation
returns-in_err-interrupt_model-clause-relocation g c n kind address same =
    grind (arith, moved_tables c.args.tables.now _ (platform_follows {A = g.row.A.Denot}) n kind address same)

pub returns-in_err-pm_timer-clause-relocation : goal.returns-in_err-pm_timer-clause-relocation
returns-in_err-pm_timer-clause-relocation g c n kind address same =
    grind (arith, moved_tables c.args.tables.now _ (platform_follows {A = g.row.A.Denot}) n kind address same)

pub returns-clause-relocation : goal.returns-clause-relocation
returns-clause-relocation g c n kind address same =
    grind (arith, moved_tables c.args.tables.now _ (platform_follows {A = g.row.A.Denot}) n kind address same)

pub returns-in_err-interrupt_model-clause-footprint : goal.returns-in_err-interrupt_model-clause-footprint
returns-in_err-interrupt_model-clause-footprint g c n h =
    grind (arith, from_tables c.args.tables.now _ _ (same_platform {A = g.row.A.Denot}) c.args.tables.now.valid n h)

pub returns-in_err-pm_timer-clause-footprint : goal.returns-in_err-pm_timer-clause-footprint
returns-in_err-pm_timer-clause-footprint g c n h =
    grind (arith, from_tables c.args.tables.now _ _ (same_platform {A = g.row.A.Denot}) c.args.tables.now.valid n h)

pub returns-clause-footprint : goal.returns-clause-footprint
returns-clause-footprint g c n h =
    grind (arith, from_tables c.args.tables.now _ _ (same_platform {A = g.row.A.Denot}) c.args.tables.now.valid n h)
