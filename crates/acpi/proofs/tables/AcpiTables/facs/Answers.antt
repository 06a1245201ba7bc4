use Rattle.acpi.proofs.Asked.{asked_fadt, asked_place}
use Rattle.acpi.specs.Words.{accept_of, facs_place_ranges, may_of, memory_of, pointers_of}
use Rattle.acpi.proofs.tables.AcpiTables.facs.Goals as goal

pub find_fadt-requires : goal.find_fadt-requires
find_fadt-requires g c =
    let t = c.args.self.now in
    asked_fadt (may_of t) (accept_of t) facs_place_ranges (memory_of t) (pointers_of t) c.requires

pub facs_place-requires : goal.facs_place-requires
facs_place-requires g c =
    let t = c.args.self.now in
    asked_place (may_of t) (accept_of t) facs_place_ranges (memory_of t) (pointers_of t) _ c.requires c.in_ok-find_fadt.ensures.exact
