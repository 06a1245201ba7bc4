use Rattle.acpi.proofs.Asked.{asked_dsdt_place, asked_facs_place, asked_fadt}
use Rattle.acpi.specs.Words.{both_place_ranges, may_of, memory_of, pointers_of}
use Rattle.acpi.proofs.tables.places.AcpiTables+H.dsdt_and_facs.Goals as goal

pub find_fadt-requires : goal.find_fadt-requires
find_fadt-requires g c =
    let t = c.args.self.now in
    asked_fadt (may_of t) 0 both_place_ranges (memory_of t) (pointers_of t) c.requires

pub dsdt_place-requires : goal.dsdt_place-requires
dsdt_place-requires g c =
    let t = c.args.self.now in
    asked_dsdt_place (may_of t) (memory_of t) (pointers_of t) _ c.requires c.in-Ok.ensures.exact

pub facs_place-requires : goal.facs_place-requires
facs_place-requires g c =
    let t = c.args.self.now in
    asked_facs_place (may_of t) (memory_of t) (pointers_of t) _ c.requires c.in-Ok.ensures.exact
