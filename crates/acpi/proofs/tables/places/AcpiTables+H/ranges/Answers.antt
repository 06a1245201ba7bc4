use Rattle.std.proofs.Common.{refl, rules}
use Rattle.acpi.proofs.Agreed.{from_tables, in_ok, same_places}
use Rattle.acpi.proofs.Asked.{asked_dsdt_and_facs, asked_members}
use Rattle.acpi.proofs.Placing.{fits_places, places_few}
use Rattle.acpi.specs.Words.{root_place, width_of, kind_of, may_of, memory_of, pointers_of, root_of}
use Rattle.acpi.proofs.tables.places.AcpiTables+H.ranges.Goals as goal

pub dsdt_and_facs-dsdt-requires : goal.dsdt_and_facs-dsdt-requires
dsdt_and_facs-dsdt-requires g c = asked_dsdt_and_facs (may_of c.args.self.now) (memory_of c.args.self.now)
    (pointers_of c.args.self.now) c.requires

pub new-requires : goal.new-requires
new-requires g c =
    rw (c.handler.ensures, c.pointers.ensures)
    (asked_members (may_of c.args.self.now) (memory_of c.args.self.now) (pointers_of c.args.self.now) c.requires)

pub returns-clause-items : goal.returns-clause-items
returns-clause-items g c = search rules

pub returns-clause-few : goal.returns-clause-few
returns-clause-few g c =
    let t = c.args.self.now in
    rw (returns-clause-items g c) (places_few (root_place t) (memory_of t) (pointers_of t))

pub returns-clause-fits : goal.returns-clause-fits
returns-clause-fits g c =
    let t = c.args.self.now in
    rw (returns-clause-items g c) (fits_places _ (width_of (kind_of t)) (root_of t) t.short
    (places_few (root_place t) (memory_of t) (pointers_of t)))

pub returns-clause-footprint : goal.returns-clause-footprint
returns-clause-footprint g c =
    let t = c.args.self.now in
    λ n h. rw (from_tables t _ _ (in_ok _ _ (same_places (root_place t))) t.valid n h)
    (rw (returns-clause-items g c) refl)
