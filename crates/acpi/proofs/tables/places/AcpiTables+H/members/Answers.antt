use Rattle.std.proofs.Common.{refl}
use Rattle.acpi.proofs.Agreed.{from_tables, in_ok, same_members}
use Rattle.acpi.proofs.First.{fits_root}
use Rattle.acpi.proofs.Placing.{addresses_are, members_few}
use Rattle.acpi.specs.Words.{width_of, kind_of, root_of}
use Rattle.acpi.proofs.tables.places.AcpiTables+H.members.Goals as goal

pub new-requires : goal.new-requires
new-requires g c = rw (c.handler.ensures, c.pointers.ensures) c.requires

pub returns-clause-items : goal.returns-clause-items
returns-clause-items g c = rw (c.new.ensures, c.handler.ensures, c.pointers.ensures) refl

pub returns-clause-each : goal.returns-clause-each
returns-clause-each g c = rw (c.new.ensures, c.pointers.ensures) (addresses_are _ _)

pub returns-clause-fits : goal.returns-clause-fits
returns-clause-fits g c =
    rw (c.new.ensures, c.pointers.ensures)
    (fits_root _ (width_of (kind_of c.args.self.now)) (root_of c.args.self.now) c.args.self.now.short
    (members_few _ _))

pub returns-clause-footprint : goal.returns-clause-footprint
returns-clause-footprint g c = λ n h. rw (from_tables c.args.self.now _ _ (in_ok _ _ same_members) c.args.self.now.valid
    n h) (rw (c.new.ensures, c.handler.ensures, c.pointers.ensures) refl)
