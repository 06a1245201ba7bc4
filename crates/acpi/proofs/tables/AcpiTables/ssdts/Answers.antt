use Rattle.std.proofs.Common.{refl}
use Rattle.acpi.proofs.Agreed.{from_tables, in_ok, same_streams}
use Rattle.acpi.proofs.First.{filter_map_few, fits_root}
use Rattle.acpi_base.specs.Words.{plain_kind}
use Rattle.acpi.specs.Types.{SSDT}
use Rattle.acpi.specs.Words.{accepted_by, width_of, kind_of, root_of}
use Rattle.acpi.proofs.tables.AcpiTables.ssdts.Goals as goal

pub new-requires : goal.new-requires
new-requires g c = rw (c.handler.ensures, c.pointers.ensures, c.bits.ensures) c.requires

pub returns-clause-items : goal.returns-clause-items
returns-clause-items g c = rw (c.new.ensures, c.handler.ensures, c.pointers.ensures, c.bits.ensures) refl

pub returns-clause-few : goal.returns-clause-few
returns-clause-few g c = rw (c.new.ensures, c.pointers.ensures) (filter_map_few _ _)

pub returns-clause-fits : goal.returns-clause-fits
returns-clause-fits g c =
    rw (c.new.ensures, c.pointers.ensures)
    (fits_root _ (width_of (kind_of c.args.self.now)) (root_of c.args.self.now) c.args.self.now.short
    (filter_map_few _ _))

pub returns-clause-footprint : goal.returns-clause-footprint
returns-clause-footprint g c = λ n h. rw (from_tables c.args.self.now _ _ (in_ok _ _ (same_streams (accepted_by c.args.self.now (plain_kind SSDT)))) c.args.self.now.valid n
    h) (rw (c.new.ensures, c.handler.ensures, c.pointers.ensures, c.bits.ensures) refl)
