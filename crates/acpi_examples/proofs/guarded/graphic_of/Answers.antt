use Rattle.acpi_base.proofs.AllowedRanges.{all_front}
use Rattle.acpi_bytes.specs.declared.signature.TheConstants.Signature.{BGRT}
use Rattle.acpi_bytes.specs.Header.{check_table}
use Rattle.acpi_bytes.specs.Table.{kind}
use Rattle.acpi.proofs.Asked.{asked_below}
use Rattle.acpi.specs.Footprint.{lookup_ranges}
use Rattle.acpi.specs.OpenedRanges.{opened_ranges}
use Rattle.acpi.specs.Root.{root_of_revision}
use Rattle.acpi_examples.proofs.guarded.graphic_of.Goals as goal

pub from_rsdt-requires : goal.from_rsdt-requires
from_rsdt-requires g c =
    let h = c.args.lender.now in
    all_front (g.L.Lender.may h) (opened_ranges (g.L.Lender.memory h) (root_of_revision 0 c.args.rsdt)) _ c.requires

pub find_table-requires : goal.find_table-requires
find_table-requires g c =
    asked_below g.L.Lender.memory g.L.Lender.may (λ m. lookup_ranges m (kind BGRT 56 (check_table BGRT)))
    c.args.lender.now _ (root_of_revision 0 c.args.rsdt) _
    c.in_ok-tables.ensures.handler c.in_ok-tables.ensures.exact c.requires
