use Rattle.std.proofs.Common.{◌∷◌, []}
use Rattle.acpi_base.proofs.FromStd.{IfOk-weaker}
use Rattle.acpi_image.proofs.Checks.{two_placed, two_share}
use Rattle.acpi_image.specs.Words.{places_of}
use Rattle.acpi_image_reader.specs.Words.{region_in}
use Rattle.acpi_image.proofs.write.places.some_share_by_starts.Goals as goal

pub returns-then-shares_byte : goal.returns-then-shares_byte
returns-then-shares_byte g c =
    two_share (region_in c.args.rsdp) (region_in c.args.root) (places_of c.args.tables.now) (c.if-shares_byte.ensures)

pub returns : goal.returns
returns g c =
    let placed = two_placed (region_in c.args.rsdp) (region_in c.args.root) c.new-starts.result c.add_place.new.starts
    c.add_place-2.new.starts c.new-starts.ensures.empty c.if-shares_byte.ensures c.in_ok-add_place.ensures
    c.in_ok-add_place-2.ensures in
    IfOk-weaker c.tables_share.result _ _ (λ b says. says (region_in c.args.rsdp ∷ region_in c.args.root ∷ []) placed)
    c.tables_share.ensures
