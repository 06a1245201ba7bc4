use Rattle.std.proofs.Common.{ℕ, ap}
use Rattle.acpi_view_lib.proofs.lines.print_graphic.Goals as goal

pub returns : goal.returns
returns c =
    let x = ap (λ (offset : ℕ × ℕ). offset.0) c.image_offset-x.ensures in
    let y = ap (λ (offset : ℕ × ℕ). offset.1) c.image_offset-x.ensures in
    rw (← c.was_displayed.ensures, ← c.yes_or_no-displayed.ensures, ← c.orientation_offset-angle.ensures, ← x, ← y)
    c.in_ok-writeln.ensures.bytes
