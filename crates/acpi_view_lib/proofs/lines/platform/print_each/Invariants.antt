use Rattle.std.proofs.Common.{drop, ◌≡◌, ◌++◌, flat_map, string_bytes}
use Rattle.acpi_view_lib.proofs.lines.platform.print_each.Given as goal

abbrev pub invariant-loop-item : goal.invariant-loop-item
invariant-loop-item g l =
    string_bytes l.text ++ flat_map g.L.Line.item_line (drop l.item-index l.items)
    ≡ string_bytes l.initial.text ++ flat_map g.L.Line.item_line l.items
