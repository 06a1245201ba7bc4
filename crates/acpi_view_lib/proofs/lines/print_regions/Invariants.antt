use Rattle.std.proofs.Common.{◌≡◌, ◌++◌, flat_map, string_bytes}
use Rattle.acpi.specs.Words.{shown_left}
use Rattle.acpi_view_lib.specs.Lines.{shown_line}
use Rattle.acpi_view_lib.proofs.lines.print_regions.Given as goal

abbrev pub invariant-loop-region : goal.invariant-loop-region
invariant-loop-region g l =
    string_bytes l.text ++ flat_map shown_line (shown_left l.region-iterator)
    ≡ string_bytes l.initial.text ++ flat_map shown_line (shown_left l.initial.region-iterator)
