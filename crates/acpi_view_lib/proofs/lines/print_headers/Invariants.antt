use Rattle.std.proofs.Common.{◌≡◌, ◌++◌, flat_map, string_bytes}
use Rattle.acpi.specs.Words.{headers_left}
use Rattle.acpi_view_lib.specs.Lines.{header_line}
use Rattle.acpi_view_lib.proofs.lines.print_headers.Given as goal

abbrev pub invariant-loop-header : goal.invariant-loop-header
invariant-loop-header g l =
    string_bytes l.text ++ flat_map header_line (headers_left g.H.AcpiHandler.memory l.header-iterator)
    ≡ string_bytes l.initial.text ++ flat_map header_line
    (headers_left g.H.AcpiHandler.memory l.initial.header-iterator)
