use Rattle.std.proofs.Common.{◌≡◌, ◌++◌, codes, flat_map, string_bytes}
use Rattle.acpi.specs.Words.{ssdts_left}
use Rattle.acpi_view_lib.specs.Lines.{stream_line}
use Rattle.acpi_view_lib.proofs.lines.print_ssdts.Given as goal

abbrev pub invariant-loop-stream : goal.invariant-loop-stream
invariant-loop-stream g l =
    let lines = flat_map (stream_line (codes "ssdt")) in
    string_bytes l.text ++ lines (ssdts_left g.H.AcpiHandler.memory l.stream-iterator)
    ≡ string_bytes l.initial.text ++ lines (ssdts_left g.H.AcpiHandler.memory l.initial.stream-iterator)
