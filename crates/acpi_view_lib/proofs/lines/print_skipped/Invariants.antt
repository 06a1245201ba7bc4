use Rattle.std.proofs.Common.{◌≡◌, ◌++◌, flat_map, string_bytes}
use Rattle.acpi.specs.Words.{faults_left}
use Rattle.acpi_view_lib.specs.Lines.{skipped_line}
use Rattle.acpi_view_lib.proofs.lines.print_skipped.Given as goal

abbrev pub invariant-loop-fault : goal.invariant-loop-fault
invariant-loop-fault g l =
    let lines = flat_map (skipped_line g.T.AcpiTable.SIGNATURE) in
    string_bytes l.text ++ lines (faults_left g.H.AcpiHandler.memory g.T.AcpiTable.kind l.fault-iterator)
    ≡ string_bytes l.initial.text ++ lines
    (faults_left g.H.AcpiHandler.memory g.T.AcpiTable.kind l.initial.fault-iterator)
