use Rattle.std.proofs.Common.{◌≡◌, ◌++◌, drop, map}
use Rattle.acpi_dump_input.specs.Inputs.{tables_in}
use Rattle.acpi_dump_input.proofs.entries.entries_of_files.Given as goal

abbrev pub invariant-loop-file : goal.invariant-loop-file
invariant-loop-file l =
    map (λ e. e.bytes.now) l.entries.items ++ tables_in (drop l.file-index l.files) ≡ tables_in l.files
