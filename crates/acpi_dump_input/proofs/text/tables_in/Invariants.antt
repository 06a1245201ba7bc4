use denote.Shadow.{shadow}
use denote.Text.{Utf8}
use Rattle.std.proofs.Common.{◌≡◌, ◌+◌, ◌≤◌, length}
use Rattle.acpi_dump_input.specs.DumpText.{lines_of, tables_from, tables_of}
use Rattle.acpi_dump_input.specs.Held.{reading_of}
use Rattle.acpi_dump_input.proofs.text.tables_in.Given as goal

-- what is left adds to what was read, and the lines are fewer than the bytes
abbrev pub invariant-loop-rest : goal.invariant-loop-rest
invariant-loop-rest l =
    (tables_of l.text ≡ tables_from l.number (reading_of l.reading) (lines_of l.rest))
    × (l.number + length l.rest ≤ length l.text + 1)
    × shadow (Utf8 l.rest)

abbrev pub decreases-loop-rest : goal.decreases-loop-rest
decreases-loop-rest l = length l.rest
