use Rattle.std.proofs.Common.{◌≡◌}
use Rattle.acpi_dump_input.specs.DumpText.{with_pairs}
use Rattle.acpi_dump_input.proofs.row.push_pairs.Given as goal

-- what is left adds to what was added
abbrev pub invariant-loop-left : goal.invariant-loop-left
invariant-loop-left l = with_pairs 16 l.initial.bytes.items l.text ≡ with_pairs l.left l.bytes.items l.rest

abbrev pub decreases-loop-left : goal.decreases-loop-left
decreases-loop-left l = l.left
