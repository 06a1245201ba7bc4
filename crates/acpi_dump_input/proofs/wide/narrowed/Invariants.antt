use Rattle.std.proofs.Common.{◌≡◌, ◌++◌, drop, length}
use Rattle.acpi_dump_input.specs.Given.{letters_of}
use Rattle.acpi_dump_input.proofs.wide.narrowed.Given as goal

-- what is left adds to what was read
abbrev pub invariant-loop-rest : goal.invariant-loop-rest
invariant-loop-rest l = l.text.items ++ letters_of l.rest ≡ letters_of (drop 2 l.bytes)

abbrev pub decreases-loop-rest : goal.decreases-loop-rest
decreases-loop-rest l = length l.rest
