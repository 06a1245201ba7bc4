use Rattle.std.proofs.Common.{◌≡◌, ◌≤◌, length, drop}
use Rattle.acpi_table_writer.specs.Words.{flag_number}
use Rattle.acpi_table_writer.proofs.flags.flag_number.Given as goal

-- the number of the flags from `i` on
abbrev pub invariant-loop-i : goal.invariant-loop-i
invariant-loop-i l = (l.number ≡ flag_number (drop l.i l.flags)) × (l.i ≤ length l.flags)

abbrev pub decreases-loop-i : goal.decreases-loop-i
decreases-loop-i l = l.i
