use Rattle.std.proofs.Common.{◌≡◌, length}
use Rattle.acpi_bytes.specs.FromStd.{is_utf8}
use Rattle.acpi_bytes.proofs.bytes.is_other_text.Given as goal

-- what is left is a text exactly if all of it is
abbrev pub invariant-loop-rest : goal.invariant-loop-rest
invariant-loop-rest l = is_utf8 l.rest ≡ is_utf8 l.bytes

abbrev pub decreases-loop-rest : goal.decreases-loop-rest
decreases-loop-rest l = length l.rest
