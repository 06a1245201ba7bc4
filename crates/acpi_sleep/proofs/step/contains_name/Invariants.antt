use Rattle.std.proofs.Common.{◌≡◌, drop}
use Rattle.acpi_sleep.specs.Words.{contains_name}
use Rattle.acpi_sleep.proofs.step.contains_name.Given as goal

-- whether the name is in the bytes that are left is whether it is in all
abbrev pub invariant-loop-i : goal.invariant-loop-i
invariant-loop-i l = contains_name l.code (drop l.i l.bytes) ≡ contains_name l.code l.bytes
