use Rattle.std.proofs.Common.{◌≡◌, ◌≤◌, drop, length}
use Rattle.acpi_sleep.specs.Words.{parts_end}
use Rattle.acpi_sleep.proofs.term.parts_end.Given as goal

-- where those end that are left is where all end
abbrev pub invariant-loop-part : goal.invariant-loop-part
invariant-loop-part l = record {
  same : parts_end (drop l.part-index l.parts) l.aml l.end ≡ parts_end l.parts l.aml l.at;
  after : l.at ≤ l.end;
  within : l.end ≤ length l.aml;
}
