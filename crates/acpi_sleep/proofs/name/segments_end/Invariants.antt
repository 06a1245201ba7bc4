use Rattle.std.proofs.Common.{◌≡◌, ◌+◌, ◌-◌, ◌*◌, ◌≤◌, length}
use Rattle.acpi_sleep.specs.Words.{segments_end}
use Rattle.acpi_sleep.proofs.name.segments_end.Given as goal

-- where those end that are left is where all end
abbrev pub invariant-loop-i : goal.invariant-loop-i
invariant-loop-i l = record {
  same : segments_end (l.count - l.i) l.aml l.end ≡ segments_end l.count l.aml l.at;
  after : l.end ≡ l.at + 4 * l.i;
  within : l.end ≤ length l.aml;
}
