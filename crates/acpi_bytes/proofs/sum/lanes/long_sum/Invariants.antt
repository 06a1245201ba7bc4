use Rattle.std.proofs.Common.{◌-◌, ◌≤◌, length, take}
use Rattle.acpi_bytes.specs.Words.{AddsUp}
use Rattle.acpi_bytes.proofs.sum.lanes.long_sum.Given as goal

-- the lanes hold the sum of the blocks so far
abbrev pub invariant-loop-at : goal.invariant-loop-at
invariant-loop-at l = record {
  within : l.at ≤ length l.bytes;
  summed : AddsUp l.lanes (take l.at l.bytes);
}

abbrev pub decreases-loop-at : goal.decreases-loop-at
decreases-loop-at l = length l.bytes - l.at
