use Rattle.std.proofs.Common.{◌≡◌, ◌-◌, ◌%◌, ◌≤◌, length, take}
use Rattle.acpi_bytes.proofs.WordSums.{AddsUpInWords}
use Rattle.acpi_bytes.proofs.sum.sum_of_words.Given as goal

-- the words so far are added
abbrev pub invariant-loop-at : goal.invariant-loop-at
invariant-loop-at l = record {
  within : l.at ≤ length l.bytes;
  at_word : l.at % 8 ≡ 0;
  summed : AddsUpInWords l.sums.whole l.sums.even (take l.at l.bytes);
}

abbrev pub decreases-loop-at : goal.decreases-loop-at
decreases-loop-at l = length l.bytes - l.at

abbrev pub invariant-loop-at-2 : goal.invariant-loop-at-2
invariant-loop-at-2 l = record {
  within : l.at ≤ length l.bytes;
  at_word : l.at % 8 ≡ 0;
  summed : AddsUpInWords l.sums.whole l.sums.even (take l.at l.bytes);
}

abbrev pub decreases-loop-at-2 : goal.decreases-loop-at-2
decreases-loop-at-2 l = length l.bytes - l.at
