use Rattle.std.proofs.Common.{◌-◌, length}
use Rattle.acpi_sleep.proofs.Walks.{Finds}
use Rattle.acpi_sleep.specs.Words.{IsInside, IsReached}
use Rattle.acpi_sleep.proofs.sleep.sleep_types.Given as goal

-- what is found from here is what is to be found
abbrev pub invariant-loop-place : goal.invariant-loop-place
invariant-loop-place l = record {
  found : Finds l.aml l.state l.place l.unseen;
  reached : IsReached l.aml l.state l.place l.unseen;
  within : IsInside (length l.aml) l.place;
}

abbrev pub decreases-loop-place : goal.decreases-loop-place
decreases-loop-place l = length l.aml - l.place.at
