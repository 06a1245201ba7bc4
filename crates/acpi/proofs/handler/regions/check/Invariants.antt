use Rattle.acpi.proofs.Placing.{IsChecked}
use Rattle.acpi.proofs.handler.regions.check.Given as goal

abbrev pub invariant-loop-region : goal.invariant-loop-region
invariant-loop-region l = IsChecked l.regions l.region-index l.start l.end
