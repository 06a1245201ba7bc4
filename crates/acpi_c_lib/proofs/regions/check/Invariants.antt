use Rattle.acpi_c_lib.proofs.Ascending.{IsChecked}
use Rattle.acpi_c_lib.proofs.regions.check.Given as goal

abbrev pub invariant-loop-region : goal.invariant-loop-region
invariant-loop-region l = IsChecked l.regions l.region-index l.low
