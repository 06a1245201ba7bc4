use Rattle.std.proofs.Common.{arith}
use Rattle.acpi_base.proofs.FromStd.{common_steps}
use Rattle.acpi_c_lib.proofs.FaultLists.{after_fixed}
use Rattle.acpi_c_interrupts.proofs.madt_faults.fill_faults.Goals as goal

pub loop-entry-init : goal.loop-entry-init
loop-entry-init c = grind (arith, common_steps, after_fixed 44)
