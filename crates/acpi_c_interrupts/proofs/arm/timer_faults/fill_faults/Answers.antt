use Rattle.std.proofs.Common.{arith}
use Rattle.acpi_base.proofs.FromStd.{common_steps}
use Rattle.acpi_c_interrupts.proofs.TimerLists.{bytes_few, timers_inside}
use Rattle.acpi_c_interrupts.proofs.arm.timer_faults.fill_faults.Goals as goal

pub loop-structure-init : goal.loop-structure-init
loop-structure-init c = grind (arith, common_steps, bytes_few, timers_inside)
