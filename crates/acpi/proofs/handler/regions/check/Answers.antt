use Rattle.std.proofs.Common.{arith}
use Rattle.acpi_base.proofs.FromStd.{common_steps}
use Rattle.acpi.proofs.Placing.{checked_more}
use Rattle.acpi.proofs.handler.regions.check.Goals as goal

pub loop-region-preserved : goal.loop-region-preserved
loop-region-preserved c = checked_more _ _ _ _ _ _ c.region-item.is c.loop-region.invariant
    (grind (arith, common_steps)) (grind (arith, common_steps)) (grind (arith, common_steps))
