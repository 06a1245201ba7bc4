use Rattle.std.proofs.Common.{arith}
use Rattle.acpi_base.proofs.FromStd.{common_steps}
use Rattle.acpi_c_lib.proofs.Ascending.{checked_more}
use Rattle.acpi_c_lib.proofs.regions.check.Goals as goal

pub loop-region-preserved : goal.loop-region-preserved
loop-region-preserved c = rw c.in_ok-low.ensures.end
    (checked_more _ _ _ _ c.loop-region.invariant (grind (arith, common_steps)) (grind (arith, common_steps))
    c.in_ok-low.ensures.low c.in_ok-low.ensures.bytes)
