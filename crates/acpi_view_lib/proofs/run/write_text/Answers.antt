use Rattle.acpi_view_lib.proofs.Reports.{front_more}
use Rattle.acpi_view_lib.proofs.run.write_text.Goals as goal

pub loop-preserved : goal.loop-preserved
loop-preserved g c =
    front_more c.loop.rest.now _ _ _ _ c.in-Some.count c.min.result c.in-Some.ensures.bound c.loop.invariant
    c.in-Some.ensures.taken
