use Rattle.std.proofs.Common.{◌∙◌, sym}
use Rattle.acpi_image.specs.Words.{placed, placed_region}
use Rattle.acpi_pack_lib.proofs.Placing.{placed_all, placed_count, placed_law}
use Rattle.acpi_pack_lib.proofs.place.place.Goals as goal

pub returns-clause-exact : goal.returns-clause-exact
returns-clause-exact c =
    let all = rw c.in-None.ensures.steps.0 at c.loop-table.invariant in
    sym all ∙ placed_all (placed_region c.args.fixed.now) c.loop-table.next (placed c.loop-table.placed.items)

pub returns-clause-law : goal.returns-clause-law
returns-clause-law c = placed_law _ _ _ _ (returns-clause-exact c)

pub returns-clause-count : goal.returns-clause-count
returns-clause-count c = placed_count _ _ _ _ (returns-clause-exact c)
