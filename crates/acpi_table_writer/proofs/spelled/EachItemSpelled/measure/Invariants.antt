use Rattle.std.proofs.Common.{flat_map, map, take, All, Some}
use Rattle.acpi_table_writer.specs.Words.{Measures}
use Rattle.acpi_table_writer.proofs.spelled.EachItemSpelled.measure.Given as goal

-- what is measured so far
abbrev pub invariant-loop-x : goal.invariant-loop-x
invariant-loop-x g l =
    let before = take l.x-index (map g.R.StandsFor.meant l.things) in
    Measures (Some l.size) l.room (flat_map g.T.Spelled.spelled before) (All g.T.Spelled.fits before)
