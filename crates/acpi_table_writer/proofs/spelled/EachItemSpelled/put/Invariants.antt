use Rattle.std.proofs.Common.{◌≡◌, flat_map, map, length, take}
use Rattle.acpi_table_writer.proofs.spelled.EachItemSpelled.put.Given as goal

-- what is put so far, in a slice of the same length
abbrev pub invariant-loop-x : goal.invariant-loop-x
invariant-loop-x g l =
    let before = flat_map g.T.Spelled.spelled (take l.x-index (map g.R.StandsFor.meant l.things)) in
    (take l.at l.out ≡ before) × (l.at ≡ length before) × (length l.out ≡ length l.fn.out)
