use Rattle.std.proofs.Common.{◌+◌, ◌*◌, ◌^◌, ◌≤◌, length}
use Rattle.acpi_c_lib.specs.Words.{put_from, has_valid, walk_missing_ranges}
use Rattle.acpi_c_lib.proofs.Unmapped.{Walked}
use Rattle.acpi_c_lib.proofs.candidates.walk.Given as goal

-- what is written and what is left are the whole, and those that are left have the first valid one of all
abbrev pub invariant-loop-left : goal.invariant-loop-left
invariant-loop-left g l =
    let m = g.H.AcpiHandler.memory l.handler in
    let all = walk_missing_ranges l.fn.accept m l.fn.candidates.count l.fn.candidates.first in
    Walked l.fn.accept m l.left l.address l.out l.next (put_from l.initial.out l.from all) (l.from + length all)
    (has_valid l.fn.accept m l.fn.candidates.count l.fn.candidates.first)
    × (l.next + l.left ≤ l.from + l.fn.candidates.count)
    × (l.address + 16 * l.left ≤ 2 ^ 20)

abbrev pub decreases-loop-left : goal.decreases-loop-left
decreases-loop-left g l = l.left
