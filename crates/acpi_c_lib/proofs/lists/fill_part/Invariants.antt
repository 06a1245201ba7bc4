use Rattle.std.proofs.Common.{◌≡◌, ◌+◌, ◌-◌, drop, length}
use Rattle.acpi_c_lib.specs.Words.{put_from}
use Rattle.acpi_c_lib.proofs.lists.fill_part.Given as goal

-- what is written and what is left are the whole
abbrev pub invariant-loop-item : goal.invariant-loop-item
invariant-loop-item g l =
    let left = λ (w : _). g.W.Listing.left l.known w in
    (goal.iterator-loop-item g).can_next l.item-iterator
    × (goal.iterator-loop-item g).is_finite l.item-iterator
    × (put_from l.out (l.all - l.from) (drop (l.from - l.all) (left l.item-iterator))
    ≡ put_from l.initial.out (l.initial.all - l.from) (drop (l.from - l.initial.all) (left l.initial.item-iterator)))
    × (l.all + length (left l.item-iterator) ≡ l.initial.all + length (left l.initial.item-iterator))
