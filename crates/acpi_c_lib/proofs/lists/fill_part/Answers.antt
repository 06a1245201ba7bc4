use Rattle.std.proofs.Common.{◌≡◌, ◌∙◌, ◌+◌, ◌-◌, [], ◌∷◌, Some, None, arith, ap, drop, length, subst, sym}
use Rattle.acpi_base.specs.FromStd.{cons_option}
use Rattle.acpi_c_lib.specs.Words.{put_from}
use Rattle.acpi_c_lib.proofs.Parts.{from_first, from_there, none_left, not_yet}
use Rattle.acpi_c_lib.proofs.lists.fill_part.Goals as goal
use Rattle.acpi_c_lib.proofs.lists.fill_part.Goals.{then-all-from, else-all-from}

pub overflow_add-all : goal.overflow_add-all
overflow_add-all g c =
    let left = g.W.Listing.left c.args.known.now in
    let law = g.met.W.Listing.gives_first c.args.known.now _ _ _ c.in-Some.ensures.steps in
    let is : g.W.Listing.record_of c.args.known.now c.in-Some.item ≡ Some c.in-Some-record.record = cc in
    let front : left c.loop-item.item-iterator ≡ c.in-Some-record.record ∷ left c.next.new.self =
    subst (λ o. left c.loop-item.item-iterator ≡ cons_option o (left c.next.new.self)) is law in
    let whole : c.into_iter-item-iterator.result ≡ c.args.walk = cc in
    omega (arith, ap length front, rw whole at c.loop-item.invariant.3, c.requires.few)

pub loop-item-preserved-in-Some-record : goal.loop-item-preserved-in-Some-record
loop-item-preserved-in-Some-record g c =
    let left = g.W.Listing.left c.args.known.now in
    let law = g.met.W.Listing.gives_first c.args.known.now _ _ _ c.in-Some.ensures.steps in
    let is : g.W.Listing.record_of c.args.known.now c.in-Some.item ≡ Some c.in-Some-record.record = cc in
    let front : left c.loop-item.item-iterator ≡ c.in-Some-record.record ∷ left c.next.new.self =
    subst (λ o. left c.loop-item.item-iterator ≡ cons_option o (left c.next.new.self)) is law in
    let goes = c.in-Some.ensures.goes.on c.loop-item.invariant.1 in
    let rest = left c.next.new.self in
    let all = c.loop-item.all in
    let from = c.args.from in
    let step : put_from c.if-all-from.out (all + 1 - from) (drop (from - (all + 1)) rest)
    ≡ put_from c.loop-item.out (all - from) (drop (from - all) (c.in-Some-record.record ∷ rest)) =
    elim c.if-all-from.branch [
      | then-all-from w ↦
          ap (λ o. put_from o (all + 1 - from) (drop (from - (all + 1)) rest)) (w.out-is ∙ w.put.ensures)
          ∙ sym (from_there c.loop-item.out all from c.in-Some-record.record rest (omega (arith, w.if-all-from)))
      | else-all-from w ↦
          ap (λ o. put_from o (all + 1 - from) (drop (from - (all + 1)) rest)) w.out-is
          ∙ sym (not_yet c.loop-item.out all from c.in-Some-record.record rest (omega (arith, w.if-all-from)))
    ] in
    (goes.0, goes.1, step ∙ (rw front at c.loop-item.invariant.2), omega (arith, ap length front, c.loop-item.invariant.3))

pub loop-item-preserved : goal.loop-item-preserved
loop-item-preserved g c =
    let left = g.W.Listing.left c.args.known.now in
    let law = g.met.W.Listing.gives_first c.args.known.now _ _ _ c.in-Some.ensures.steps in
    let is : g.W.Listing.record_of c.args.known.now c.in-Some.item ≡ None = cc in
    let same : left c.loop-item.item-iterator ≡ left c.next.new.self =
    subst (λ o. left c.loop-item.item-iterator ≡ cons_option o (left c.next.new.self)) is law in
    let goes = c.in-Some.ensures.goes.on c.loop-item.invariant.1 in
    (goes.0, goes.1, rw same at c.loop-item.invariant.2, omega (arith, ap length same, c.loop-item.invariant.3))

pub returns-clause-count : goal.returns-clause-count
returns-clause-count g c =
    let none : g.W.Listing.left c.args.known.now c.loop-item.item-iterator ≡ [] =
    g.met.W.Listing.gives_first c.args.known.now _ _ _ c.in-None.ensures.steps in
    let whole : c.into_iter-item-iterator.result ≡ c.args.walk = cc in
    omega (arith, ap length none, rw whole at c.loop-item.invariant.3)

pub returns-clause-items : goal.returns-clause-items
returns-clause-items g c =
    let none : g.W.Listing.left c.args.known.now c.loop-item.item-iterator ≡ [] =
    g.met.W.Listing.gives_first c.args.known.now _ _ _ c.in-None.ensures.steps in
    let whole : c.into_iter-item-iterator.result ≡ c.args.walk = cc in
    sym (none_left c.loop-item.out c.loop-item.all c.args.from)
    ∙ (rw (none, whole) at c.loop-item.invariant.2)
    ∙ from_first c.args.out.now c.args.from (g.W.Listing.left c.args.known.now c.args.walk)
