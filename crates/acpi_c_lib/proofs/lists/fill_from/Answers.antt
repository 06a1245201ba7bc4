use Rattle.std.proofs.Common.{◌≡◌, [], ◌∷◌, Some, None, arith, ap, length, subst}
use Rattle.acpi_base.specs.FromStd.{cons_option}
use Rattle.acpi_c_lib.proofs.lists.fill_from.Goals as goal

pub overflow_add-count : goal.overflow_add-count
overflow_add-count g c =
    let left = g.W.Listing.left c.args.known.now in
    let law = g.met.W.Listing.gives_first c.args.known.now _ _ _ c.in-Some.ensures.steps in
    let is : g.W.Listing.record_of c.args.known.now c.in-Some.item ≡ Some c.in-Some-record.record = cc in
    let front : left c.loop-item.item-iterator ≡ c.in-Some-record.record ∷ left c.next.new.self =
    subst (λ o. left c.loop-item.item-iterator ≡ cons_option o (left c.next.new.self)) is law in
    let whole : c.into_iter-item-iterator.result ≡ c.args.walk = cc in
    omega (arith, ap length front, rw whole at c.loop-item.invariant.3, c.requires.few)

pub loop-item-preserved-in-Some-record : goal.loop-item-preserved-in-Some-record
loop-item-preserved-in-Some-record g c =
    let left = g.W.Listing.left c.args.known.now in
    let law = g.met.W.Listing.gives_first c.args.known.now _ _ _ c.in-Some.ensures.steps in
    let is : g.W.Listing.record_of c.args.known.now c.in-Some.item ≡ Some c.in-Some-record.record = cc in
    let front : left c.loop-item.item-iterator ≡ c.in-Some-record.record ∷ left c.next.new.self =
    subst (λ o. left c.loop-item.item-iterator ≡ cons_option o (left c.next.new.self)) is law in
    let goes = c.in-Some.ensures.goes.on c.loop-item.invariant.1 in (
      goes.0,
      goes.1,
      rw c.put.ensures (rw front at c.loop-item.invariant.2),
      omega (arith, ap length front, c.loop-item.invariant.3),
    )

pub loop-item-preserved : goal.loop-item-preserved
loop-item-preserved g c =
    let left = g.W.Listing.left c.args.known.now in
    let law = g.met.W.Listing.gives_first c.args.known.now _ _ _ c.in-Some.ensures.steps in
    let is : g.W.Listing.record_of c.args.known.now c.in-Some.item ≡ None = cc in
    let same : left c.loop-item.item-iterator ≡ left c.next.new.self =
    subst (λ o. left c.loop-item.item-iterator ≡ cons_option o (left c.next.new.self)) is law in
    let goes = c.in-Some.ensures.goes.on c.loop-item.invariant.1 in
    (goes.0, goes.1, rw same at c.loop-item.invariant.2, omega (arith, ap length same, c.loop-item.invariant.3))

pub returns-clause-count : goal.returns-clause-count
returns-clause-count g c =
    let none : g.W.Listing.left c.args.known.now c.loop-item.item-iterator ≡ [] =
    g.met.W.Listing.gives_first c.args.known.now _ _ _ c.in-None.ensures.steps in
    let whole : c.into_iter-item-iterator.result ≡ c.args.walk = cc in
    omega (arith, ap length none, rw whole at c.loop-item.invariant.3)

pub returns-clause-items : goal.returns-clause-items
returns-clause-items g c =
    let none : g.W.Listing.left c.args.known.now c.loop-item.item-iterator ≡ [] =
    g.met.W.Listing.gives_first c.args.known.now _ _ _ c.in-None.ensures.steps in
    let whole : c.into_iter-item-iterator.result ≡ c.args.walk = cc in
    rw (none, whole) at c.loop-item.invariant.2
