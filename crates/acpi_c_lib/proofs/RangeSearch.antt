-- Ascending ranges, of which few matter at an address.
use Rattle.std.proofs.Common.{leb, length-drop, subst, ◌≡◌, ℕ, zero, suc, ◌+◌, ◌-◌, ◌<◌, ◌≤◌, List, [], ◌∷◌, ◌++◌, ◌||◌, true, false, refl, arith, length, take, drop, get_or, nat_le, nat_lt, sym, ap, ◌∙◌}
use Rattle.std.proofs.lemmas.List.Folds.{list_any-append}
use Rattle.std.proofs.lemmas.List.Sums.{fold-append}
use Rattle.acpi_base.proofs.FromStd.{and_left, and_parts, and_right, drop-drop, drop_more, leb-false, leb-true, le-leb, le-ltb, lt-leb, nat_tests, or_from, take-add, take-append-drop, take_all}
use Rattle.acpi_c_lib.specs.Words.{AllByRecursion, IsPartitionPoint, Range, any_holds, ascends_from, change_in, change_of, holds}

-- ranges that end here or before
abbrev pub AreOver : ℕ → List Range → Type 0
AreOver a rs = AllByRecursion (λ r. r.address + r.length ≤ a) rs

-- ranges that begin here or after it
abbrev pub BeginFrom : ℕ → List Range → Type 0
BeginFrom a rs = AllByRecursion (λ r. a ≤ r.address) rs

over_change : (r : Range) (a limit : ℕ) → r.address + r.length ≤ a → change_of r a limit ≡ limit
over_change r a limit h = grind (arith, nat_tests, h)

from_change : (r : Range) (a limit : ℕ) → a < r.address → limit ≤ r.address → change_of r a limit ≡ limit
from_change r a limit less h = grind (arith, nat_tests, less, h)

over_change_in : (rs : List Range) (a limit : ℕ) → AreOver a rs → change_in rs a limit ≡ limit
over_change_in [] a limit h = refl
over_change_in (r ∷ rs) a limit h = rw (over_change r a limit h.0) (over_change_in rs a limit h.1)

from_change_in : (rs : List Range) (a b limit : ℕ) → a < b → limit ≤ b → BeginFrom b rs → change_in rs a limit ≡ limit
from_change_in [] a b limit less low h = refl
from_change_in (r ∷ rs) a b limit less low h =
    rw (from_change r a limit (omega (arith, less, h.0)) (omega (arith, low, h.0)))
    (from_change_in rs a b limit less low h.1)

over_holds : (rs : List Range) (a : ℕ) → AreOver a rs → any_holds a rs ≡ false
over_holds [] a h = refl
over_holds (r ∷ rs) a h =
    or_from (holds a r) (any_holds a rs) (and_right (nat_le r.address a) _ (le-ltb a (r.address + r.length) h.0))
    (over_holds rs a h.1)

from_holds : (rs : List Range) (a b : ℕ) → a < b → BeginFrom b rs → any_holds a rs ≡ false
from_holds [] a b less h = refl
from_holds (r ∷ rs) a b less h =
    or_from (holds a r) (any_holds a rs)
    (and_left _ (nat_lt a (r.address + r.length)) (lt-leb r.address a (omega (arith, less, h.0))))
    (from_holds rs a b less h.1)

-- ---- the first ranges, up to one that begins at an address or before, are over there; those that begin after one that
-- begins later begin after that one

-- those before the one at n, if it begins at a or before
over_before : (rs : List Range) (e n a : ℕ) (r : Range) → ascends_from e rs ≡ true → n < length rs
    → (get_or rs n r).address ≤ a → AreOver a (take n rs) × (e ≤ a)
over_before [] e n a r up less here = absurd (omega arith)
over_before (x ∷ xs) e zero a r up less here = (
  tt,
  omega (
    arith,
    leb-true e x.address (and_parts (nat_le e x.address) (ascends_from (x.address + x.length) xs) up).0,
    here,
  ),
)
over_before (x ∷ xs) e (suc n) a r up less here =
    let parts = and_parts (nat_le e x.address) (ascends_from (x.address + x.length) xs) up in
    let rest = over_before xs (x.address + x.length) n a r parts.1 (omega (arith, less)) here in
    ((rest.1, rest.0), omega (arith, leb-true e x.address parts.0, rest.1))

-- all of them, from where they ascend
begin_from : (rs : List Range) (e : ℕ) → ascends_from e rs ≡ true → (b : ℕ) → b ≤ e → BeginFrom b rs
begin_from [] e up b low = tt
begin_from (x ∷ xs) e up b low =
    let parts = and_parts (nat_le e x.address) (ascends_from (x.address + x.length) xs) up in
    let here : e ≤ x.address = leb-true _ _ parts.0 in
    (omega (arith, here, low), begin_from xs (x.address + x.length) parts.1 b (omega (arith, here, low)))

-- those after the one at n
begin_after : (rs : List Range) (e n : ℕ) (r : Range) → ascends_from e rs ≡ true → n < length rs
    → BeginFrom (get_or rs n r).address (drop (suc n) rs)
begin_after [] e n r up less = absurd (omega arith)
begin_after (x ∷ xs) e zero r up less =
    begin_from xs (x.address + x.length)
    (and_parts (nat_le e x.address) (ascends_from (x.address + x.length) xs) up).1 x.address (omega arith)
begin_after (x ∷ xs) e (suc n) r up less =
    begin_after xs (x.address + x.length) n r
    (and_parts (nat_le e x.address) (ascends_from (x.address + x.length) xs) up).1 (omega (arith, less))

-- ---- what is near

-- at an address these ranges are as good as those
abbrev pub IsAlike : ℕ → List Range → List Range → Type 0
IsAlike a xs ys = (any_holds a xs ≡ any_holds a ys) × ((limit : ℕ) → change_in xs a limit ≡ change_in ys a limit)

-- those that are over before the others
skips : (a : ℕ) (xs ys : List Range) → AreOver a xs → IsAlike a ys (xs ++ ys)
skips a xs ys over = (
  sym (list_any-append (holds a) xs ys ∙ ap (λ b. b || any_holds a ys) (over_holds xs a over)),
  λ limit. sym (fold-append (λ first r. change_of r a first) limit xs ys
      ∙ ap (λ l. change_in ys a l) (over_change_in xs a limit over)),
)

change_at : (x : Range) (a limit : ℕ) → a < x.address → change_of x a limit ≤ x.address
change_at x a limit less = grind (arith, nat_tests, less)

-- those after one that begins later
cuts : (a : ℕ) (ws : List Range) (x : Range) (ys : List Range) → a < x.address → BeginFrom x.address ys
    → IsAlike a (ws ++ (x ∷ [])) (ws ++ (x ∷ ys))
cuts a ws x ys less after =
    let none = from_holds ys a x.address less after in
    let one : any_holds a (x ∷ []) ≡ any_holds a (x ∷ ys) = ap (λ b. holds a x || b) (sym none) in (
      list_any-append (holds a) ws (x ∷ []) ∙ ap (λ b. any_holds a ws || b) one
          ∙ sym (list_any-append (holds a) ws (x ∷ ys)),
      λ limit. let before = change_in ws a limit in
          fold-append (λ first r. change_of r a first) limit ws (x ∷ [])
          ∙ sym (from_change_in ys a x.address (change_of x a before) less (change_at x a before less) after)
          ∙ sym (fold-append (λ first r. change_of r a first) limit ws (x ∷ ys)),
    )

alike_then : (a : ℕ) (xs ys zs : List Range) → IsAlike a xs ys → IsAlike a ys zs → IsAlike a xs zs
alike_then a xs ys zs first second = (first.0 ∙ second.0, λ limit. first.1 limit ∙ second.1 limit)

abbrev pub IsPlace : List Range → ℕ → ℕ → Type 0
IsPlace rs a after = IsPartitionPoint (λ r. leb r.address a ≡ true) (λ r. leb r.address a ≡ false) rs after

-- from the one before the place on, or all
over_first : (rs : List Range) (a after : ℕ) → ascends_from 0 rs ≡ true → after ≤ length rs → IsPlace rs a after
    → AreOver a (take (after - 1) rs)
over_first rs a zero up within point = tt
over_first rs a (suc n) up within point =
    let d : Range = record { address = 0; length = 0 } in
    let here = point.0 n d (omega arith) (omega arith) in
    let one : n ≡ suc n - 1 = omega arith in
    subst (λ k. AreOver a (take k rs)) one (over_before rs 0 n a d up (omega (arith, within)) (leb-true _ _ here)).0

from_first : (rs : List Range) (a after : ℕ) → ascends_from 0 rs ≡ true → after ≤ length rs → IsPlace rs a after
    → IsAlike a (drop (after - 1) rs) rs
from_first rs a after up within point =
    subst (λ l. IsAlike a (drop (after - 1) rs) l) (take-append-drop (after - 1) rs)
    (skips a (take (after - 1) rs) (drop (after - 1) rs) (over_first rs a after up within point))

rest_is : (n : ℕ) (rs : List Range) → take (length rs - n) (drop n rs) ≡ drop n rs
rest_is n rs = take_all (length rs - n) (drop n rs) (omega (arith, length-drop n rs))

pub near_rest : (rs : List Range) (a after : ℕ) → ascends_from 0 rs ≡ true → after ≤ length rs → IsPlace rs a after
    → IsAlike a (take (length rs - (after - 1)) (drop (after - 1) rs)) rs
near_rest rs a after up within point =
    subst (λ l. IsAlike a l rs) (sym (rest_is (after - 1) rs)) (from_first rs a after up within point)

-- up to the one at the place, if there is one
to_next : (rs : List Range) (a after : ℕ) → ascends_from 0 rs ≡ true → after < length rs → IsPlace rs a after
    → IsAlike a (take (after + 1 - (after - 1)) (drop (after - 1) rs)) (drop (after - 1) rs)
to_next rs a after up inside point =
    let d : Range = record { address = 0; length = 0 } in
    let x = get_or rs after d in
    let ws = take (after - (after - 1)) (drop (after - 1) rs) in
    let beyond = point.1 after d (omega arith) inside in
    let less : a < x.address = leb-false _ _ beyond in
    let there : drop after rs ≡ x ∷ drop (after + 1) rs = drop_more rs after d inside in
    let one : suc after ≡ after + 1 = omega arith in
    let later : BeginFrom x.address (drop (after + 1) rs) =
    subst (λ k. BeginFrom x.address (drop k rs)) one (begin_after rs 0 after d up inside) in
    let again : drop (after - (after - 1)) (drop (after - 1) rs) ≡ x ∷ drop (after + 1) rs =
    drop-drop (after - (after - 1)) (after - 1) rs ∙ ap (λ k. drop k rs) (omega arith) ∙ there in
    let whole : ws ++ (x ∷ drop (after + 1) rs) ≡ drop (after - 1) rs =
    ap (λ l. ws ++ l) (sym again) ∙ take-append-drop (after - (after - 1)) (drop (after - 1) rs) in
    let part : take (after + 1 - (after - 1)) (drop (after - 1) rs) ≡ ws ++ (x ∷ []) =
    ap (λ k. take k (drop (after - 1) rs)) (omega arith)
    ∙ take-add (after - (after - 1)) 1 (drop (after - 1) rs)
    ∙ ap (λ l. ws ++ take 1 l) again in
    subst (λ l. IsAlike a l (drop (after - 1) rs)) (sym part)
    (subst (λ l. IsAlike a (ws ++ (x ∷ [])) l) whole
    (cuts a ws x (drop (after + 1) rs) less later))

pub near_next : (rs : List Range) (a after : ℕ) → ascends_from 0 rs ≡ true → after < length rs → IsPlace rs a after
    → IsAlike a (take (after + 1 - (after - 1)) (drop (after - 1) rs)) rs
near_next rs a after up inside point =
    alike_then a _ _ _ (to_next rs a after up inside point)
    (from_first rs a after up (omega (arith, inside)) point)

-- ---- the test by which ranges are halved

from_at : (rs : List Range) (b j : ℕ) (d : Range) → BeginFrom b rs → j < length rs → b ≤ (get_or rs j d).address
from_at [] b j d h less = absurd (omega (arith, less))
from_at (x ∷ xs) b zero d h less = h.0
from_at (x ∷ xs) b (suc j) d h less = from_at xs b j d h.1 (omega (arith, less))

address_up : (rs : List Range) (e i j : ℕ) (d : Range) → ascends_from e rs ≡ true → i ≤ j → j < length rs
    → (get_or rs i d).address ≤ (get_or rs j d).address
address_up [] e i j d up le less = absurd (omega (arith, less))
address_up (x ∷ xs) e zero zero d up le less = omega arith
address_up (x ∷ xs) e zero (suc j) d up le less =
    let parts = and_parts (nat_le e x.address) (ascends_from (x.address + x.length) xs) up in
    from_at xs x.address j d (begin_from xs (x.address + x.length) parts.1 x.address (omega arith))
    (omega (arith, less))
address_up (x ∷ xs) e (suc i) zero d up le less = absurd (omega (arith, le))
address_up (x ∷ xs) e (suc i) (suc j) d up le less =
    address_up xs (x.address + x.length) i j d
    (and_parts (nat_le e x.address) (ascends_from (x.address + x.length) xs) up).1 (omega (arith, le))
    (omega (arith, less))

pub passes_before : (rs : List Range) (a i j : ℕ) (d : Range) → ascends_from 0 rs ≡ true → i ≤ j → j < length rs
    → leb (get_or rs j d).address a ≡ true → leb (get_or rs i d).address a ≡ true
passes_before rs a i j d up le inside passes =
    le-leb _ _ (omega (arith, leb-true _ _ passes, address_up rs 0 i j d up le inside))
