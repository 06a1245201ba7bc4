-- What is wanted of ranges, and the ranges that are still to be written.
use Rattle.std.proofs.Common.{◌≡◌, ℕ, ◌+◌, ◌^◌, ◌-◌, ◌<◌, ◌≤◌, List, [], ◌∷◌, true, refl, arith, ◌⊎◌, inl, inr, length, slice_set, false, sym, subst, ◌∙◌, ap, ◌||◌, nat_le, nat_lt}
use Rattle.acpi_base.proofs.FromStd.{and_parts, ltb-true, and_left, and_right, and_from, both_ways, cases_lt, le-leb, lt-leb, lt-ltb, le-ltb, or_from, or_left, nat_tests}
use Rattle.acpi_c_lib.specs.Words.{AreInOrder, FillsClipped, IsNext, Range, any_holds, change_in, change_of, holds, wanted, put_from, AllByRecursion}

-- ---- changes

change_of_below : (r : Range) (a limit : ℕ) → change_of r a limit ≤ limit
change_of_below r a limit = grind (arith, nat_tests)

change_of_later : (r : Range) (a limit : ℕ) → a < limit → a < change_of r a limit
change_of_later r a limit h = grind (arith, nat_tests, h)

change_of_same : (r : Range) (a limit b : ℕ) → a ≤ b → b < change_of r a limit → holds b r ≡ holds a r
change_of_same r a limit b le less = grind (arith, nat_tests, le, less)

change_in_below : (rs : List Range) (a limit : ℕ) → change_in rs a limit ≤ limit
change_in_below [] a limit = omega arith
change_in_below (r ∷ rs) a limit = omega (arith, change_in_below rs a (change_of r a limit), change_of_below r a limit)

change_in_later : (rs : List Range) (a limit : ℕ) → a < limit → a < change_in rs a limit
change_in_later [] a limit h = h
change_in_later (r ∷ rs) a limit h = change_in_later rs a (change_of r a limit) (change_of_later r a limit h)

change_in_same : (rs : List Range) (a limit b : ℕ) → a ≤ b → b < change_in rs a limit → any_holds b rs ≡ any_holds a rs
change_in_same [] a limit b le less = refl
change_in_same (r ∷ rs) a limit b le less =
    let below : b < change_of r a limit = omega (arith, less, change_in_below rs a (change_of r a limit)) in
    rw (change_of_same r a limit b le below, change_in_same rs a (change_of r a limit) b le less) refl

-- the first change of all
abbrev pub change_of_all : List Range → List Range → Range → ℕ → ℕ
change_of_all ranges without window a = change_in ranges a (change_in without a (change_of window a (2 ^ 64 - 1)))

pub changes_later : (ranges without : List Range) (window : Range) (a : ℕ) → a < 2 ^ 64 - 1
    → a < change_of_all ranges without window a
changes_later ranges without window a h =
    change_in_later ranges a _ (change_in_later without a _ (change_of_later window a (2 ^ 64 - 1) h))

pub stays : (ranges without : List Range) (window : Range) (a b : ℕ) → a ≤ b → b < change_of_all ranges without window a
    → wanted ranges without window b ≡ wanted ranges without window a
stays ranges without window a b le less =
    let two : b < change_in without a (change_of window a (2 ^ 64 - 1)) =
    omega (arith, less, change_in_below ranges a (change_in without a (change_of window a (2 ^ 64 - 1)))) in
    let one : b < change_of window a (2 ^ 64 - 1) =
    omega (arith, two, change_in_below without a (change_of window a (2 ^ 64 - 1))) in
    rw (
      change_in_same ranges a _ b le less,
      change_in_same without a _ b le two,
      change_of_same window a _ b le one,
    ) refl

-- what is wanted is in the window
pub is_inside : (ranges without : List Range) (window : Range) (a : ℕ) → wanted ranges without window a ≡ true
    → a < window.address + window.length
is_inside ranges without window a h =
    let p = and_parts _ _ h in
    ltb-true _ _ ((and_parts _ _ p.0).1)

-- ---- the ranges that are still to be written

-- they are in order, each begins at a wanted byte, and they hold the wanted bytes from an address on
pub record IsTail (ranges without : List Range) (window : Range) (low : ℕ) (xs : List Range) : Type 0 where
  pub ordered : AreInOrder xs
  pub begun : AllByRecursion (λ x. (low ≤ x.address) × (wanted ranges without window x.address ≡ true)) xs
  pub same : (a : ℕ) → low ≤ a → any_holds a xs ≡ wanted ranges without window a

-- with any such ranges from an address on, what is written is all of them
pub record IsWriting (ranges without : List Range) (window : Range) (old new : List Range)
    (count low : ℕ) : Type 0 where
  pub whole : (ys : List Range) → IsTail ranges without window low ys
      → (xs : List Range) × IsTail ranges without window 0 xs × (put_from new count ys ≡ put_from old 0 xs)
      × (count + length ys ≡ length xs)

abbrev pub range_at : ℕ → ℕ → Range
range_at address end = record { address = address; length = end - address }

all_more : {P Q : Range → Type 0} (xs : List Range) → ((x : Range) → P x → Q x) → AllByRecursion P xs
    → AllByRecursion Q xs
all_more [] f h = tt
all_more (x ∷ xs) f h = (f x h.0, all_more xs f h.1)

held_not_above : (r : Range) (a : ℕ) → r.address + r.length ≤ a → holds a r ≡ false
held_not_above r a h = and_right (nat_le r.address a) _ (le-ltb a (r.address + r.length) h)

held_not_below : (r : Range) (a : ℕ) → a < r.address → holds a r ≡ false
held_not_below r a h = and_left _ (nat_lt a (r.address + r.length)) (lt-leb r.address a h)

held_inside : (r : Range) (a : ℕ) → r.address ≤ a → a < r.address + r.length → holds a r ≡ true
held_inside r a low high = and_from _ _ (le-leb r.address a low) (lt-ltb a (r.address + r.length) high)

none_below : (xs : List Range) (a : ℕ) → AllByRecursion (λ x. a < x.address) xs → any_holds a xs ≡ false
none_below [] a h = refl
none_below (x ∷ xs) a h = or_from (holds a x) (any_holds a xs) (held_not_below x a h.0) (none_below xs a h.1)

-- after the window nothing is wanted
pub none_past : (ranges without : List Range) (window : Range) (a : ℕ) → window.address + window.length ≤ a
    → wanted ranges without window a ≡ false
none_past ranges without window a past = and_left (holds a window) _ (held_not_above window a past)

module _ (ranges without : List Range) (window : Range) (low start : ℕ)
    (first : IsNext ranges without window true low start) where
  same_from : (xs : List Range) (a : ℕ) → IsTail ranges without window start xs → low ≤ a → (a < start) ⊎ (start ≤ a)
      → any_holds a xs ≡ wanted ranges without window a
  same_from xs a t from (inl under) =
      none_below xs a (all_more xs (λ x h. omega (arith, h.0, under)) t.begun) ∙ sym (first.before a from under)
  same_from xs a t from (inr over) = t.same a over

  -- up to the first wanted byte nothing is to be written
  pub writing_from : (old new : List Range) (count : ℕ) → IsWriting ranges without window old new count low
      → IsWriting ranges without window old new count start
  writing_from old new count w = record {
    whole = (λ ys t. w.whole ys (record {
      ordered = t.ordered;
      begun = all_more ys (λ x h. (omega (arith, h.0, first.later), h.1)) t.begun;
      same = (λ a from. same_from ys a t from (cases_lt a start));
    }));
  }

module _ (ranges without : List Range) (window : Range) (start end : ℕ)
    (inside : start < window.address + window.length) (there : wanted ranges without window start ≡ true)
    (next : IsNext ranges without window false start end) where
  gone : (end < window.address + window.length) ⊎ (window.address + window.length ≤ end)
      → wanted ranges without window end ≡ false
  gone (inl less) = next.there less
  gone (inr past) = none_past ranges without window end past

  -- a range after this one begins at a wanted byte, and the byte after this one isn't
  apart : (a : ℕ) → wanted ranges without window a ≡ true → a ≡ end → ⊥
  apart a here e = both_ways (wanted ranges without window end) (gone (cases_lt end (window.address + window.length)))
      (subst (λ x. wanted ranges without window x ≡ true) e here)

  pub longer : start < end
  longer = omega (arith, next.later, apart start there)

  same_with : (xs : List Range) (a : ℕ) → IsTail ranges without window end xs → start ≤ a → (a < end) ⊎ (end ≤ a)
      → any_holds a (range_at start end ∷ xs) ≡ wanted ranges without window a
  same_with xs a t over (inl under) =
      or_left (holds a (range_at start end)) _ (held_inside (range_at start end) a over (omega (arith, under, longer)))
      ∙ sym (next.before a over under)
  same_with xs a t over (inr past) =
      ap (λ b. b || any_holds a xs) (held_not_above (range_at start end) a (omega (arith, past, longer)))
      ∙ t.same a past

  tail_with : (xs : List Range) → IsTail ranges without window end xs
      → IsTail ranges without window start (range_at start end ∷ xs)
  tail_with xs t = record {
    ordered = (
      omega (arith, longer),
      all_more xs (λ x h. omega (arith, h.0, longer, apart x.address h.1)) t.begun,
      t.ordered,
    );
    begun = ((omega arith, there), all_more xs (λ x h. (omega (arith, h.0, longer), h.1)) t.begun);
    same = (λ a over. same_with xs a t over (cases_lt a end));
  }

  pub writing_more : (old new : List Range) (count : ℕ) → IsWriting ranges without window old new count start
      → IsWriting ranges without window old (slice_set new count (range_at start end)) (count + 1) end
  writing_more old new count w = record {
    whole = (λ ys t. let all = w.whole (range_at start end ∷ ys) (tail_with ys t) in
        (all.0, all.1, all.2, omega (arith, all.3)));
  }

pub writing_none : (ranges without : List Range) (window : Range) (old : List Range)
    → IsWriting ranges without window old old 0 0
writing_none ranges without window old = record { whole = (λ ys t. (ys, t, refl, omega arith)) }

pub all_written : (ranges without : List Range) (window : Range) (old new : List Range) (count low : ℕ)
    → IsWriting ranges without window old new count low → window.address + window.length ≤ low
    → FillsClipped old new count ranges without window
all_written ranges without window old new count low w past =
    let none = λ (a : ℕ) (from : low ≤ a). sym (none_past ranges without window a (omega (arith, past, from))) in
    let all = w.whole [] (record { ordered = tt; begun = tt; same = none }) in
    (all.0, record { ordered = all.1.ordered; same = (λ a. all.1.same a (omega arith)) }, all.2, omega (arith, all.3))
