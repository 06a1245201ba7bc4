-- What a memory lends: exactly the ranges inside one region, bytes that end below 2^64, and the fronts of what is lent.
use Rattle.std.proofs.Common.{◌≡◌, ℕ, zero, suc, ◌-◌, ◌<◌, ◌≤◌, List, [], ◌∷◌, Bool, true, false, length, length-drop, take, drop, slice_index_or, Some, refl, sym, ap, ◌∙◌, arith, ◌+◌, ◌^◌, Ok, get_or, subst, None, Err, inl, inr, Contains, if◌then◌else◌}
use Rattle.acpi_bytes.proofs.FromStd.{leb-true, ltb-true, le-leb, lt-ltb, and_from, and_parts, cases_lt, lt-leb, le-ltb, cond_some, get_or_past, length-take, length-take-le, take-take, take-length}
use Rattle.acpi_bytes.specs.FromStd.{AllByRecursion}
use Rattle.acpi_bytes.specs.Words.{Memory, Region, AreApart, IsMemory, HoldsRange, at, end_of, lies_in, rest_from, IsRegion, LentIsInside, IsBytes, lent, MapFailed, one_region}
use Rattle.acpi_bytes.proofs.Spelling.{IsBytes-drop, IsBytes-take}
use Rattle.acpi_bytes.proofs.Steps.{some_lent}

-- ---- a range that is lent lies whole inside one region

-- a region that has the bytes from an address on
record IsFrom (m : Memory) (a : ℕ) : Type 0 where
  pub region : Region
  pub listed : Contains m region
  pub inside : lies_in region a ≡ true
  pub rest : rest_from m a ≡ drop (a - region.start) region.bytes

rest_past : (r : Region) (m : Memory) (a : ℕ) → lies_in r a ≡ false → rest_from (r ∷ m) a ≡ rest_from m a
unfolding rest_from
rest_past r m a h = rw h refl

nothing : (a : ℕ) → length (rest_from [] a) ≡ 0
unfolding rest_from
nothing a = refl

cases_from : (r : Region) (m : Memory) (a : ℕ) (b : Bool) → lies_in r a ≡ b → (lies_in r a ≡ false → IsFrom m a)
    → IsFrom (r ∷ m) a
unfolding rest_from
cases_from r m a true h more = record { region = r; listed = (0, omega arith, refl); inside = h; rest = rw h refl }
cases_from r m a false h more =
    let f = more h in
    record {
      region = f.region;
      listed = (suc f.listed.0, omega (arith, f.listed.1), f.listed.2);
      inside = f.inside;
      rest = rw h f.rest;
    }

some_region : (m : Memory) (a : ℕ) → 0 < length (rest_from m a) → IsFrom m a
some_region [] a some = absurd (omega (arith, nothing a))
some_region (r ∷ m) a some = cases_from r m a (lies_in r a) refl (λ h. some_region m a (rw (rest_past r m a h) at some))

-- ---- the way back

apart_at : (r : Region) (m : Memory) (k : ℕ) (d : Region) → AllByRecursion (AreApart r) m → k < length m
    → AreApart r (slice_index_or m k d)
apart_at r [] k d h less = absurd (omega arith)
apart_at r (s ∷ m) zero d h less = h.0
apart_at r (s ∷ m) (suc k) d h less = apart_at r m k d h.1 (omega arith)

rest_first : (r : Region) (m : Memory) (a : ℕ) → lies_in r a ≡ true → rest_from (r ∷ m) a ≡ drop (a - r.start) r.bytes
unfolding rest_from
rest_first r m a h = rw h refl

cases_rest : (s : Region) (m : Memory) (a : ℕ) (rest : List ℕ) (b : Bool) → lies_in s a ≡ b → (lies_in s a ≡ true → ⊥)
    → rest_from m a ≡ rest → rest_from (s ∷ m) a ≡ rest
cases_rest s m a rest true h never more = absurd (never h)
cases_rest s m a rest false h never more = rest_past s m a h ∙ more

rest_at_index : (m : Memory) (a k : ℕ) (r : Region) → IsMemory m → k < length m → slice_index_or m k r ≡ r
    → lies_in r a ≡ true → rest_from m a ≡ drop (a - r.start) r.bytes
rest_at_index [] a k r hm less same inside = absurd (omega arith)
rest_at_index (s ∷ m) a zero r hm less same inside =
    let here : lies_in s a ≡ true = rw same inside in
    rest_first s m a here ∙ ap (λ (x : Region). drop (a - x.start) x.bytes) same
rest_at_index (s ∷ m) a (suc k) r hm less same inside =
    let apart : AreApart s r = rw same at (apart_at s m k r hm.1.0 (omega arith)) in
    cases_rest s m a (drop (a - r.start) r.bytes) (lies_in s a) refl (λ h. apart a h inside)
    (rest_at_index m a k r hm.1.1 (omega arith) same inside)

-- ---- both ways

is_inside : (r : Region) (a : ℕ) → lies_in r a ≡ true → (r.start ≤ a) × (a < end_of r)
is_inside r a h =
    let p = and_parts _ _ h in
    (leb-true _ _ p.0, ltb-true _ _ p.1)

holds_range : (m : Memory) (a n : ℕ) (bytes : List ℕ) → n ≤ length (rest_from m a) → take n (rest_from m a) ≡ bytes
    → (f : IsFrom m a) → HoldsRange f.region a n bytes
holds_range m a n bytes fits same f =
    let within = is_inside f.region a f.inside in
    let long : length (rest_from m a) ≡ length f.region.bytes - (a - f.region.start) =
    ap length f.rest ∙ length-drop (a - f.region.start) f.region.bytes in
    record {
      starts = within.0;
      ends = omega arith;
      there = sym same ∙ ap (take n) f.rest;
    }

pub lent_inside : (m : Memory) (a n : ℕ) (bytes : List ℕ) → 0 < n → at m a n ≡ Some bytes
    → (r : Region) × Contains m r × HoldsRange r a n bytes
unfolding at
lent_inside m a n bytes some e =
    let both = cond_some _ _ _ e in
    let fits : n ≤ length (rest_from m a) = leb-true _ _ both.0 in
    let f = some_region m a (omega arith) in
    (f.region, f.listed, holds_range m a n bytes fits both.1 f)

inside_lent : (m : Memory) (a n : ℕ) (bytes : List ℕ) → IsMemory m → 0 < n → (r : Region) → Contains m r
    → HoldsRange r a n bytes → at m a n ≡ Some bytes
unfolding at
inside_lent m a n bytes hm some r c h =
    let low : r.start ≤ a = h.starts in
    let high : a < end_of r = omega (arith, h.ends) in
    let inside : lies_in r a ≡ true = and_from _ _ (le-leb _ _ low) (lt-ltb _ _ high) in
    let rest = rest_at_index m a c.0 r hm c.1 c.2 inside in
    let fits : n ≤ length (rest_from m a) = rw rest (omega (arith, h.ends, length-drop (a - r.start) r.bytes)) in
    rw (le-leb _ _ fits, rest, h.there) refl

pub lent_is_inside : LentIsInside
lent_is_inside m a n bytes hm some = (lent_inside m a n bytes some, λ x. inside_lent m a n bytes hm some x.0 x.1 x.2)

-- ---- what is lent are bytes, and they end below 2^64

no_bytes : IsBytes []
no_bytes i = let none = get_or_past {X = ℕ} [] i 0 (omega arith) in omega (arith, none)

one_of : (b : Bool) (xs ys : List ℕ) → IsBytes xs → IsBytes ys → IsBytes (if b then xs else ys)
one_of true xs ys hx hy = hx
one_of false xs ys hx hy = hy

rest_bytes : (m : Memory) (a : ℕ) → IsMemory m → IsBytes (rest_from m a)
unfolding rest_from
rest_bytes [] a h = no_bytes
rest_bytes (r ∷ m) a h = one_of (lies_in r a) _ _ (IsBytes-drop (a - r.start) r.bytes h.0.1) (rest_bytes m a h.1.1)

at_bytes : (m : Memory) (a n : ℕ) (bytes : List ℕ) → IsMemory m → at m a n ≡ Some bytes → IsBytes bytes
unfolding at
at_bytes m a n bytes h e =
    let both = cond_some _ _ _ e in
    subst (λ (b : List ℕ). IsBytes b) both.1 (IsBytes-take n (rest_from m a) (rest_bytes m a h))

pub lent_bytes : (m : Memory) (a n : ℕ) (bytes : List ℕ) → IsMemory m → lent m a n ≡ Ok bytes → IsBytes bytes
lent_bytes m a n bytes h e = at_bytes m a n bytes h (some_lent _ _ e)

region_at : (m : Memory) (k : ℕ) (d : Region) → IsMemory m → k < length m → IsRegion (get_or m k d)
region_at [] k d h less = absurd (omega arith)
region_at (r ∷ m) zero d h less = h.0
region_at (r ∷ m) (suc k) d h less = region_at m k d h.1.1 (omega arith)

-- a range that is lent ends below 2^64
pub lent_ends : (m : Memory) (a n : ℕ) (bytes : List ℕ) → IsMemory m → 0 < n → lent m a n ≡ Ok bytes
    → a + length bytes < 2 ^ 64
lent_ends m a n bytes h some e =
    let f = lent_inside m a n bytes some (some_lent _ _ e) in
    let region : IsRegion f.0 = rw f.1.2 at (region_at m f.1.0 f.0 h f.1.1) in
    let short : length bytes ≤ n = rw f.2.there (omega (arith, length-take n (drop (a - f.0.start) f.0.bytes))) in
    omega (arith, f.2.ends, region.0)

-- ---- what is lent of a longer range is lent of its fronts

pub at-front : (m : Memory) (a n : ℕ) (s : List ℕ) → at m a (length s) ≡ Some s → n ≤ length s
    → at m a n ≡ Some (take n s)
unfolding at
at-front m a n s e h =
    let both = cond_some _ _ _ e in
    let whole : length s ≤ length (rest_from m a) = leb-true _ _ both.0 in
    let fits : n ≤ length (rest_from m a) = omega arith in
    let same : take n s ≡ take n (rest_from m a) = ap (take n) (sym both.1)
    ∙ take-take n (length s) (rest_from m a) h in
    rw (le-leb _ _ fits, same) refl

-- the front of what is lent is lent, by the front's own length
pub at_front_of : (m : Memory) (a n : ℕ) (s : List ℕ) → at m a (length s) ≡ Some s → n ≤ length s
    → at m a (length (take n s)) ≡ Some (take n s)
at_front_of m a n s e h = rw (length-take-le n s h) (at-front m a n s e h)

pub lent_front : (m : Memory) (a n : ℕ) (s : List ℕ) → at m a (length s) ≡ Some s → n ≤ length s
    → lent m a n ≡ Ok (take n s)
lent_front m a n s e h = rw (at-front m a n s e h) refl

-- of as many bytes as are shown, those that are shown
pub lent_shown : (m : Memory) (a r n : ℕ) (s : List ℕ) → at m a (length s) ≡ Some s → r ≤ length s
    → length (take r s) ≡ n → lent m a n ≡ Ok (take r s)
lent_shown m a r n s e fits long =
    let is : r ≡ n = omega (arith, length-take-le r s fits, long) in
    subst (λ k. lent m a k ≡ Ok (take r s)) is (lent_front m a r s e fits)

pub lent_none : (m : Memory) (a n : ℕ) → at m a n ≡ None → lent m a n ≡ Err MapFailed
lent_none m a n e = rw e refl

-- ---- what is lent of a memory of one region

-- all from an address on is lent
pub is_lent : (start a : ℕ) (b : List ℕ) → start ≤ a → a - start < length b
    → at (one_region start b) a (length (take (length b - (a - start)) (drop (a - start) b)))
    ≡ Some (take (length b - (a - start)) (drop (a - start) b))
unfolding at rest_from
is_lent start a b low high =
    let below : a < start + length b = omega arith in
    let all : take (length b - (a - start)) (drop (a - start) b) ≡ drop (a - start) b =
    rw (← length-drop (a - start) b) (take-length (drop (a - start) b)) in
    let whole : length (drop (a - start) b) ≤ length (drop (a - start) b) = omega arith in
    rw (all, le-leb _ _ low, lt-ltb _ _ below, le-leb _ _ whole, take-length (drop (a - start) b)) refl

-- nothing is lent below the region
pub starts_below : (start a n : ℕ) (b : List ℕ) → 0 < n → a < start → at (one_region start b) a n ≡ None
unfolding at rest_from
starts_below start a n b some low = rw (lt-leb _ _ low, lt-leb _ _ some) refl

-- nor what reaches past its end
pub ends_above : (start a n : ℕ) (b : List ℕ) → 0 < n → start ≤ a → length b < (a - start) + n
    → at (one_region start b) a n ≡ None
unfolding at rest_from
ends_above start a n b some low high =
    elim (cases_lt a (start + length b)) [
      | inl below ↦
          let short : length (drop (a - start) b) < n = omega (arith, length-drop (a - start) b) in
          rw (le-leb _ _ low, lt-ltb _ _ below, lt-leb _ _ short) refl
      | inr above ↦ rw (le-leb _ _ low, le-ltb _ _ above, lt-leb _ _ some) refl
    ]

-- what a handler over one region needs of its memory
pub ruleset one_region_lends = (is_lent, starts_below, ends_above)
