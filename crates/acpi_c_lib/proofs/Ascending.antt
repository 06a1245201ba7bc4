-- What regions in ascending order are, and where an address is in them.
use Rattle.acpi_bytes.specs.Memory as memory
use Rattle.std.proofs.Common.{◌≡◌, ℕ, ◌+◌, ◌^◌, ◌<◌, ◌≤◌, List, [], ◌∷◌, ◌++◌, length, take, drop, refl, arith, true, get_or, add-one, ◌⊎◌, inl, inr, zero, suc, ◌-◌, Bool, false, leb, sym, ap, ◌∙◌, None, Some, slice_get, Option}
use Rattle.acpi_base.proofs.FromStd.{map-append, drop_more, le-leb, lt-ltb, and_parts, leb-true, ltb-true, cases_lt, lt-leb, both_ways, take-suc, take-length, slice_get-get_or}
use Rattle.acpi_c_lib.specs.Words.{IsBytes, Memory, AreApart, IsMemory, IsRegion, end_of, lies_in, rest_from, at, AllByRecursion, IsPartitionPoint, IsAscending, Region, check_from, check_regions, memory_of, region_of, LiesOnlyAt, Place, spot_from}

-- ---- in ascending order they are a memory

inside : (r : memory.Region) (a : ℕ) → lies_in r a ≡ true → (r.start ≤ a) × (a < end_of r)
inside r a h =
    let p = and_parts _ _ h in
    (leb-true _ _ p.0, ltb-true _ _ p.1)

all_with : {X : Type 0} (P : X → Type 0) (xs : List X) (y : X) → AllByRecursion P xs → P y
    → AllByRecursion P (xs ++ (y ∷ []))
all_with P [] y h hy = (hy, tt)
all_with P (x ∷ xs) y h hy = (h.0, all_with P xs y h.1 hy)

ascending_with : (m : Memory) (r : memory.Region) → IsAscending m → AllByRecursion (λ s. end_of s ≤ r.start) m
    → IsAscending (m ++ (r ∷ []))
ascending_with [] r h below = (tt, tt)
ascending_with (s ∷ m) r h below = (all_with (λ x. end_of s ≤ x.start) m r h.0 below.0, ascending_with m r h.1 below.1)

memory_with : (m : Memory) (r : memory.Region) → IsMemory m → IsRegion r → AllByRecursion (λ s. AreApart s r) m
    → IsMemory (m ++ (r ∷ []))
memory_with [] r h hr apart = (hr, (tt, tt))
memory_with (s ∷ m) r h hr apart = (h.0, (all_with (AreApart s) m r h.1.0 apart.0, memory_with m r h.1.1 hr apart.1))

abbrev AllBelow : ℕ → Memory → Type 0
AllBelow low m = AllByRecursion (λ r. end_of r ≤ low) m

-- the first i regions are a memory below `low`, and the others decide
pub record IsChecked (all : List Region) (i low : ℕ) : Type 0 where
  pub same : check_from low (memory_of (drop i all)) ≡ check_regions (memory_of all)
  pub ascending : IsAscending (memory_of (take i all))
  pub memory : IsMemory (memory_of (take i all))
  pub below : AllBelow low (memory_of (take i all))

apart_from : (m : Memory) (r : memory.Region) (low : ℕ) → AllBelow low m → low ≤ r.start
    → AllByRecursion (λ s. AreApart s r) m
apart_from [] r low h le = tt
apart_from (s ∷ m) r low h le = (
  (λ a hs hr. let p = inside s a hs in let q = inside r a hr in absurd (omega (arith, h.0))),
  apart_from m r low h.1 le,
)

below_more : (m : Memory) (low high : ℕ) → AllBelow low m → low ≤ high → AllBelow high m
below_more [] low high h le = tt
below_more (s ∷ m) low high h le = (omega (arith, h.0), below_more m low high h.1 le)

below_with : (m : Memory) (r : memory.Region) (low : ℕ) → AllBelow low m → low ≤ r.start
    → AllBelow (end_of r) (m ++ (r ∷ []))
below_with [] r low h le = (omega arith, tt)
below_with (s ∷ m) r low h le = (omega (arith, h.0), below_with m r low h.1 le)

checked_at : (all : List Region) (i low : ℕ) (r : Region) (rest : List Region) → IsChecked all i low
    → drop i all ≡ r ∷ rest → low ≤ r.address → end_of (region_of r) < 2 ^ 64
    → check_from (end_of (region_of r)) (memory_of rest) ≡ check_regions (memory_of all)
checked_at all i low r rest h e le fits =
    let was = h.same in
    rw (e, le-leb _ _ le, lt-ltb _ _ fits) at was

-- one more region
pub checked_more : (all : List Region) (i low : ℕ) (d : Region) → IsChecked all i low → i < length all
    → low ≤ (get_or all i d).address
    → end_of (region_of (get_or all i d)) < 2 ^ 64 → IsBytes (get_or all i d).bytes.now
    → IsChecked all (i + 1) (end_of (region_of (get_or all i d)))
checked_more all i low d h less le fits bytes =
    let r : Region = get_or all i d in
    let front : take (i + 1) all ≡ take i all ++ (r ∷ []) = rw add-one (take-suc all i d less) in
    let parts : memory_of (take (i + 1) all) ≡ memory_of (take i all) ++ (region_of r ∷ []) =
    rw front (map-append region_of (take i all) (r ∷ [])) in
    record {
      same = checked_at all i low r (drop (i + 1) all) h (drop_more all i d less) le fits;
      ascending = rw parts (ascending_with (memory_of (take i all)) (region_of r) h.ascending
          (below_more (memory_of (take i all)) low r.address h.below le));
      memory = rw parts (memory_with (memory_of (take i all)) (region_of r) h.memory (fits, bytes)
          (apart_from (memory_of (take i all)) (region_of r) low h.below le));
      below = rw parts (below_with (memory_of (take i all)) (region_of r) low h.below le);
    }

-- ---- the order of the regions

first_ends : (r : Region) (rs : List Region) (j : ℕ) (d : Region)
    → AllByRecursion (λ s. end_of (region_of r) ≤ s.start) (memory_of rs) → j < length rs
    → end_of (region_of r) ≤ (get_or rs j d).address
first_ends r [] j d h less = absurd (omega arith)
first_ends r (s ∷ rs) zero d h less = h.0
first_ends r (s ∷ rs) (suc j) d h less = first_ends r rs j d h.1 (omega arith)

-- a region ends where a later one begins, or below
ordered : (rs : List Region) (i j : ℕ) (d : Region) → IsAscending (memory_of rs) → i < j → j < length rs
    → end_of (region_of (get_or rs i d)) ≤ (get_or rs j d).address
ordered [] i j d h less inside = absurd (omega arith)
ordered (r ∷ rs) i zero d h less inside = absurd (omega arith)
ordered (r ∷ rs) zero (suc j) d h less inside = first_ends r rs j d h.0 (omega arith)
ordered (r ∷ rs) (suc i) (suc j) d h less inside = ordered rs i j d h.1 (omega arith) (omega arith)

starts_by : (rs : List Region) (i j : ℕ) (d : Region) → IsAscending (memory_of rs) → i ≤ j → j < length rs
    → (i < j) ⊎ (j ≤ i) → (get_or rs i d).address ≤ (get_or rs j d).address
starts_by rs i j d h le inside (inl less) = omega (arith, ordered rs i j d h less inside)
starts_by rs i j d h le inside (inr more) =
    let same : i ≡ j = omega arith in
    rw same (omega arith)

-- the test by which the regions are halved: if a region passes, so do those before it
pub passes_before : (rs : List Region) (a i j : ℕ) (d : Region) → IsAscending (memory_of rs) → i ≤ j → j < length rs
    → leb (get_or rs j d).address a ≡ true → leb (get_or rs i d).address a ≡ true
passes_before rs a i j d h le inside up =
    le-leb _ _ (omega (arith, leb-true _ _ up, starts_by rs i j d h le inside (cases_lt i j)))

-- ---- the one of them

-- the last one that passes, if there is one
pub only_last : (rs : List Region) (a after : ℕ) → IsAscending (memory_of rs) → after ≤ length rs
    → IsPartitionPoint (λ (r : Region). leb r.address a ≡ true) (λ (r : Region). leb r.address a ≡ false) rs after
    → LiesOnlyAt rs a (after - 1)
only_last rs a after h bound point i d inside lies =
    let there = and_parts _ _ lies in
    let passes : (get_or rs i d).address ≤ a = leb-true _ _ there.0 in
    let under : a < end_of (region_of (get_or rs i d)) = ltb-true _ _ there.1 in
    let before : i < after = not_after rs a after i d point inside (le-leb _ _ passes) (cases_lt i after) in
    is_last rs a after i d h bound point before under (cases_lt i (after - 1))
  where
    not_after : (rs : List Region) (a after i : ℕ) (d : Region)
        → IsPartitionPoint (λ (r : Region). leb r.address a ≡ true) (λ (r : Region). leb r.address a ≡ false) rs after
        → i < length rs → leb (get_or rs i d).address a ≡ true → (i < after) ⊎ (after ≤ i) → i < after
    not_after rs a after i d point inside passes (inl less) = less
    not_after rs a after i d point inside passes (inr more) = absurd (both_ways _ (point.1 i d more inside) passes)

    is_last : (rs : List Region) (a after i : ℕ) (d : Region) → IsAscending (memory_of rs) → after ≤ length rs
        → IsPartitionPoint (λ (r : Region). leb r.address a ≡ true) (λ (r : Region). leb r.address a ≡ false) rs after
        → i < after → a < end_of (region_of (get_or rs i d)) → (i < after - 1) ⊎ (after - 1 ≤ i) → i ≡ after - 1
    is_last rs a after i d h bound point before under (inl less) =
        let last : (get_or rs (after - 1) d).address ≤ a =
        leb-true _ _ (point.0 (after - 1) d (omega arith) (omega arith)) in
        let ends = ordered rs i (after - 1) d h less (omega arith) in
        absurd (omega (arith, last, ends, under))
    is_last rs a after i d h bound point before under (inr more) = omega arith

not_there : (r : Region) (a : ℕ) (b : Bool) → lies_in (region_of r) a ≡ b → (lies_in (region_of r) a ≡ true → ⊥)
    → lies_in (region_of r) a ≡ false
not_there r a true e h = absurd (h e)
not_there r a false e h = e

no_spot : (rs : List Region) (k a : ℕ) → ((i : ℕ) (d : Region) → i < length rs
    → lies_in (region_of (get_or rs i d)) a ≡ true → ⊥) → spot_from k (memory_of rs) a ≡ None
no_spot [] k a h = refl
no_spot (r ∷ rs) k a h = rw (not_there r a _ refl (λ e. h 0 r (omega arith) e))
    (no_spot rs (k + 1) a (λ j d inside lies. h (suc j) d (omega arith) lies))

-- the region of the index decides
abbrev pub spot_in : ℕ → Option Region → ℕ → Option (Place × List ℕ)
spot_in i None a = None
spot_in i (Some r) a = spot_from i (region_of r ∷ []) a

spot_of : (rs : List Region) (k a i : ℕ) → LiesOnlyAt rs a i
    → spot_from k (memory_of rs) a ≡ spot_in (k + i) (slice_get rs i) a
spot_of [] k a i h = refl
spot_of (r ∷ rs) k a zero h =
    let index : k + 0 ≡ k = omega arith in
    rw (index, no_spot rs (k + 1) a (λ j d inside lies. omega (arith, h (suc j) d (omega arith) lies))) refl
spot_of (r ∷ rs) k a (suc i) h =
    let index : k + suc i ≡ k + 1 + i = omega arith in
    rw (not_there r a _ refl (λ e. omega (arith, h 0 r (omega arith) e)), index)
    (spot_of rs (k + 1) a i (λ j d inside lies. omega (arith, h (suc j) d (omega arith) lies)))

pub spot_past : (rs : List Region) (a i : ℕ) → LiesOnlyAt rs a i → length rs ≤ i → spot_from 0 (memory_of rs) a ≡ None
spot_past rs a i h past = no_spot rs 0 a (λ j d inside lies. omega (arith, h j d inside lies))

pub spot_there : (rs : List Region) (a i : ℕ) (r : Region) → LiesOnlyAt rs a i → slice_get rs i ≡ Some r
    → spot_from 0 (memory_of rs) a ≡ spot_from i (region_of r ∷ []) a
spot_there rs a i r h e =
    let index : 0 + i ≡ i = omega arith in
    rw (index, e) at (spot_of rs 0 a i h)

pub spot_inside : (rs : List Region) (a i : ℕ) (r : Region) → LiesOnlyAt rs a i → i < length rs
    → ((d : Region) → r ≡ get_or rs i d) → (s : List ℕ) → lies_in (region_of r) a ≡ true
    → s ≡ drop (a - r.address) r.bytes.now
    → Some (record { region = i; offset = a - r.address }, s) ≡ spot_from 0 (memory_of rs) a
spot_inside rs a i r h inside at s lies e =
    let here : slice_get rs i ≡ Some r = slice_get-get_or rs i r inside ∙ ap Some (sym (at r)) in
    rw (spot_there rs a i r h here, lies, e) refl

-- ---- what is seen where an address is

abbrev pub seen : Option (Place × List ℕ) → List ℕ
seen (Some spot) = spot.1
seen None = []

seen_from : (k : ℕ) (m : Memory) (a : ℕ) → rest_from m a ≡ seen (spot_from k m a)
unfolding rest_from
seen_from k [] a = refl
seen_from k (r ∷ m) a = grind (arith, seen_from (k + 1) m a)

pub rest_seen : (m : Memory) (a : ℕ) → rest_from m a ≡ seen (spot_from 0 m a)
rest_seen m a = seen_from 0 m a

-- ---- what is mapped where an address is

pub at_rest : (m : Memory) (a : ℕ) (s : List ℕ) → s ≡ rest_from m a → at m a (length s) ≡ Some s
unfolding at
at_rest m a s e =
    let fits : length s ≤ length (rest_from m a) = rw e (omega arith) in
    let whole : take (length s) (rest_from m a) ≡ s = rw (← e) (take-length s) in
    rw (le-leb _ _ fits, whole) refl

pub at_none : (m : Memory) (a n : ℕ) (s : List ℕ) → s ≡ rest_from m a → length s < n → at m a n ≡ None
unfolding at
at_none m a n s e h =
    let short : length (rest_from m a) < n = rw (← e) h in
    rw (lt-leb _ _ short) refl
