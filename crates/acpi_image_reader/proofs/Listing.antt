-- Regions by their starts: the last one that starts at an address or below it is the only one that
-- can hold the address.
use Rattle.std.proofs.Common.{Option, ◌≡◌, ℕ, zero, suc, ◌+◌, ◌-◌, ◌<◌, ◌≤◌, ◌==◌, ◌&&◌, nat_lt, Bool, true, false, List, [], ◌∷◌, ◌++◌, length, drop, slice_index_or, Some, None, IsSome, refl, sym, ap, ◌∙◌, arith, inl, inr, eq-eqb, ne_eqb, cond, take, option_map, Contains}
use Rattle.acpi_base.proofs.FromStd.{and_parts, and_from, false_from_ne_true, length-drop, ltb-true, lt-ltb, eqb-true, cases_lt, and_right, cases_eq, le-ltb, le-leb, lt-leb, and_left, nat_tests, All-from_recursion, All-contains, recursion_from_All, Contains-get_or, take-length, map-append}
use Rattle.acpi_base.specs.FromStd.{BTreeMap, get, is_eq, nat_cmp, AllByRecursion}
use Rattle.acpi_base.specs.Words.{Memory, Region, AreApart, end_of, lies_in, rest_from, at}
use Rattle.acpi_image_reader.specs.Words.{share, shares_any, AreAllApart, ListsStarts, bytes_at, region_of, regions_of, Record}
use Rattle.acpi_image_reader.proofs.Sharing.{all_apart, all_both, apart_is, inside, not_shared, shares_none, within}
use Rattle.std.proofs.lemmas.Bool.{cond_both, false≢true, true_from_ne_false}

pub flipped : (r s : Region) → AreApart r s → AreApart s r
flipped r s h a hs hr = h a hr hs

-- ---- what starts at an address

-- whether a region starts there and has bytes
abbrev starts_at : Region → ℕ → Bool
starts_at r a = r.start == a && nat_lt 0 (length r.bytes)

abbrev region_with : ℕ → List ℕ → Region
region_with a bytes = record { start = a; bytes = bytes }

-- it is one of the regions, and has bytes
record IsThere (m : Memory) (a : ℕ) (bytes : List ℕ) : Type 0 where
  pub listed : Contains m (region_with a bytes)
  pub some : 0 < length bytes

is_there : (m : Memory) (a : ℕ) (bytes : List ℕ) → bytes_at m a ≡ Some bytes → IsThere m a bytes
unfolding bytes_at
is_there [] a bytes e = absurd cc
is_there (r ∷ m) a bytes e =
    cond_both (starts_at r a) (Some r.bytes) (bytes_at m a) (λ o. o ≡ Some bytes → IsThere (r ∷ m) a bytes) (λ h f.
    let p = and_parts _ _ h in
    let same : r.bytes ≡ bytes = cc in
    record { listed = (0, omega arith, rw (← eqb-true r.start a p.0, ← same) refl); some = rw same at (ltb-true _ _ p.1) })
    (λ h f.
    let t = is_there m a bytes f in
    record { listed = (suc t.listed.0, omega (arith, t.listed.1), t.listed.2); some = t.some }) e

-- a region of the memory that has bytes is not overlooked
starts_here : (r : Region) → 0 < length r.bytes → starts_at r r.start ≡ true
starts_here r some = and_from _ _ (eq-eqb r.start r.start refl) (lt-ltb _ _ some)

is_listed : (m : Memory) (k : ℕ) (r : Region) → k < length m → slice_index_or m k r ≡ r → 0 < length r.bytes
    → IsSome (bytes_at m r.start)
unfolding bytes_at
is_listed [] k r less same some = absurd (omega arith)
is_listed (s ∷ m) zero r less same some = rw (same, starts_here r some) refl
is_listed (s ∷ m) (suc k) r less same some =
    cond_both (starts_at s r.start) (Some s.bytes) _ (λ (o : Option (List ℕ)). IsSome o) (λ h. refl)
    (λ h. is_listed m k r (omega arith) same some)

-- ---- two regions of a memory

apart_from : (r : Region) (m : Memory) (s : Region) → AllByRecursion (AreApart r) m → Contains m s → AreApart r s
apart_from r m s h c = All-contains (AreApart r) m s (All-from_recursion (AreApart r) m h) c

-- ---- what a region of the memory holds, all of it has

rest_listed : (m : Memory) (a k : ℕ) (r : Region) → AreAllApart m → k < length m → slice_index_or m k r ≡ r
    → lies_in r a ≡ true → rest_from m a ≡ drop (a - r.start) r.bytes
unfolding rest_from
rest_listed [] a k r h less same holds = absurd (omega arith)
rest_listed (s ∷ m) a zero r h less same holds = rw (same, holds) refl
rest_listed (s ∷ m) a (suc k) r h less same holds =
    let apart = apart_from s m r h.0 (k, omega arith, same) in
    rw (false_from_ne_true _ (λ here. apart a here holds)) (rest_listed m a k r h.1 (omega arith) same holds)

pub rest_found : (m : Memory) (start a : ℕ) (bytes : List ℕ) → AreAllApart m → bytes_at m start ≡ Some bytes
    → lies_in (region_with start bytes) a ≡ true → rest_from m a ≡ drop (a - start) bytes
rest_found m start a bytes h e holds =
    let t = is_there m start bytes e in
    rest_listed m a t.listed.0 (region_with start bytes) h t.listed.1 t.listed.2 holds

-- ---- which regions share a byte with another one

pub each : (m : Memory) (P : Region → Type 0) → ((s : Region) → Contains m s → P s) → AllByRecursion P m
each m P h = recursion_from_All P m (λ k d less. h (slice_index_or m k d) (Contains-get_or m k d less))

-- the one that starts last up to the end shares a byte
shares_found : (m : Memory) (start : ℕ) (bytes : List ℕ) (r : Region) → bytes_at m start ≡ Some bytes
    → share (region_with start bytes) r ≡ true → shares_any m r ≡ true
shares_found m start bytes r e h =
    true_from_ne_false _ (λ none.
    let all = All-from_recursion _ m (all_apart m r none) in
    let apart = All-contains (λ s. AreApart s r) m _ all (is_there m start bytes e).listed in
    not_shared _ _ apart h)

-- an address in two regions, of which the other one starts last
module _ (m : Memory) (start : ℕ) (bytes : List ℕ) (r : Region) (h : AreAllApart m) (e : bytes_at m start ≡ Some bytes)
    (low : start < end_of r) (apart : AreApart (region_with start bytes) r) where
  last_holds : (s : Region) → Contains m s → (a : ℕ) → lies_in s a ≡ true → lies_in r a ≡ true → s.start ≤ start → ⊥
  last_holds s c a hs hr upto =
      let there = is_there m start bytes e in
      let p = inside s a hs in
      let q = inside r a hr in
      let own : lies_in (region_with start bytes) start ≡ true =
      within (region_with start bytes) start (omega arith) (omega (arith, there.some)) in
      elim (cases_lt a start) [
        | inl below ↦ apart start own (within r start (omega (arith, q.0)) low)
        | inr above ↦
            let here = within s start upto (omega (arith, p.1)) in
            let rest = rest_listed m start c.0 s h c.1 c.2 here in
            let same = simp length-drop at (ap length (sym rest ∙ rest_found m start start bytes h e own)) in
            let far : a < start + length bytes = omega (arith, p.1, same) in
            apart a (within (region_with start bytes) a above (omega arith)) hr
      ]

  pub shares_past : ((a : ℕ) → a < end_of r → IsSome (bytes_at m a) → a ≤ start) → shares_any m r ≡ false
  shares_past last =
      shares_none m r (each m (λ s. AreApart s r) (λ s c a hs hr.
      let p = inside s a hs in
      let q = inside r a hr in
      last_holds s c a hs hr (last s.start (omega (arith, p.0, q.1))
      (is_listed m c.0 s c.1 c.2 (omega (arith, p.0, p.1))))))

-- none starts before the end
pub shares_nothing : (m : Memory) (r : Region) → ((a : ℕ) → a < end_of r → bytes_at m a ≡ None) → shares_any m r ≡ false
shares_nothing m r none =
    shares_none m r (each m (λ s. AreApart s r) (λ s c a hs hr.
    let p = inside s a hs in
    let q = inside r a hr in
    let some = is_listed m c.0 s c.1 c.2 (omega (arith, p.0, p.1)) in
    absurd (false≢true (rw (none s.start (omega (arith, p.0, q.1))) at some))))

-- the region that starts last before the end tells whether any shares a byte
pub shares_by : (m : Memory) (start : ℕ) (bytes : List ℕ) (r : Region) → AreAllApart m → bytes_at m start ≡ Some bytes
    → start < end_of r
    → ((a : ℕ) → a < end_of r → IsSome (bytes_at m a) → a ≤ start) → (answer : Bool)
    → answer ≡ share (region_with start bytes) r → answer ≡ shares_any m r
shares_by m start bytes r h e low last true same = sym (shares_found m start bytes r e (sym same))
shares_by m start bytes r h e low last false same =
    sym (shares_past m start bytes r h e low (apart_is _ _ (sym same)) last)

pub shares_empty : (m : Memory) (r : Region) → length r.bytes ≡ 0 → shares_any m r ≡ false
shares_empty m r none =
    shares_none m r (each m (λ s. AreApart s r) (λ s c a hs hr. let q = inside r a hr in
    absurd (omega (arith, q.0, q.1))))

-- ---- one address

-- the region of one byte there
abbrev byte_at : ℕ → Region
byte_at a = region_with a (0 ∷ [])

byte_holds : (a : ℕ) → lies_in (byte_at a) a ≡ true
byte_holds a = within (byte_at a) a (omega arith) (omega arith)

rest_unshared : (m : Memory) (a : ℕ) → AllByRecursion (λ s. AreApart s (byte_at a)) m → rest_from m a ≡ []
unfolding rest_from
rest_unshared [] a h = refl
rest_unshared (s ∷ m) a h =
    rw (false_from_ne_true _ (λ here. h.0 a here (byte_holds a))) (rest_unshared m a h.1)

-- the region that starts last up to the address lacks it
pub rest_past : (m : Memory) (start a : ℕ) (bytes : List ℕ) → AreAllApart m → bytes_at m start ≡ Some bytes → start ≤ a
    → lies_in (region_with start bytes) a ≡ false
    → ((b : ℕ) → b ≤ a → IsSome (bytes_at m b) → b ≤ start) → rest_from m a ≡ []
rest_past m start a bytes h e low lacks last =
    let apart : AreApart (region_with start bytes) (byte_at a) = λ b hs hb. grind (arith, nat_tests) in
    rest_unshared m a (all_apart m (byte_at a)
    (shares_past m start bytes (byte_at a) h e (omega arith) apart (λ b less some. last b (omega arith) some)))

-- no region starts up to the address
pub rest_nothing : (m : Memory) (a : ℕ) → ((b : ℕ) → b ≤ a → bytes_at m b ≡ None) → rest_from m a ≡ []
rest_nothing m a none =
    rest_unshared m a (all_apart m (byte_at a) (shares_nothing m (byte_at a) (λ b less. none b (omega arith))))

-- ---- one more region

bytes_without : (m : Memory) (r : Region) (a : ℕ) → starts_at r a ≡ false → bytes_at (m ++ (r ∷ [])) a ≡ bytes_at m a
unfolding bytes_at
bytes_without [] r a h = rw h refl
bytes_without (s ∷ m) r a h = ap (λ o. cond (starts_at s a) (Some s.bytes) o) (bytes_without m r a h)

not_here : (s r : Region) → 0 < length r.bytes → AreApart s r → starts_at s r.start ≡ false
not_here s r some apart = grind (arith, nat_tests, apart r.start)

bytes_last : (m : Memory) (r : Region) → 0 < length r.bytes → AllByRecursion (λ s. AreApart s r) m
    → bytes_at (m ++ (r ∷ [])) r.start ≡ Some r.bytes
unfolding bytes_at
bytes_last [] r some h = rw (starts_here r some) refl
bytes_last (s ∷ m) r some h = rw (not_here s r some h.0) (bytes_last m r some h.1)

-- a map that has one more start
pub starts_with : {X : Type 0} (view : X → List ℕ) (old new : BTreeMap ℕ X) (m : Memory) (start : ℕ) (value : X)
    → ((a : ℕ) → get nat_cmp new a ≡ cond (is_eq (nat_cmp start a)) (Some value) (get nat_cmp old a))
    → shares_any m (region_with start (view value)) ≡ false → 0 < length (view value) → ListsStarts view old m
    → ListsStarts view new (m ++ (region_with start (view value) ∷ []))
starts_with view old new m start value now none some was a =
    elim (cases_eq start a) [
      | inl same ↦
          let here : is_eq (nat_cmp start a) ≡ true = grind (arith, nat_tests) in
          let last = bytes_last m (region_with start (view value)) some
          (all_apart m (region_with start (view value)) none) in
          rw (now a, here, ← same, last) refl
      | inr other ↦
          let here : is_eq (nat_cmp start a) ≡ false = grind (arith, nat_tests) in
          rw (
            now a,
            here,
            bytes_without m (region_with start (view value)) a
                (and_left _ _ (ne_eqb _ _ other)),
          ) (was a)
    ]

-- ---- one more region that is apart from the others

apart_with : (m : Memory) (r : Region) → AreAllApart m → AllByRecursion (λ s. AreApart s r) m
    → AreAllApart (m ++ (r ∷ []))
apart_with [] r h last = (tt, tt)
apart_with (s ∷ m) r h last = (all_both (AreApart s) m (r ∷ []) h.0 (last.0, tt), apart_with m r h.1 last.1)

pub more_apart : (m : Memory) (r : Region) → AreAllApart m → shares_any m r ≡ false → AreAllApart (m ++ (r ∷ []))
more_apart m r h none = apart_with m r h (all_apart m r none)

-- as the regions of records
pub record_apart : (rs : List Record) (r : Record) → AreAllApart (regions_of rs)
    → shares_any (regions_of rs) (region_of r) ≡ false → AreAllApart (regions_of (rs ++ (r ∷ [])))
record_apart rs r h none = rw map-append (more_apart (regions_of rs) (region_of r) h none)

-- a region without bytes is not listed
pub starts_same : {X : Type 0} (view : X → List ℕ) (starts : BTreeMap ℕ X) (m : Memory) (r : Region)
    → length r.bytes ≡ 0 → ListsStarts view starts m → ListsStarts view starts (m ++ (r ∷ []))
starts_same view starts m r none was a =
    was a
    ∙ sym (bytes_without m r a (and_right (r.start == a) (nat_lt 0 (length r.bytes))
    (le-ltb 0 (length r.bytes) (omega (arith, none)))))

-- ---- no region

pub apart_none : (m : Memory) → m ≡ [] → AreAllApart m
apart_none m none = rw none tt

pub starts_none : {X : Type 0} (view : X → List ℕ) (starts : BTreeMap ℕ X) (m : Memory) → starts.entries ≡ [] → m ≡ []
    → ListsStarts view starts m
unfolding bytes_at
starts_none view starts m empty none a = rw (empty, none) refl

-- ---- what a map lists is what starts there

some_mapped : {X Y : Type 0} (view : X → Y) (o : Option X) → IsSome (option_map view o) → IsSome o
some_mapped view None h = h
some_mapped view (Some x) h = refl

module _ {X : Type 0} (view : X → List ℕ) (starts : BTreeMap ℕ X) (m : Memory) (h : ListsStarts view starts m) where
  pub bytes_listed : (a : ℕ) (x : X) → get nat_cmp starts a ≡ Some x → bytes_at m a ≡ Some (view x)
  bytes_listed a x e = sym (h a) ∙ ap (option_map view) e

  pub none_listed : (a : ℕ) → get nat_cmp starts a ≡ None → bytes_at m a ≡ None
  none_listed a e = sym (h a) ∙ ap (option_map view) e

  pub some_listed : (a : ℕ) → IsSome (bytes_at m a) → IsSome (get nat_cmp starts a)
  some_listed a some = some_mapped view (get nat_cmp starts a) (rw (h a) some)

-- ---- what is lent, from the rest of a region

pub at_rest : (m : Memory) (a : ℕ) (s : List ℕ) → s ≡ rest_from m a → at m a (length s) ≡ Some s
unfolding at
at_rest m a s e =
    let fits : length s ≤ length (rest_from m a) = rw e (omega arith) in
    let whole : take (length s) (rest_from m a) ≡ s = rw (← e) (take-length s) in
    rw (le-leb _ _ fits, whole) refl

pub at_none : (m : Memory) (a n : ℕ) (s : List ℕ) → s ≡ rest_from m a → length s < n → at m a n ≡ None
unfolding at
at_none m a n s e h =
    let short : length (rest_from m a) < n = rw (← e) h in
    rw (lt-leb _ _ short) refl
