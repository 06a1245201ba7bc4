-- The search in areas that a caller gives: candidate by candidate, and in the reader's words.
use Rattle.std.proofs.Common.{◌≡◌, ℕ, zero, suc, ◌+◌, ◌-◌, ◌*◌, ◌/◌, ◌<◌, ◌≤◌, List, [], ◌∷◌, ◌++◌, length, drop, get_or, length-drop, Bool, true, arith, refl, ap, sym, subst, ◌∙◌, Option, Some, None, Result, Ok, Err, nat_le, IfOk, IsOk, MatchOption, unwrap_or, ok_or}
use Rattle.acpi_base.specs.FromStd.{AllByRecursion, option_or, is_err}
use Rattle.acpi_base.proofs.FromStd.{and_parts, nat_tests, drop_all, drop_more}
use Rattle.acpi_base.specs.Words.{part, Memory, IsMemory, at, Gives, lent, start_of, Allows}
use Rattle.acpi.specs.Types.{AcpiError, PhysicalMapping, NoValidRsdp, AddressRange}
use Rattle.acpi_base.proofs.Words.{all_back, all_front}
use Rattle.acpi.specs.Words.{accepted_in_areas, accepted_length, accepted_opened_in_areas_ranges, accepted_rsdp_at, areas_ranges, root_ranges_of, IsCandidateIn, IsFirstIn, IsSearchedIn, NoneIn, count_in, end_of, first_in, found_among, is_refused_in, walk_in, or_else_ranges, walk_ranges, IsRefused, placed, walk}
use Rattle.acpi.proofs.Asked.{asked_next}
use Rattle.acpi.proofs.Search.{Says, lent_part, moved, walk_later, walk_says}

-- ---- what a loan shows

err_is : (r : Result (Option ℕ) AcpiError) → is_err r ≡ true → (e : AcpiError) × (r ≡ Err e)
err_is (Ok x) h = absurd cc
err_is (Err e) h = (e, refl)

-- the first checks refuse what is lent there
first_refused : (accept : ℕ) (m : Memory) (a : ℕ) (b : List ℕ) (e : AcpiError) → lent m a 36 ≡ Ok b
    → accepted_length accept b ≡ Err e
    → IsRefused accept m a
unfolding accepted_rsdp_at
first_refused accept m a b e there refused = (e, rw (there, refused) refl)

-- a candidate whose bytes are in a loan
pub shown_refused : (accept : ℕ) (m : Memory) (a off : ℕ) (b : List ℕ) → IsMemory m → lent m a (length b) ≡ Ok b
    → is_refused_in accept b off ≡ true → IsRefused accept m (a + off)
shown_refused accept m a off b hm e h =
    let two = and_parts _ _ h in
    let long : 36 ≤ length (drop off b) = (let test : nat_le 36 (length (drop off b)) ≡ true = two.0 in
    grind (arith, nat_tests)) in
    let room : off + 36 ≤ length b = omega (arith, long, length-drop off b) in
    let why = err_is _ two.1 in
    first_refused accept m (a + off) (part b off 36) why.0
    (lent_part m a off 36 (length b) b hm e (omega arith) room) why.1

-- ---- candidates that are passed over

-- what isn't lent is refused
pub unmapped_refused : (accept : ℕ) (m : Memory) (a : ℕ) (e : AcpiError) → lent m a 36 ≡ Err e → IsRefused accept m a
unfolding accepted_rsdp_at
unmapped_refused accept m a e none = (e, rw none refl)

pub only_this : (accept : ℕ) (m : Memory) (a : ℕ) → IsRefused accept m a → (i : ℕ) → i < 1
    → IsRefused accept m (a + 16 * i)
only_this accept m a h i less = moved accept m a (a + 16 * i) (omega (arith, less)) h

-- one that is refused, and those after it that its loan shows to be
pub front_refused : (accept : ℕ) (m : Memory) (a n : ℕ) (b : List ℕ) → IsMemory m → at m a (length b) ≡ Some b
    → IsRefused accept m a
    → ((i : ℕ) → 0 < i → i < n → is_refused_in accept b (16 * i) ≡ true) → (i : ℕ) → i < n
    → IsRefused accept m (a + 16 * i)
front_refused accept m a n b hm e first rest zero less = moved accept m a (a + 16 * zero) (omega arith) first
front_refused accept m a n b hm e first rest (suc i) less =
    shown_refused accept m a (16 * suc i) b hm (rw e refl) (rest (suc i) (omega arith) less)

-- a number from 1 on, before the first that is other, or before the end if none is
pub before_other : (Yes No : ℕ → Type 0) (n : ℕ) (r : Option ℕ)
    → MatchOption r ((k : ℕ) → 1 ≤ k → k < n → No k) (λ i. (1 ≤ i) × (i < n) × Yes i × ((k : ℕ) → 1 ≤ k → k < i → No k))
    → (i : ℕ) → 0 < i → i < unwrap_or r n → No i
before_other Yes No n None none i some less = none i (omega arith) less
before_other Yes No n (Some x) found i some less = found.3 i (omega arith) less

module _ (accept : ℕ) (m : Memory) (n start : ℕ) where
  next_refused : (k r : ℕ) → ((i : ℕ) → i < suc r → IsRefused accept m (start + 16 * k + 16 * i)) → (i : ℕ) → i < r
      → IsRefused accept m (start + 16 * (k + 1) + 16 * i)
  next_refused k r refused i less = moved accept m (start + 16 * k + 16 * suc i) (start + 16 * (k + 1) + 16 * i)
      (omega arith)
      (refused (suc i) (omega (arith, less)))

  this_refused : (k r : ℕ) → ((i : ℕ) → i < suc r → IsRefused accept m (start + 16 * k + 16 * i))
      → IsRefused accept m (start + 16 * k)
  this_refused k r refused = moved accept m (start + 16 * k + 16 * 0) (start + 16 * k) (omega arith)
      (refused 0 (omega arith))

  pub walk_past_all : (all : Option (ℕ × List ℕ)) (k r : ℕ) → walk accept m (n - k) (start + 16 * k) ≡ all → k + r ≤ n
      → ((i : ℕ) → i < r → IsRefused accept m (start + 16 * k + 16 * i))
      → walk accept m (n - (k + r)) (start + 16 * (k + r)) ≡ all
  walk_past_all all k zero so_far most refused =
      let same : k ≡ k + zero = omega arith in
      subst (λ (x : ℕ). walk accept m (n - x) (start + 16 * x) ≡ all) same so_far
  walk_past_all all k (suc r) so_far most refused =
      let turn : k < n = omega (arith, most) in
      let here = this_refused k r refused in
      let next = walk_later accept m n k start all so_far turn here.0 here.1 in
      let same : k + 1 + r ≡ k + suc r = omega arith in
      subst (λ (x : ℕ). walk accept m (n - x) (start + 16 * x) ≡ all) same
      (walk_past_all all (k + 1) r next (omega (arith, most)) (next_refused k r refused))

  pub asked_past_all : (may : ℕ → ℕ → Bool) (k r : ℕ) → Allows may (walk_ranges accept m (n - k) (start + 16 * k))
      → k + r ≤ n
      → ((i : ℕ) → i < r → IsRefused accept m (start + 16 * k + 16 * i))
      → Allows may (walk_ranges accept m (n - (k + r)) (start + 16 * (k + r)))
  asked_past_all may k zero asked most refused =
      let same : k ≡ k + zero = omega arith in
      subst (λ (x : ℕ). Allows may (walk_ranges accept m (n - x) (start + 16 * x))) same asked
  asked_past_all may k (suc r) asked most refused =
      let turn : k < n = omega (arith, most) in
      let here = this_refused k r refused in
      let next = asked_next may accept m n k start here.0 turn asked here.1 in
      let same : k + 1 + r ≡ k + suc r = omega arith in
      subst (λ (x : ℕ). Allows may (walk_ranges accept m (n - x) (start + 16 * x))) same
      (asked_past_all may (k + 1) r next (omega (arith, most)) (next_refused k r refused))

-- ---- the areas, one at a time

pub area_in_turn : (accept : ℕ) (may : ℕ → ℕ → Bool) (m : Memory) (areas : List AddressRange) (i : ℕ) (d : AddressRange)
    → i < length areas
    → Allows may (areas_ranges accept m (drop i areas))
    → Allows may (walk_ranges accept m (count_in (get_or areas i d)) (first_in (get_or areas i d)))
area_in_turn accept may m areas i d less asked =
    let s = get_or areas i d in
    all_front may (walk_ranges accept m (count_in s) (first_in s)) _ (rw (drop_more areas i d less) at asked)

pub found_in_turn : (accept : ℕ) (m : Memory) (areas : List AddressRange) (i : ℕ) (d : AddressRange)
    (top : Option (ℕ × List ℕ))
    (found : ℕ × List ℕ) → i < length areas
    → found_among accept m (drop i areas) ≡ top → Some found ≡ walk_in accept m (get_or areas i d) → Some found ≡ top
found_in_turn accept m areas i d top found less so_far here =
    let first : option_or (walk_in accept m (get_or areas i d)) (found_among accept m (drop (i + 1) areas)) ≡ top =
    rw (drop_more areas i d less) at so_far in
    rw (← here) at first

-- areas after one that has no valid candidate
pub later_areas : (accept : ℕ) (may : ℕ → ℕ → Bool) (m : Memory) (areas : List AddressRange) (i : ℕ) (d : AddressRange)
    (top : Option (ℕ × List ℕ)) → i < length areas
    → found_among accept m (drop i areas) ≡ top → Allows may (areas_ranges accept m (drop i areas))
    → None ≡ walk_in accept m (get_or areas i d)
    → (found_among accept m (drop (i + 1) areas) ≡ top) × Allows may (areas_ranges accept m (drop (i + 1) areas))
later_areas accept may m areas i d top less so_far asked none =
    let s = get_or areas i d in
    let later = drop (i + 1) areas in
    let these : Allows may (walk_ranges accept m (count_in s) (first_in s)
    ++ or_else_ranges (walk_in accept m s) (areas_ranges accept m later)) = rw (drop_more areas i d less) at asked in
    let rest = all_back may (walk_ranges accept m (count_in s) (first_in s)) _ these in
    let found : option_or (walk_in accept m s) (found_among accept m later)
    ≡ top = rw (drop_more areas i d less) at so_far in
    (rw (← none) at found, rw (← none) at rest)

pub no_area_left : (accept : ℕ) (m : Memory) (areas : List AddressRange) (i : ℕ) (top : Option (ℕ × List ℕ))
    → length areas ≤ i
    → found_among accept m (drop i areas) ≡ top → None ≡ top
no_area_left accept m areas i top over so_far = rw (drop_all i areas over) at so_far

-- ---- the root table that is opened

pub asked_search_in : (may : ℕ → ℕ → Bool) (accept : ℕ) (m : Memory) (areas : List AddressRange)
    → Allows may (accepted_opened_in_areas_ranges accept m areas) → Allows may (areas_ranges accept m areas)
asked_search_in may accept m areas h = all_front may (areas_ranges accept m areas) _ h

pub asked_found_in : (may : ℕ → ℕ → Bool) (accept : ℕ) (m : Memory) (areas : List AddressRange)
    (found : ℕ × List ℕ) → Allows may (accepted_opened_in_areas_ranges accept m areas)
    → accepted_in_areas accept m areas ≡ Ok found → Allows may (root_ranges_of accept m found)
asked_found_in may accept m areas found h there =
    rw there at (all_back may (areas_ranges accept m areas) _ h)

-- ---- in the reader's words

-- what the candidates of one area come to
abbrev InOne : ℕ → Memory → AddressRange → Option (ℕ × List ℕ) → Type 0
InOne accept m s (Some found) =
    IsCandidateIn s found.0 × (accepted_rsdp_at accept m found.0 ≡ Ok found.1)
    × ((a : ℕ) → a < found.0 → IsCandidateIn s a
    → IsRefused accept m a)
InOne accept m s None = NoneIn accept m s

in_order : (address end i : ℕ) → i < (end - (address + 15) / 16 * 16 - 4) / 16
    → address ≤ 16 * ((address + 15) / 16 + i)
in_order address end i less = omega arith

in_time : (address end i : ℕ) → i < (end - (address + 15) / 16 * 16 - 4) / 16
    → 16 * ((address + 15) / 16 + i) + 20 ≤ end
in_time address end i less = omega arith

of_index : (s : AddressRange) (i a : ℕ) → i < count_in s → a ≡ first_in s + 16 * i → IsCandidateIn s a
of_index s i a less is =
    let k = (s.address + 15) / 16 + i in
    let same : a ≡ 16 * k = is ∙ omega arith in (
      k,
      same,
      subst (λ (x : ℕ). s.address ≤ x) (sym same) (in_order s.address (end_of s) i less),
      subst (λ (x : ℕ). x + 20 ≤ end_of s) (sym same) (in_time s.address (end_of s) i less),
    )

index_below : (address end k : ℕ) → address ≤ 16 * k → 16 * k + 20 ≤ end
    → k - (address + 15) / 16 < (end - (address + 15) / 16 * 16 - 4) / 16
index_below address end k low high = omega arith

index_at : (address k : ℕ) → address ≤ 16 * k → 16 * k ≡ (address + 15) / 16 * 16 + 16 * (k - (address + 15) / 16)
index_at address k low = omega arith

index_of : (s : AddressRange) (a : ℕ) → IsCandidateIn s a → (i : ℕ) × (i < count_in s) × (a ≡ first_in s + 16 * i)
index_of s a c =
    let low : s.address ≤ 16 * c.0 = subst (λ (x : ℕ). s.address ≤ x) c.1 c.2 in
    let high : 16 * c.0 + 20 ≤ end_of s = subst (λ (x : ℕ). x + 20 ≤ end_of s) c.1 c.3 in
    (c.0 - (s.address + 15) / 16, index_below s.address (end_of s) c.0 low high, c.1 ∙ index_at s.address c.0 low)

walked : (accept : ℕ) (m : Memory) (s : AddressRange) (o : Option (ℕ × List ℕ))
    → Says accept m (count_in s) (first_in s) o → InOne accept m s o
walked accept m s (Some found) h = (
  of_index s h.0 found.0 h.1 h.2,
  h.3,
  λ a less c. let at = index_of s a c in moved accept m (first_in s + 16 * at.0) a (sym at.2)
      (h.4 at.0 (omega (arith, less, h.2, at.2))),
)
walked accept m s None h = λ a c. let at = index_of s a c in moved accept m (first_in s + 16 * at.0) a (sym at.2)
    (h at.0 at.1)

in_one : (accept : ℕ) (m : Memory) (s : AddressRange) → InOne accept m s (walk_in accept m s)
in_one accept m s = walked accept m s (walk_in accept m s) (walk_says accept m (count_in s) (first_in s))

abbrev IsAmong : ℕ → Memory → List AddressRange → Option (ℕ × List ℕ) → Type 0
IsAmong accept m areas (Some found) = IsFirstIn accept m areas found
IsAmong accept m areas None = AllByRecursion (NoneIn accept m) areas

one_more : (accept : ℕ) (m : Memory) (s : AddressRange) (areas : List AddressRange) (o later : Option (ℕ × List ℕ))
    → InOne accept m s o
    → IsAmong accept m areas later → IsAmong accept m (s ∷ areas) (option_or o later)
one_more accept m s areas (Some found) later here more = record {
  before = [];
  area = s;
  after = areas;
  listed = refl;
  none_before = tt;
  candidate = here.0;
  valid = here.1;
  least = here.2;
}
one_more accept m s areas None (Some found) here f = record {
  before = s ∷ f.before;
  area = f.area;
  after = f.after;
  listed = ap (λ xs. s ∷ xs) f.listed;
  none_before = (here, f.none_before);
  candidate = f.candidate;
  valid = f.valid;
  least = f.least;
}
one_more accept m s areas None None here more = (here, more)

among : (accept : ℕ) (m : Memory) (areas : List AddressRange) → IsAmong accept m areas (found_among accept m areas)
among accept m [] = tt
among accept m (s ∷ areas) = one_more accept m s areas (walk_in accept m s) (found_among accept m areas)
    (in_one accept m s) (among accept m areas)

abbrev Searched : ℕ → Memory → List AddressRange → Result (ℕ × List ℕ) AcpiError → Type 0
Searched accept m areas r = IsSearchedIn accept m areas (λ found. found) r

or_refused : (accept : ℕ) (m : Memory) (areas : List AddressRange) (o : Option (ℕ × List ℕ)) → IsAmong accept m areas o
    → Searched accept m areas (ok_or o NoValidRsdp)
or_refused accept m areas (Some found) h = h
or_refused accept m areas None h = (refl, h)

found_is_first : (accept : ℕ) (m : Memory) (areas : List AddressRange)
    → Searched accept m areas (accepted_in_areas accept m areas)
unfolding accepted_in_areas
found_is_first accept m areas = or_refused accept m areas (found_among accept m areas) (among accept m areas)

-- what answers as `accepted_in_areas` has found the first valid candidate, or there is none
pub searched_in : (accept : ℕ) {X : Type 0} (m : Memory) (areas : List AddressRange) (view : X → ℕ × List ℕ)
    (r : Result X AcpiError)
    → Gives view r (accepted_in_areas accept m areas) → IsSearchedIn accept m areas view r
searched_in accept m areas view (Ok x) same = rw same at (found_is_first accept m areas)
searched_in accept m areas view (Err e) same = rw same at (found_is_first accept m areas)

valid_in : (accept : ℕ) {X : Type 0} (m : Memory) (areas : List AddressRange) (view : X → ℕ × List ℕ)
    (r : Result X AcpiError)
    → IsSearchedIn accept m areas view r → IfOk r (λ x. IsOk (accepted_rsdp_at accept m (view x).0))
valid_in accept m areas view (Ok x) f = rw f.valid refl
valid_in accept m areas view (Err e) h = tt

pub found_valid_in : (accept : ℕ) {H T : Type 0} {h t : _} (m : Memory) (areas : List AddressRange)
    (r : Result (PhysicalMapping H T h t) AcpiError) → Gives placed r (accepted_in_areas accept m areas)
    → IfOk r (λ x. IsOk (accepted_rsdp_at accept m (start_of x)))
found_valid_in accept m areas r given = valid_in accept m areas placed r (searched_in accept m areas placed r given)
