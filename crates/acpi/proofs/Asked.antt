-- What may be asked for below a root table: each part of the ranges of a definition.
use Rattle.std.proofs.Common.{refl, ap, sym, drop, slice_get, ◌≡◌, ℕ, zero, suc, ◌+◌, ◌-◌, ◌*◌, ◌<◌, List, [], ◌∷◌, ◌++◌, Bool, subst, Option, Some, None, Result, Ok, Err, arith, IfSome, IsOk, MatchOption, flat_map}
use Rattle.acpi_base.proofs.FromStd.{get_or_from_slice_get}
use Rattle.acpi_base.proofs.Words.{all_back, all_front, all_rest}
use Rattle.acpi.specs.Types.{AcpiError, DSDT, Fadt}
use Rattle.acpi_base.specs.Words.{Memory, Allows, Ranges, accepted, table_ranges, unless_found, lent, Kind, plain_kind, table_at}
use Rattle.acpi_base.specs.Ranges as ranges
use Rattle.acpi_fixed.specs.Words.{dsdt_address_of, fadt_at}
use Rattle.acpi.specs.Words.{accepted_dsdt_ranges, by_accepted_fadt_ranges, header_ranges, lookup_ranges, fadt_kind, faults_of, unless_valid, lookup, Opened, opened_from, pointers, width_of, TableFault, RootPointer, root_and_ranges, accepted_found_rsdp, accepted_opened_by_rsdp_ranges, accepted_opened_by_search_ranges, accepted_rsdp_at, accepted_rsdp_ranges, accepted_search_ranges, area_ranges, opened_ranges, root_ranges_of, walk_ranges, both_place_ranges, dsdt_place_ranges, facs_place_ranges, dsdt_and_facs_ranges, place_ranges, count_of, first_area, found_in, room_of, second_area, word_in, Area}

-- the pointer that is seen first, and those after it
pub peeked : (all : List ℕ) (p : ℕ) → Some p ≡ slice_get all 0 → all ≡ p ∷ drop 1 all
peeked [] p is = cc
peeked (x ∷ all) p is = ap (λ y. y ∷ all) (get_or_from_slice_get (x ∷ all) 0 p 0 (sym is))

-- its faults come first
pub faults_peeked : (m : Memory) (k : Kind) (p : ℕ) (all left : List ℕ) → Some p ≡ slice_get all 0 → left ≡ drop 1 all
    → faults_of m k all ≡ unless_valid p (table_at m k p) (faults_of m k left)
faults_peeked m k p all left is moved = rw moved (ap (faults_of m k) (peeked all p is))

-- none comes from a valid table on
pub valid_last : (p : ℕ) (r : Result (List ℕ) AcpiError) (faults : List TableFault) → IsOk r
    → unless_valid p r faults ≡ []
valid_last p (Ok table) faults ok = refl
valid_last p (Err e) faults ok = absurd cc

pub no_faults : (m : Memory) (k : Kind) (all : List ℕ) → None ≡ slice_get all 0 → faults_of m k all ≡ []
no_faults m k [] is = refl
no_faults m k (x ∷ all) is = cc

-- the first member is valid
pub found_member : (m : Memory) (k : Kind) (p : ℕ) (all ps table : List ℕ) (top : Result (ℕ × List ℕ) AcpiError)
    → table_at m k p ≡ Ok table → all ≡ p ∷ ps → lookup m k all ≡ top → top ≡ Ok (p, table)
found_member m k p all ps table top valid is so_far = sym (rw (is, valid) at so_far)

module _ (may : ℕ → ℕ → Bool) where
  -- what lies after a step that passes
  pub behind : {A E : Type 0} (r : Result A E) (of : A → Ranges) (x : A) → r ≡ Ok x → Allows may (ranges.◌>>=◌ r of)
      → Allows may (of x)
  behind r of x is h = rw is at h

  -- ---- lookups

  pub asked_member : (m : Memory) (k : Kind) (p : ℕ) (all ps : List ℕ) → all ≡ p ∷ ps
      → Allows may (lookup_ranges m k all) → Allows may (table_ranges m k p)
  asked_member m k p all ps is h = all_front may (table_ranges m k p) _ (rw is at h)

  pub asked_later : (m : Memory) (k : Kind) (p : ℕ) (all ps : List ℕ) (e : AcpiError) → all ≡ p ∷ ps
      → Allows may (lookup_ranges m k all)
      → table_at m k p ≡ Err e → Allows may (lookup_ranges m k ps)
  asked_later m k p all ps e is h refused = rw refused at (all_back may (table_ranges m k p) _ (rw is at h))

  -- a member that isn't valid is passed over
  pub later_kept : (m : Memory) (k : Kind) (p : ℕ) (all ps : List ℕ) (top : Result (ℕ × List ℕ) AcpiError)
      (e : AcpiError)
      → table_at m k p ≡ Err e → all ≡ p ∷ ps → (lookup m k all ≡ top) × Allows may (lookup_ranges m k all)
      → (lookup m k ps ≡ top) × Allows may (lookup_ranges m k ps)
  later_kept m k p all ps top e refused is h = (rw (is, refused) at h.0, asked_later m k p all ps e is h.1 refused)

  -- ---- faults

  pub asked_peeked : (m : Memory) (k : Kind) (p : ℕ) (all : List ℕ) → Some p ≡ slice_get all 0
      → Allows may (lookup_ranges m k all)
      → Allows may (table_ranges m k p)
  asked_peeked m k p all is h = asked_member m k p all (drop 1 all) (peeked all p is) h

  pub asked_passed : (m : Memory) (k : Kind) (p : ℕ) (all left : List ℕ) (e : AcpiError) → Some p ≡ slice_get all 0
      → left ≡ drop 1 all
      → table_at m k p ≡ Err e → Allows may (lookup_ranges m k all) → Allows may (lookup_ranges m k left)
  asked_passed m k p all left e is moved refused h =
      rw moved (asked_later m k p all (drop 1 all) e (peeked all p is) h refused)

  -- ---- lists

  pub asked_now : (of : ℕ → Ranges) (all ps : List ℕ) (r : Option ℕ)
      → MatchOption r ((all ≡ []) × (ps ≡ [])) (λ p. all ≡ p ∷ ps)
      → Allows may (flat_map of all) → IfSome r (λ p. Allows may (of p))
  asked_now of all ps None is h = tt
  asked_now of all ps (Some p) is h = all_front may (of p) _ (rw is at h)

  pub asked_kept : (of : ℕ → Ranges) (all ps : List ℕ) (r : Option ℕ)
      → MatchOption r ((all ≡ []) × (ps ≡ [])) (λ p. all ≡ p ∷ ps)
      → Allows may (flat_map of all) → Allows may (flat_map of ps)
  asked_kept of all ps None is h = rw is.1 (rw is.0 at h)
  asked_kept of all ps (Some p) is h = all_back may (of p) _ (rw is at h)

  -- ---- the FADT, and what it leads to

  pub asked_fadt : (accept : ℕ) (place : Memory → Fadt → Ranges) (m : Memory) (ps : List ℕ)
      → Allows may (by_accepted_fadt_ranges accept place m ps)
      → Allows may (lookup_ranges m (accepted accept fadt_kind) ps)
  asked_fadt accept place m ps h = all_front may (lookup_ranges m (accepted accept fadt_kind) ps) _ h

  pub asked_place : (accept : ℕ) (place : Memory → Fadt → Ranges) (m : Memory) (ps : List ℕ) (found : ℕ × List ℕ)
      → Allows may (by_accepted_fadt_ranges accept place m ps) → lookup m (accepted accept fadt_kind) ps ≡ Ok found
      → Allows may (place m (fadt_at found.1))
  asked_place accept place m ps found h there =
      rw there at (all_back may (lookup_ranges m (accepted accept fadt_kind) ps) _ h)

  pub asked_dsdt : (accept : ℕ) (m : Memory) (ps : List ℕ) (found : ℕ × List ℕ) (a : ℕ)
      → Allows may (accepted_dsdt_ranges accept m ps) → lookup m (accepted accept fadt_kind) ps ≡ Ok found
      → dsdt_address_of (fadt_at found.1) ≡ Ok a
      → Allows may (table_ranges m (accepted accept (plain_kind DSDT)) a)
  asked_dsdt accept m ps found a h there address =
      let of : Memory → Fadt → Ranges =
      λ o f. ranges.◌>>=◌ (dsdt_address_of f) (table_ranges o (accepted accept (plain_kind DSDT))) in
      rw address at (asked_place accept of m ps found h there)

  pub asked_members : (m : Memory) (ps : List ℕ) → Allows may (place_ranges m ps) → Allows may (header_ranges m ps)
  asked_members m ps h = all_front may (header_ranges m ps) _ h

  pub asked_dsdt_and_facs : (m : Memory) (ps : List ℕ) → Allows may (place_ranges m ps)
      → Allows may (dsdt_and_facs_ranges m ps)
  asked_dsdt_and_facs m ps h = all_back may (header_ranges m ps) _ h

  pub asked_dsdt_place : (m : Memory) (ps : List ℕ) (found : ℕ × List ℕ) → Allows may (dsdt_and_facs_ranges m ps)
      → lookup m fadt_kind ps ≡ Ok found
      → Allows may (dsdt_place_ranges m (fadt_at found.1))
  asked_dsdt_place m ps found h there = all_front may (dsdt_place_ranges m (fadt_at found.1)) _
      (asked_place 0 both_place_ranges m ps found h there)

  pub asked_facs_place : (m : Memory) (ps : List ℕ) (found : ℕ × List ℕ) → Allows may (dsdt_and_facs_ranges m ps)
      → lookup m fadt_kind ps ≡ Ok found
      → Allows may (facs_place_ranges m (fadt_at found.1))
  asked_facs_place m ps found h there = all_back may (dsdt_place_ranges m (fadt_at found.1)) _
      (asked_place 0 both_place_ranges m ps found h there)

  -- ---- the RSDP

  pub asked_first : (accept : ℕ) (m : Memory) (a : ℕ) → Allows may (accepted_opened_by_rsdp_ranges accept m a)
      → Allows may (accepted_rsdp_ranges accept m a)
  asked_first accept m a h = all_front may (accepted_rsdp_ranges accept m a) _ h

  pub asked_root : (accept : ℕ) (m : Memory) (a : ℕ) (b : List ℕ)
      → Allows may (accepted_opened_by_rsdp_ranges accept m a) → accepted_rsdp_at accept m a ≡ Ok b
      → Allows may (root_ranges_of accept m (a, b))
  asked_root accept m a b h there = rw there at (all_back may (accepted_rsdp_ranges accept m a) _ h)

  pub asked_search : (accept : ℕ) (m : Memory) → Allows may (accepted_opened_by_search_ranges accept m)
      → Allows may (accepted_search_ranges accept m)
  asked_search accept m h = all_front may (accepted_search_ranges accept m) _ h

  pub asked_found : (accept : ℕ) (m : Memory) (found : ℕ × List ℕ)
      → Allows may (accepted_opened_by_search_ranges accept m) → accepted_found_rsdp accept m ≡ Ok found
      → Allows may (root_ranges_of accept m found)
  asked_found accept m found h there = rw there at (all_back may (accepted_search_ranges accept m) _ h)

  -- ---- the search

  pub asked_walk : (accept : ℕ) (m : Memory) (s : Area) (b : List ℕ) → Allows may (area_ranges accept m s)
      → lent m s.start (room_of s) ≡ Ok b
      → Allows may (walk_ranges accept m (count_of s) s.start)
  asked_walk accept m s b h there = rw there at (all_rest may (s.start, room_of s) _ h)

  pub asked_first_area : (accept : ℕ) (m : Memory) (w : ℕ) → Allows may (accepted_search_ranges accept m)
      → word_in m ≡ Ok w
      → Allows may (area_ranges accept m first_area)
  asked_first_area accept m w h word =
      all_front may (area_ranges accept m first_area) _ (behind (word_in m) _ w word (all_rest may (0x40e, 2) _ h))

  pub asked_second_area : (accept : ℕ) (m : Memory) (w : ℕ) → Allows may (accepted_search_ranges accept m)
      → word_in m ≡ Ok w
      → found_in accept m first_area ≡ Ok None
      → Allows may (area_ranges accept m (second_area w))
  asked_second_area accept m w h word none =
      behind (found_in accept m first_area) _ None none
      (all_back may (area_ranges accept m first_area) _ (behind (word_in m) _ w word (all_rest may (0x40e, 2) _ h)))

  of_pred : (accept : ℕ) (n n' : ℕ) (m : Memory) (a : ℕ) → n ≡ n'
      → Allows may (accepted_rsdp_ranges accept m a ++ unless_found (accepted_rsdp_at accept m a)
      (walk_ranges accept m n (a + 16)))
      → Allows may (accepted_rsdp_ranges accept m a ++ unless_found (accepted_rsdp_at accept m a)
      (walk_ranges accept m n' (a + 16)))
  of_pred accept n n' m a same h = subst (λ x. Allows may (accepted_rsdp_ranges accept m a
      ++ unless_found (accepted_rsdp_at accept m a) (walk_ranges accept m x (a + 16)))) same h

  asked_step : (accept : ℕ) (m : Memory) (n a : ℕ) → 0 < n → Allows may (walk_ranges accept m n a)
      → Allows may (accepted_rsdp_ranges accept m a ++ unless_found (accepted_rsdp_at accept m a)
      (walk_ranges accept m (n - 1) (a + 16)))
  asked_step accept m zero a some h = absurd (omega arith)
  asked_step accept m (suc n) a some h = of_pred accept n (suc n - 1) m a (omega arith) h

  pub asked_candidate : (accept : ℕ) (m : Memory) (n k start : ℕ) → k < n
      → Allows may (walk_ranges accept m (n - k) (start + 16 * k))
      → Allows may (accepted_rsdp_ranges accept m (start + 16 * k))
  asked_candidate accept m n k start turn h = all_front may (accepted_rsdp_ranges accept m (start + 16 * k)) _
      (asked_step accept m (n - k) (start + 16 * k) (omega arith) h)

  -- after a candidate that is refused
  after_refused : (m : Memory) (r : Result (List ℕ) AcpiError) (e : AcpiError) (xs : Ranges) → r ≡ Err e
      → Allows may (unless_found r xs) → Allows may xs
  after_refused m r e xs is h = rw is at h

  moved_walk : (accept : ℕ) (m : Memory) (n n' a a' : ℕ) → n ≡ n' → a ≡ a' → Allows may (walk_ranges accept m n a)
      → Allows may (walk_ranges accept m n' a')
  moved_walk accept m n n' a a' same_n same_a h = rw (same_n, same_a) at h

  pub asked_next : (accept : ℕ) (m : Memory) (n k start : ℕ) (e : AcpiError) → k < n
      → Allows may (walk_ranges accept m (n - k) (start + 16 * k)) → accepted_rsdp_at accept m (start + 16 * k) ≡ Err e
      → Allows may (walk_ranges accept m (n - (k + 1)) (start + 16 * (k + 1)))
  asked_next accept m n k start e turn h refused =
      let rest = all_back may (accepted_rsdp_ranges accept m (start + 16 * k)) _
      (asked_step accept m (n - k) (start + 16 * k) (omega arith) h) in
      moved_walk accept m (n - k - 1) (n - (k + 1)) (start + 16 * k + 16) (start + 16 * (k + 1)) (omega arith)
      (omega arith)
      (after_refused m _ e _ refused rest)

-- a call below a root table that was opened
pub asked_below : {L : Type 0} (memory : L → Memory) (may : L → ℕ → ℕ → Bool) (ranges : Memory → List ℕ
    → Ranges) (handler lender : L) (place : RootPointer) (o : Opened)
    → lender ≡ handler → opened_from (memory handler) place ≡ Ok o
    → Allows (may handler) (root_and_ranges (memory handler) place ranges)
    → Allows (may lender) (ranges (memory lender) (pointers (width_of o.kind) (drop 36 o.root)))
asked_below memory may ranges handler lender place o same opened h =
    rw same (rw opened at (all_back (may handler) (opened_ranges (memory handler) place) _ h))
