-- The bytes of tables in a memory.
use Rattle.std.proofs.Common.{◌≡◌, ◌∙◌, ℕ, zero, suc, ◌+◌, ◌-◌, ◌<◌, ◌≤◌, length, List, [], ◌∷◌, ap, add-one, drop, take, inl, inr, refl, sym, arith, true, false}
use Rattle.std.specs.Prelude.{slice_index_or}
use Rattle.acpi_base.proofs.FromStd.{and_from, false_from_ne_true, le-leb, length-drop, lt-ltb, nat_tests}
use Rattle.std.proofs.lemmas.List.Elements.{Contains-get_or}
use Rattle.acpi_base.specs.Words.{Memory, Region, end_of, lies_in, rest_from}
use Rattle.acpi_image_reader.specs.Words.{region_of, regions_of}
use Rattle.acpi_image_reader.specs.declared.record.Record.{Record}
use Rattle.acpi_dump_input.proofs.Lists.{has_map}
use Rattle.acpi_dump_input.specs.Inputs.{IsPart, IsRest}
use Rattle.acpi_dump_input.specs.Listed.{table_part}

-- those of one of the records
pub is_rest : (rs : List Record) (m : Memory) (i a : ℕ) (d : Record) (bytes : List ℕ) → regions_of rs ≡ m
    → i < length rs → (slice_index_or rs i d).start ≤ a
    → bytes ≡ drop (a - (slice_index_or rs i d).start) (slice_index_or rs i d).bytes.now → IsRest m bytes
is_rest rs m i a d bytes same less starts is =
    let has = has_map region_of rs (slice_index_or rs i d) (Contains-get_or rs i d less) in
    inr (region_of (slice_index_or rs i d), a - (slice_index_or rs i d).start, rw (← same) has, is)

none_of_none : (n : ℕ) (bytes : List ℕ) → length bytes ≡ 0 → length (take n bytes) ≡ 0
none_of_none zero bytes none = refl
none_of_none (suc n) [] none = refl
none_of_none (suc n) (b ∷ bytes) none = absurd (omega (arith, none))

-- the first of them
pub is_part : (m : Memory) (rest bytes : List ℕ) → IsRest m rest → ((n : ℕ) × (bytes ≡ take n rest)) → IsPart m bytes
is_part m rest bytes (inl none) first = inl (ap length first.1 ∙ none_of_none first.0 rest none)
is_part m rest bytes (inr some) first = inr (record {
  region = some.0;
  has = some.2;
  before = some.1;
  count = first.0;
  there = first.1 ∙ ap (take first.0) some.3;
})

-- ---- the bytes from an address to the end of the region that it is in

holds_it : (r : Region) (a : ℕ) → r.start ≤ a → 0 < length (drop (a - r.start) r.bytes) → lies_in r a ≡ true
holds_it r a low some =
    let less : 0 < length r.bytes - (a - r.start) = rw (← length-drop (a - r.start) r.bytes) some in
    and_from _ _ (le-leb _ _ low) (lt-ltb _ _ (omega (arith, less)))

lacks_it : (r : Region) (a : ℕ) → (r.start ≤ a → length (drop (a - r.start) r.bytes) ≡ 0) → lies_in r a ≡ false
lacks_it r a none = false_from_ne_true _ (λ holds.
    let low : r.start ≤ a = grind (arith, nat_tests) in
    let high : a < end_of r = grind (arith, nat_tests) in
    let no : length r.bytes - (a - r.start) ≡ 0 = rw (← length-drop (a - r.start) r.bytes) (none low) in
    absurd (omega (arith, low, high, no)))

-- the first region has the address
first_rest : (r : Region) (m : Memory) (a : ℕ) → r.start ≤ a → 0 < length (drop (a - r.start) r.bytes)
    → rest_from (r ∷ m) a ≡ drop (a - r.start) r.bytes
unfolding rest_from
first_rest r m a low some = rw (holds_it r a low some) refl

-- it doesn't
later_rest : (r : Region) (m : Memory) (a : ℕ) → (r.start ≤ a → length (drop (a - r.start) r.bytes) ≡ 0)
    → rest_from (r ∷ m) a ≡ rest_from m a
unfolding rest_from
later_rest r m a none = rw (lacks_it r a none) refl

none_left : (rs : List Record) (a i : ℕ) → length rs ≤ i → rest_from (drop i (regions_of rs)) a ≡ []
unfolding rest_from
none_left [] a zero h = refl
none_left [] a (suc i) h = refl
none_left (r ∷ rs) a zero h = absurd (omega arith)
none_left (r ∷ rs) a (suc i) h = none_left rs a i (omega arith)

-- the regions that are left begin with the next record's
regions_left : (rs : List Record) (i : ℕ) (d : Record) → i < length rs
    → drop i (regions_of rs) ≡ region_of (slice_index_or rs i d) ∷ drop (suc i) (regions_of rs)
regions_left [] i d less = absurd (omega arith)
regions_left (r ∷ rs) zero d less = refl
regions_left (r ∷ rs) (suc i) d less = regions_left rs i d (omega arith)

-- no record before the one at i has the address: what there is if that one has it, if it hasn't, and if there is none
module _ (rs : List Record) (m : Memory) (i a : ℕ) (same : regions_of rs ≡ m)
    (so_far : rest_from m a ≡ rest_from (drop i m) a) where
  pub rest_is : (d : Record) (bytes : List ℕ) → i < length rs → (slice_index_or rs i d).start ≤ a
      → bytes ≡ drop (a - (slice_index_or rs i d).start) (slice_index_or rs i d).bytes.now → 0 < length bytes
      → bytes ≡ rest_from m a
  rest_is d bytes less low is some =
      let r = region_of (slice_index_or rs i d) in
      let left : drop i m ≡ r ∷ drop (suc i) m = rw (← same) (regions_left rs i d less) in
      is ∙ sym (so_far ∙ ap (λ (x : Memory). rest_from x a) left ∙ first_rest r (drop (suc i) m) a low (rw is at some))

  rest_later : (d : Record) → i < length rs
      → ((slice_index_or rs i d).start ≤ a
      → length (drop (a - (slice_index_or rs i d).start) (slice_index_or rs i d).bytes.now) ≡ 0)
      → rest_from m a ≡ rest_from (drop (i + 1) m) a
  rest_later d less none =
      let r = region_of (slice_index_or rs i d) in
      let left : drop i m ≡ r ∷ drop (suc i) m = rw (← same) (regions_left rs i d less) in
      rw add-one (so_far ∙ ap (λ (x : Memory). rest_from x a) left ∙ later_rest r (drop (suc i) m) a none)

  pub rest_ends : (d : Record) (bytes : List ℕ) → i < length rs
      → bytes ≡ drop (a - (slice_index_or rs i d).start) (slice_index_or rs i d).bytes.now → length bytes ≡ 0
      → rest_from m a ≡ rest_from (drop (i + 1) m) a
  rest_ends d bytes less is none = rest_later d less (λ low. rw is at none)

  pub rest_begins : (d : Record) → i < length rs → a < (slice_index_or rs i d).start
      → rest_from m a ≡ rest_from (drop (i + 1) m) a
  rest_begins d less high = rest_later d less (λ low. absurd (omega (arith, low, high)))

  pub rest_none : length rs ≤ i → [] ≡ rest_from m a
  rest_none past = sym (so_far ∙ ap (λ (x : Memory). rest_from (drop i x) a) (sym same) ∙ none_left rs a i past)

-- those of a table
pub is_table_part : (m : Memory) (rest bytes : List ℕ) → IsRest m rest → bytes ≡ table_part rest → IsPart m bytes
is_table_part m rest bytes is first = is_part m rest bytes is (_, first)
