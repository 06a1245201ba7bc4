-- The search for the RSDP: the candidates one at a time, the least valid one, and what a valid RSDP is.
use Rattle.std.proofs.Common.{◌≡◌, ℕ, ◌+◌, ◌-◌, ◌<◌, ◌≤◌, List, length, take, drop, drop-drop, Option, Some, None, Ok, Err, refl, ap, sym, ◌∙◌, false, arith, zero, suc, ◌*◌, subst, Result, inl, inr, lit≤, bytes_eq, ok_or, IsOk, IfOk, nat_le}
use Rattle.acpi_base.proofs.FromStd.{leb-true, take-take, drop-take, length-take-le, cond_some}
use Rattle.acpi_base.specs.Words.{part, field_of, Memory, Region, HoldsRange, IsMemory, at, rest_from, lent, ◌>>=◌, Gives, start_of}
use Rattle.acpi.specs.Types.{RsdpIncorrectSignature, MapFailed, NoValidRsdp, AcpiError, PhysicalMapping}
use Rattle.acpi_base.proofs.Words.{lent_is_inside, lent_front, bind_ok, holds_ok, part_within, some_lent}
use Rattle.acpi.specs.Words.{accepted_found_rsdp, accepted_length, accepted_rsdp_at, check_first, checked_length, rsd_ptr, rsdp_at, rsdp_of, check_rsdp, check_whole, at_hand, or_later, walk, first_area, second_area, room_of, count_of, found_in, or_else, word_in, IsRefused, IsLeast, HasNone, IsLent, IsSecond, IsSearched, IsFound, placed, Area}

-- what is lent is there
pub at_lent : (m : Memory) (a n : ℕ) (b : List ℕ) → lent m a n ≡ Ok b → at m a n ≡ Some b
at_lent m a n b e = some_lent _ _ e

long_at : (m : Memory) (a n : ℕ) (b : List ℕ) → at m a n ≡ Some b → length b ≡ n
unfolding at
long_at m a n b e =
    let parts = cond_some _ _ _ e in
    ap length (sym parts.1) ∙ length-take-le n (rest_from m a) (leb-true _ _ parts.0)

-- as many bytes are lent as were asked for
pub length_lent : (m : Memory) (a n : ℕ) (b : List ℕ) → lent m a n ≡ Ok b → length b ≡ n
length_lent m a n b e = long_at m a n b (at_lent m a n b e)

-- a part of the first bytes of a list
part_of_front : (b : List ℕ) (size off n : ℕ) → off + n ≤ size → part (take size b) off n ≡ take n (drop off b)
part_of_front b size off n room =
    let split : off + (size - off) ≡ size = omega arith in
    let cut : drop off (take size b) ≡ take (size - off) (drop off b) = rw split at (drop-take off (size - off) b) in
    ap (take n) cut ∙ take-take n (size - off) (drop off b) (omega arith)

holds_part : (r : Region) (a off n size : ℕ) (b : List ℕ) → HoldsRange r a size b → off + n ≤ size
    → HoldsRange r (a + off) n (part b off n)
holds_part r a off n size b h room =
    let low : r.start ≤ a = h.starts in
    let moved : a - r.start + off ≡ a + off - r.start = omega arith in
    let same : drop off (drop (a - r.start) r.bytes) ≡ drop (a + off - r.start) r.bytes =
    rw moved at (drop-drop off (a - r.start) r.bytes) in
    record {
      starts = omega arith;
      ends = omega (arith, h.ends);
      there = ap (λ x. part x off n) h.there ∙ part_of_front _ size off n room ∙ ap (take n) same;
    }

-- what is lent of a range is lent of each range inside it
pub lent_part : (m : Memory) (a off n size : ℕ) (b : List ℕ) → IsMemory m → lent m a size ≡ Ok b → 0 < n
    → off + n ≤ size → lent m (a + off) n ≡ Ok (part b off n)
lent_part m a off n size b hm e some room =
    let region = (lent_is_inside m a size b hm (omega arith)).0 (at_lent m a size b e) in
    let range = holds_part region.0 a off n size b region.2 room in
    rw ((lent_is_inside m (a + off) n (part b off n) hm some).1 (region.0, region.1, range)) refl

-- without the signature no RSDP is there
pub unsigned_refused : (accept : ℕ) (m : Memory) (a off size : ℕ) (b : List ℕ) → IsMemory m → lent m a size ≡ Ok b
    → off + 36 ≤ size
    → bytes_eq (part b off 8) rsd_ptr ≡ false → accepted_rsdp_at accept m (a + off) ≡ Err RsdpIncorrectSignature
unfolding accepted_rsdp_at accepted_length check_first rsdp_of
unsigned_refused accept m a off size b hm e room other =
    let there = lent_part m a off 36 size b hm e (omega arith) room in
    let front : take 8 (take 36 (drop off b)) ≡ take 8 (drop off b) = take-take 8 36 (drop off b) (omega arith) in
    rw (there, front, other) refl

-- ---- the candidates, one at a time

abbrev pub there : ℕ → List ℕ → Option (ℕ × List ℕ)
there a b = Some (a, b)

-- what holds of all candidates, before the first
pub not_begun : (P : ℕ → ℕ → Type 0) (n a : ℕ) → P n a → P (n - 0) (a + 16 * 0)
not_begun P n a h =
    let all : n - 0 ≡ n = omega arith in
    let start : a + 16 * 0 ≡ a = omega arith in
    rw (all, start) h

walk_step : (accept : ℕ) (m : Memory) (n a : ℕ) → 0 < n
    → walk accept m n a ≡ or_later (there a) (accepted_rsdp_at accept m a) (walk accept m (n - 1) (a + 16))
walk_step accept m zero a some = absurd (omega arith)
walk_step accept m (suc n) a some =
    let less : suc n - 1 ≡ n = omega arith in
    rw less refl

module _ (accept : ℕ) (m : Memory) (n k start : ℕ) (all : Option (ℕ × List ℕ))
    (so_far : walk accept m (n - k) (start + 16 * k) ≡ all)
    (turn : k < n) where
  turned : or_later (there (start + 16 * k)) (accepted_rsdp_at accept m (start + 16 * k))
      (walk accept m (n - (k + 1)) (start + 16 * (k + 1))) ≡ all
  turned =
      let less : n - k - 1 ≡ n - (k + 1) = omega arith in
      let next : start + 16 * k + 16 ≡ start + 16 * (k + 1) = omega arith in
      let step = walk_step accept m (n - k) (start + 16 * k) (omega arith) in
      rw (less, next) at (sym step ∙ so_far)

  -- the candidate in turn is valid
  pub walk_here : (b : List ℕ) → accepted_rsdp_at accept m (start + 16 * k) ≡ Ok b → Some (start + 16 * k, b) ≡ all
  walk_here b valid = rw valid at turned

  -- the candidate in turn is refused
  pub walk_later : (e : AcpiError) → accepted_rsdp_at accept m (start + 16 * k) ≡ Err e
      → walk accept m (n - (k + 1)) (start + 16 * (k + 1)) ≡ all
  walk_later e refused = rw refused at turned

  -- the candidate in turn lacks the signature
  pub walk_past : (size : ℕ) (b : List ℕ) → IsMemory m → lent m start size ≡ Ok b → 16 * k + 36 ≤ size
      → bytes_eq (part b (16 * k) 8) rsd_ptr ≡ false → walk accept m (n - (k + 1)) (start + 16 * (k + 1)) ≡ all
  walk_past size b h e room other = walk_later _ (unsigned_refused accept m start (16 * k) size b h e room other)

-- ---- the search gives the least valid candidate

-- what n candidates from an address on have
abbrev pub Says : ℕ → Memory → ℕ → ℕ → Option (ℕ × List ℕ) → Type 0
Says accept m n a (Some found) =
    (k : ℕ) × (k < n) × (found.0 ≡ a + 16 * k) × (accepted_rsdp_at accept m found.0 ≡ Ok found.1)
    × ((i : ℕ) → i < k → IsRefused accept m (a + 16 * i))
Says accept m n a None = (i : ℕ) → i < n → IsRefused accept m (a + 16 * i)

pub moved : (accept : ℕ) (m : Memory) (a b : ℕ) → a ≡ b → IsRefused accept m a → IsRefused accept m b
moved accept m a b e h = subst (λ (x : ℕ). IsRefused accept m x) e h

refused_more : (accept : ℕ) (m : Memory) (a k : ℕ) → IsRefused accept m a
    → ((i : ℕ) → i < k → IsRefused accept m (a + 16 + 16 * i)) → (i : ℕ)
    → i < suc k → IsRefused accept m (a + 16 * i)
refused_more accept m a k first rest zero less = moved accept m a _ (omega arith) first
refused_more accept m a k first rest (suc i) less = moved accept m (a + 16 + 16 * i) _ (omega arith)
    (rest i (omega arith))

one_more : (accept : ℕ) (m : Memory) (n a : ℕ) (o : Option (ℕ × List ℕ)) → IsRefused accept m a
    → Says accept m n (a + 16) o → Says accept m (suc n) a o
one_more accept m n a (Some found) first h =
    (suc h.0, omega (arith, h.1), h.2 ∙ omega arith, h.3, refused_more accept m a h.0 first h.4)
one_more accept m n a None first h = refused_more accept m a n first h

walk_one : (accept : ℕ) (m : Memory) (n a : ℕ) (r : Result (List ℕ) AcpiError) (later : Option (ℕ × List ℕ))
    → accepted_rsdp_at accept m a ≡ r
    → Says accept m n (a + 16) later → Says accept m (suc n) a (or_later (there a) r later)
walk_one accept m n a (Ok b) later e h =
    (0, omega arith, omega arith, e, λ i less. absurd (omega (arith, less)))
walk_one accept m n a (Err x) later e h = one_more accept m n a later (x, e) h

pub walk_says : (accept : ℕ) (m : Memory) (n a : ℕ) → Says accept m n a (walk accept m n a)
walk_says accept m zero a = λ i less. absurd (omega (arith, less))
walk_says accept m (suc n) a = walk_one accept m n a (accepted_rsdp_at accept m a) (walk accept m n (a + 16)) refl
    (walk_says accept m n (a + 16))

count_fits : (s : Area) (k : ℕ) → k < count_of s → s.start + 16 * k + 20 ≤ s.end
count_fits s k h = omega arith

fits_count : (s : Area) (k : ℕ) → s.start + 16 * k + 20 ≤ s.end → k < count_of s
fits_count s k h = omega arith

-- what a search of an area comes to
abbrev InArea : ℕ → Memory → Area → Result (Option (ℕ × List ℕ)) AcpiError → Type 0
InArea accept m s (Ok (Some found)) = IsLeast accept m s found
InArea accept m s (Ok None) = HasNone accept m s
InArea accept m s (Err e) = (e ≡ MapFailed) × (at m s.start (room_of s) ≡ None)

walked : (accept : ℕ) (m : Memory) (s : Area) (o : Option (ℕ × List ℕ)) → IsLent m s
    → Says accept m (count_of s) s.start o
    → InArea accept m s (Ok o)
walked accept m s (Some found) there h =
    let fits = count_fits s h.0 h.1 in
    record {
      lent = there;
      candidate = (h.0, h.2, omega (arith, h.2));
      valid = h.3;
      least = λ a less c. moved accept m (s.start + 16 * c.0) a (sym c.1) (h.4 c.0 (omega (arith, less, h.2, c.1)));
    }
walked accept m s None there h = record {
  lent = there;
  refused = λ a c. moved accept m (s.start + 16 * c.0) a (sym c.1) (h c.0 (fits_count s c.0 (omega (arith, c.1, c.2))));
}

area_lent : (accept : ℕ) (m : Memory) (s : Area) (o : Option (List ℕ)) → at m s.start (room_of s) ≡ o
    → InArea accept m s (ok_or o MapFailed >>= λ b. Ok (walk accept m (count_of s) s.start))
area_lent accept m s (Some b) e = walked accept m s _ (b, e) (walk_says accept m (count_of s) s.start)
area_lent accept m s None e = (refl, e)

in_area : (accept : ℕ) (m : Memory) (s : Area) → InArea accept m s (found_in accept m s)
unfolding found_in
in_area accept m s = area_lent accept m s _ refl

-- what reading the word comes to
abbrev IsWord : Memory → Result ℕ AcpiError → Type 0
IsWord m (Ok word) = (b : List ℕ) × (at m 0x40e 2 ≡ Some b) × (word ≡ field_of b 0 2)
IsWord m (Err e) = (e ≡ MapFailed) × (at m 0x40e 2 ≡ None)

word_lent : (m : Memory) (o : Option (List ℕ)) → at m 0x40e 2 ≡ o
    → IsWord m (ok_or o MapFailed >>= λ b. Ok (field_of b 0 2))
word_lent m (Some b) e = (b, e, refl)
word_lent m None e = (refl, e)

is_word : (m : Memory) → IsWord m (word_in m)
unfolding word_in
is_word m = word_lent m _ refl

-- ---- the whole search

-- what is to be believed of the definition's answer
abbrev Searched : ℕ → Memory → Result (ℕ × List ℕ) AcpiError → Type 0
Searched accept m r = IsSearched accept m (λ found. found) r

module _ (accept : ℕ) (m : Memory) (word : ℕ) (is : IsWord m (Ok word)) where
  is_second : IsSecond m (second_area word)
  is_second = (is.0, is.1, ap second_area is.2)

  in_second : HasNone accept m first_area → (r : Result (Option (ℕ × List ℕ)) AcpiError)
      → InArea accept m (second_area word) r
      → Searched accept m (r >>= λ found. or_else found (Err NoValidRsdp))
  in_second none (Ok (Some found)) least = (second_area word, is_second, inr (none, least))
  in_second none (Ok None) missing = inr (refl, (second_area word, is_second, none, missing))
  in_second none (Err e) unmapped = inl (unmapped.0, inr (inr (second_area word, is_second, none, unmapped.1)))

  in_first : (r : Result (Option (ℕ × List ℕ)) AcpiError) → InArea accept m first_area r
      → Searched accept m (r >>= λ first. or_else first (found_in accept m (second_area word) >>= λ found.
      or_else found (Err NoValidRsdp)))
  in_first (Ok (Some found)) least = (second_area word, is_second, inl least)
  in_first (Ok None) none = in_second none _ (in_area accept m (second_area word))
  in_first (Err e) unmapped = inl (unmapped.0, inr (inl unmapped.1))

from_word : (accept : ℕ) (m : Memory) (r : Result ℕ AcpiError) → IsWord m r
    → Searched accept m (r >>= λ word. found_in accept m first_area >>= λ first.
    or_else first (found_in accept m (second_area word) >>= λ found. or_else found (Err NoValidRsdp)))
from_word accept m (Ok word) is = in_first accept m word is _ (in_area accept m first_area)
from_word accept m (Err e) unmapped = inl (unmapped.0, inl unmapped.1)

found_is_searched : (accept : ℕ) (m : Memory) → Searched accept m (accepted_found_rsdp accept m)
unfolding accepted_found_rsdp
found_is_searched accept m = from_word accept m _ (is_word m)

-- what answers as `accepted_found_rsdp` has found the least valid candidate, or there is none
pub searched : (accept : ℕ) {X : Type 0} (m : Memory) (view : X → ℕ × List ℕ) (r : Result X AcpiError)
    → Gives view r (accepted_found_rsdp accept m)
    → IsSearched accept m view r
searched accept m view (Ok x) same = rw same at (found_is_searched accept m)
searched accept m view (Err e) same = rw same at (found_is_searched accept m)

-- ---- valid RSDPs: the bytes that are lent where one is, and bytes that are one

is_value : (r : Result (List ℕ) AcpiError) → IsOk r → (b : List ℕ) × (r ≡ Ok b)
is_value (Ok b) ok = (b, refl)
is_value (Err e) ok = absurd cc

value_lent : (accept : ℕ) (m : Memory) (a : ℕ) (b : List ℕ) → accepted_rsdp_at accept m a ≡ Ok b → lent m a 36 ≡ Ok b
unfolding accepted_rsdp_at
value_lent accept m a b e =
    let head = bind_ok (lent m a 36) _ b e in
    let length = bind_ok (accepted_length accept head.0) _ b head.2 in
    let summed = bind_ok (check_whole (lent m a) length.0) _ b length.2 in
    head.1 ∙ summed.2

pub valid_lent : (accept : ℕ) (m : Memory) (a : ℕ) → IsOk (accepted_rsdp_at accept m a)
    → accepted_rsdp_at accept m a ≡ lent m a 36
valid_lent accept m a ok =
    let b = is_value (accepted_rsdp_at accept m a) ok in
    b.1 ∙ sym (value_lent accept m a b.0 b.1)

-- what a search finds is valid

is_valid : (accept : ℕ) (m : Memory) (found : ℕ × List ℕ) → IsFound accept m found
    → IsOk (accepted_rsdp_at accept m found.0)
is_valid accept m found f = elim f.2 [ inl first ↦ rw first.valid refl | inr second ↦ rw second.1.valid refl ]

of_searched : (accept : ℕ) {X : Type 0} (m : Memory) (view : X → ℕ × List ℕ) (r : Result X AcpiError)
    → IsSearched accept m view r
    → IfOk r (λ x. IsOk (accepted_rsdp_at accept m (view x).0))
of_searched accept m view (Ok x) h = is_valid accept m (view x) h
of_searched accept m view (Err e) h = tt

pub found_valid : (accept : ℕ) {H T : Type 0} {h t : _} (m : Memory) (r : Result (PhysicalMapping H T h t) AcpiError)
    → Gives placed r (accepted_found_rsdp accept m) → IfOk r (λ x. IsOk (accepted_rsdp_at accept m (start_of x)))
found_valid accept m r given = of_searched accept m placed r (searched accept m placed r given)

-- ---- bytes that hold all checks of an RSDP are a valid RSDP if a memory has them

rsdp_front : (b : List ℕ) → rsdp_of (take 36 b) ≡ rsdp_of b
unfolding rsdp_of field_of
rsdp_front b = rw (
  part_within 0 8 36 b (lit≤ tt),
  part_within 8 1 28 b (lit≤ tt),
  part_within 9 6 27 b (lit≤ tt),
  part_within 15 1 21 b (lit≤ tt),
  part_within 16 4 20 b (lit≤ tt),
  part_within 20 4 16 b (lit≤ tt),
  part_within 24 8 12 b (lit≤ tt),
  part_within 32 1 4 b (lit≤ tt),
) refl

length_front : (b : List ℕ) → checked_length (take 36 b) ≡ checked_length b
unfolding accepted_length check_first
length_front b = rw (rsdp_front b, take-take 20 36 b (lit≤ tt)) refl

pub whole_there : (m : Memory) (a : ℕ) (b : List ℕ) (n : Option ℕ) → at m a (length b) ≡ Some b
    → check_whole (at_hand b) n ≡ Ok tt → check_whole (lent m a) n ≡ Ok tt
whole_there m a b None here whole = refl
whole_there m a b (Some n) here whole =
    let had = bind_ok (at_hand b n) _ tt whole in
    let fits = holds_ok (nat_le n (length b)) _ _ had.0 had.1 in
    let lent_here : lent m a n ≡ Ok had.0 = lent_front m a n b here (leb-true n (length b) fits.0) ∙ fits.1 in
    rw lent_here had.2

is_there : (m : Memory) (a : ℕ) (b head : List ℕ) (n : Option ℕ) → lent m a 36 ≡ Ok head → checked_length head ≡ Ok n
    → check_whole (lent m a) n ≡ Ok tt → rsdp_at m a ≡ Ok head
unfolding accepted_rsdp_at
is_there m a b head n first long whole = rw (first, long, whole) refl

pub valid_there : (m : Memory) (a : ℕ) (b : List ℕ) → 36 ≤ length b → at m a (length b) ≡ Some b → check_rsdp b ≡ Ok tt
    → IsOk (rsdp_at m a)
unfolding check_rsdp
valid_there m a b enough here given =
    let n = bind_ok (checked_length b) _ tt given in
    rw (is_there m a b (take 36 b) n.0 (lent_front m a 36 b here enough) (length_front b ∙ n.1)
    (whole_there m a b n.0 here n.2)) refl

pub validated : (m : Memory) (a : ℕ) (b : List ℕ) (r : Result (Unit {0}) AcpiError) → 36 ≤ length b
    → at m a (length b) ≡ Some b → r ≡ check_rsdp b → IfOk r (λ _. IsOk (rsdp_at m a))
validated m a b (Ok x) enough here given = valid_there m a b enough here (sym given)
validated m a b (Err e) enough here given = tt
