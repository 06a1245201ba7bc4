-- What comes at the front of what is read: a line of a text, a pair of digits, the numbers of a record.
use Rattle.std.proofs.Common.{◌≡◌, ℕ, ◌+◌, ◌<◌, ◌≤◌, ◌==◌, Bool, true, false, List, [], ◌∷◌, length, refl, ap, arith, if◌then◌else◌, zero, suc, ◌-◌, ◌++◌, Some, None, ◌^◌, w64, take, Ok, Err}
use Rattle.acpi_base.specs.FromStd.{after_first, before_first, to_le_bytes}
use Rattle.acpi_dump_input.specs.DumpText.{Tables, all_of, lines_of, onto_first, or_wrong, tables_from, with_line, after_dash, begins_with_gap, first_pair, with_pairs}
use Rattle.acpi_base.proofs.FromStd.{common_steps}
use Rattle.acpi_base.specs.Words.{spelling}
use Rattle.acpi_image.proofs.Written.{low_bytes}
use Rattle.std.specs.List.{slice_rotate_right}

-- ---- a text, one line at a time

abbrev feed : ℕ → Bool
feed c = c == 10

before_more : (c : ℕ) (text : List ℕ) → c == 10 ≡ false → before_first feed (c ∷ text) ≡ c ∷ before_first feed text
before_more c text e = grind (arith, common_steps)

after_more : (c : ℕ) (text : List ℕ) → c == 10 ≡ false → after_first feed (c ∷ text) ≡ after_first feed text
after_more c text e = grind (arith, common_steps)

lines_step : (text : List ℕ) → 0 < length text
    → lines_of text ≡ before_first feed text ∷ lines_of (after_first feed text)
unfolding lines_of
lines_step [] h = absurd (omega arith)
lines_step (c ∷ []) h = elim (c == 10)
    as (λ t. (if t then [] ∷ [] else (c ∷ []) ∷ [])
    ≡ before_first (λ _. t) (c ∷ []) ∷ lines_of (after_first (λ _. t) (c ∷ []))) [ true ↦ refl | false ↦ refl ]
lines_step (c ∷ d ∷ text) h =
    let more = lines_step (d ∷ text) (omega arith) in
    (elim (c == 10) as (λ t. c == 10 ≡ t → (if t then [] ∷ lines_of (d ∷ text) else onto_first c (lines_of (d ∷ text)))
    ≡ before_first feed (c ∷ d ∷ text) ∷ lines_of (after_first feed (c ∷ d ∷ text))) [
      | true ↦ λ is. rw is refl
      | false ↦ λ is. rw (before_more c (d ∷ text) is, after_more c (d ∷ text) is, more) refl
    ]) refl

-- what comes after the first line is shorter
pub after_shorter : (text : List ℕ) → 0 < length text → length (after_first feed text) < length text
after_shorter text h = grind (arith, common_steps)

-- no line is left
pub lines_end : (n : ℕ) (t : Tables) (text : List ℕ) → length text ≤ 0 → tables_from n t (lines_of text) ≡ Ok (all_of t)
unfolding lines_of tables_from
lines_end n t [] h = refl
lines_end n t (c ∷ text) h = absurd (omega arith)

-- the first line is wrong
pub lines_wrong : (n : ℕ) (t : Tables) (text : List ℕ) → 0 < length text
    → with_line t (before_first feed text) ≡ None → tables_from n t (lines_of text) ≡ Err n
unfolding tables_from
lines_wrong n t text h e = rw (lines_step text h)
    (ap (λ o. or_wrong n o (λ more. tables_from (n + 1) more (lines_of (after_first feed text)))) e)

-- the first line is right
pub lines_more : (n : ℕ) (t more : Tables) (text : List ℕ) → 0 < length text
    → with_line t (before_first feed text) ≡ Some more
    → tables_from n t (lines_of text) ≡ tables_from (n + 1) more (lines_of (after_first feed text))
unfolding tables_from
lines_more n t more text h e = rw (lines_step text h)
    (ap (λ o. or_wrong n o (λ next. tables_from (n + 1) next (lines_of (after_first feed text)))) e)

-- ---- pairs, one at a time

pub pairs_done : (n : ℕ) (bytes text : List ℕ) → n ≤ 0 → with_pairs n bytes text ≡ Some bytes
unfolding with_pairs
pairs_done zero bytes text none = refl
pairs_done (suc n) bytes text none = absurd (omega arith)

pub pairs_gap : (n : ℕ) (bytes text : List ℕ) → begins_with_gap (after_dash n text) ≡ true → with_pairs n bytes text ≡ Some bytes
unfolding with_pairs
pairs_gap zero bytes text h = refl
pairs_gap (suc n) bytes text h = rw h refl

pub pairs_wrong : (n : ℕ) (bytes text : List ℕ) → 0 < n → begins_with_gap (after_dash n text) ≡ false
    → first_pair (after_dash n text) ≡ None → with_pairs n bytes text ≡ None
unfolding with_pairs
pairs_wrong zero bytes text some h e = absurd (omega arith)
pairs_wrong (suc n) bytes text some h e = rw (h, e) refl

pub pairs_more : (n b : ℕ) (bytes text rest : List ℕ) → 0 < n → begins_with_gap (after_dash n text) ≡ false
    → first_pair (after_dash n text) ≡ Some (b, rest) → with_pairs n bytes text ≡ with_pairs (n - 1) (bytes ++ b ∷ []) rest
unfolding with_pairs
pairs_more zero b bytes text rest some h e = absurd (omega arith)
pairs_more (suc n) b bytes text rest some h e =
    let same : suc n - 1 ≡ n = omega arith in rw (h, e, same) refl

-- ---- the numbers that a record begins with

pub number_spelled : (n : ℕ) → n < 2 ^ 64 → take 8 (to_le_bytes w64 n) ≡ spelling 8 n
number_spelled n small = low_bytes 8 n (omega arith) small

-- two numbers of eight bytes each, which come after some bytes, are moved before them
pub to_front : (bytes start size : List ℕ) → length start ≡ 8 → length size ≡ 8
    → slice_rotate_right ((bytes ++ start) ++ size) 16 ≡ start ++ (size ++ bytes)
to_front bytes start size es ez = grind (arith, common_steps)
