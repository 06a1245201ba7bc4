-- A table that hasn't all extended blocks has the fields of the table that is made of it.
use Rattle.std.proofs.Common.{◌≡◌, ◌∙◌, ℕ, zero, suc, ◌+◌, ◌-◌, ◌*◌, ◌/◌, ◌≤◌, ◌<◌, ◌⊎◌, inl, inr, Bool, true, false, if◌then◌else◌, nat_le, nat_lt, min, List, [], ◌∷◌, ◌++◌, length, take, drop, replicate, refl, sym, ap, arith, lit<, lit≤, lt-ltb, drop-set-lt, ltb-true, length-set}
use Rattle.std.proofs.lemmas.List.{drop-set, take_all}
use Rattle.acpi_base.proofs.FromStd.{cases_lt, le-ltb, le-leb, leb-false, leb-true, lt-leb}
use Rattle.acpi_base.specs.Words.{field_of, filled_part, number, part}
use Rattle.acpi_fixed.specs.Words.{HasBlocks, block_at, extended_address, extended_number, has_extended, kept_of, reach_of, whole_of}
use Rattle.acpi_fixed.proofs.ExtendedFields.{has_all, reaches}

-- the first n bytes, filled up with zeros
abbrev padded : ℕ → List ℕ → List ℕ
padded zero b = []
padded (suc n) [] = 0 ∷ padded n []
padded (suc n) (x ∷ b) = x ∷ padded n b

length_padded : (n : ℕ) (b : List ℕ) → length (padded n b) ≡ n
length_padded zero b = refl
length_padded (suc n) [] = ap suc (length_padded n [])
length_padded (suc n) (x ∷ b) = ap suc (length_padded n b)

zeros : (n : ℕ) → padded n [] ≡ replicate n 0
zeros zero = refl
zeros (suc n) = ap (λ l. 0 ∷ l) (zeros n)

is_padded : (n : ℕ) (b : List ℕ) → take n b ++ replicate (n - length (take n b)) 0 ≡ padded n b
is_padded zero b = refl
is_padded (suc n) [] = let e : suc n - 0 ≡ suc n = omega arith in rw e (sym (zeros (suc n)))
is_padded (suc n) (x ∷ b) =
    let e : suc n - suc (length (take n b)) ≡ n - length (take n b) = omega arith in
    rw e (ap (λ l. x ∷ l) (is_padded n b))

drop_none : (o : ℕ) → drop {A = ℕ} o [] ≡ []
drop_none zero = refl
drop_none (suc o) = refl

front_padded : (n m : ℕ) (b : List ℕ) → n ≤ m → padded n (padded m b) ≡ padded n b
front_padded zero m b le = refl
front_padded (suc n) zero b le = absurd (omega (arith, le))
front_padded (suc n) (suc m) [] le = ap (λ l. 0 ∷ l) (front_padded n m [] (omega (arith, le)))
front_padded (suc n) (suc m) (x ∷ b) le = ap (λ l. x ∷ l) (front_padded n m b (omega (arith, le)))

part_padded : (o n m : ℕ) (b : List ℕ) → o + n ≤ m → padded n (drop o (padded m b)) ≡ padded n (drop o b)
part_padded zero n m b le = front_padded n m b (omega (arith, le))
part_padded (suc o) n zero b le = absurd (omega (arith, le))
part_padded (suc o) n (suc m) [] le =
    part_padded o n m [] (omega (arith, le)) ∙ ap (padded n) (drop_none o)
part_padded (suc o) n (suc m) (x ∷ b) le = part_padded o n m b (omega (arith, le))

front_taken : (n k : ℕ) (b : List ℕ) → n ≤ k → padded n (take k b) ≡ padded n b
front_taken zero k b le = refl
front_taken (suc n) zero b le = absurd (omega (arith, le))
front_taken (suc n) (suc k) [] le = refl
front_taken (suc n) (suc k) (x ∷ b) le = ap (λ l. x ∷ l) (front_taken n k b (omega (arith, le)))

part_taken : (o n k : ℕ) (b : List ℕ) → o + n ≤ k → padded n (drop o (take k b)) ≡ padded n (drop o b)
part_taken zero n k b le = front_taken n k b (omega (arith, le))
part_taken (suc o) n zero b le = absurd (omega (arith, le))
part_taken (suc o) n (suc k) [] le = refl
part_taken (suc o) n (suc k) (x ∷ b) le = part_taken o n k b (omega (arith, le))

part_gone : (o n k : ℕ) (b : List ℕ) → k ≤ o → padded n (drop o (take k b)) ≡ replicate n 0
part_gone zero n zero b le = zeros n
part_gone zero n (suc k) b le = absurd (omega (arith, le))
part_gone (suc o) n zero b le = zeros n
part_gone (suc o) n (suc k) [] le = zeros n
part_gone (suc o) n (suc k) (x ∷ b) le = part_gone o n k b (omega (arith, le))

number_zeros : (n : ℕ) → number (replicate n 0) ≡ 0
number_zeros zero = refl
number_zeros (suc n) = omega (arith, number_zeros n)

number_filled : (b : List ℕ) (n : ℕ) → number (b ++ replicate n 0) ≡ number b
number_filled [] n = number_zeros n
number_filled (x ∷ b) n = ap (λ k. x + 256 * k) (number_filled b n)

part_is : (b : List ℕ) (o n : ℕ) → filled_part b o n ≡ padded n (drop o b)
part_is b o n = is_padded n (drop o b)

field_as : (b : List ℕ) (o n : ℕ) → field_of b o n ≡ number (filled_part b o n)
unfolding field_of
field_as b o n = sym (number_filled (part b o n) (n - length (part b o n)))

-- ---- how many bytes count

abbrev kept : ℕ → ℕ → ℕ
kept r l = if nat_lt r 140 then min 132 l else if nat_lt r 148 then 140 else 148 + (r - 148) / 12 * 12

kept_plain : (r l : ℕ) → (132 ≤ kept r l) ⊎ (kept r l ≡ min 132 l)
kept_plain r l =
    elim (cases_lt r 140) [
      | inl lt ↦ inr (rw (lt-ltb r 140 lt) refl)
      | inr ge ↦ elim (cases_lt r 148) [
        | inl lt ↦ inl (rw (le-ltb r 140 ge, lt-ltb r 148 lt) (lit≤ tt))
        | inr more ↦ inl (rw (le-ltb r 140 ge, le-ltb r 148 more) (omega arith))
      ]
    ]

-- an extended field that ends by the reach counts whole, and of another nothing
abbrev Counts : ℕ → ℕ → ℕ → ℕ → Type 0
Counts r l o n = (o + n ≤ r → o + n ≤ kept r l) × (r < o + n → kept r l ≤ o)

counts : (r l o n : ℕ) → (r < 140 → Counts r l o n) → (140 ≤ r → r < 148 → Counts r l o n) → (148 ≤ r → Counts r l o n)
    → Counts r l o n
counts r l o n few some many =
    elim (cases_lt r 140) [
      | inl lt ↦ few lt
      | inr ge ↦ elim (cases_lt r 148) [ inl lt ↦ some ge lt | inr more ↦ many more ]
    ]

block_counts : (r l j : ℕ) → Counts r l (148 + 12 * j) 12
block_counts r l j =
    counts r l (148 + 12 * j) 12
    (λ lt. rw (lt-ltb r 140 lt) (λ there. absurd (omega (arith, lt, there)), λ gone. omega arith))
    (λ ge lt. rw (le-ltb r 140 ge, lt-ltb r 148 lt) (λ there. absurd (omega (arith, lt, there)), λ gone. omega arith))
    (λ more. rw (le-ltb r 140 (omega (arith, more)), le-ltb r 148 more)
    (λ there. omega (arith, more, there), λ gone. omega (arith, more, gone)))

x_dsdt_counts : (r l : ℕ) → Counts r l 140 8
x_dsdt_counts r l =
    counts r l 140 8
    (λ lt. rw (lt-ltb r 140 lt) (λ there. absurd (omega (arith, lt, there)), λ gone. omega arith))
    (λ ge lt. rw (le-ltb r 140 ge, lt-ltb r 148 lt) (λ there. absurd (omega (arith, lt, there)), λ gone. lit≤ tt))
    (λ more. rw (le-ltb r 140 (omega (arith, more)), le-ltb r 148 more)
    (λ there. omega arith, λ gone. absurd (omega (arith, more, gone))))

x_firmware_ctrl_counts : (r l : ℕ) → Counts r l 132 8
x_firmware_ctrl_counts r l =
    counts r l 132 8
    (λ lt. rw (lt-ltb r 140 lt) (λ there. absurd (omega (arith, lt, there)), λ gone. omega arith))
    (λ ge lt. rw (le-ltb r 140 ge, lt-ltb r 148 lt) (λ there. lit≤ tt, λ gone. absurd (omega (arith, ge, gone))))
    (λ more. rw (le-ltb r 140 (omega (arith, more)), le-ltb r 148 more)
    (λ there. omega arith, λ gone. absurd (omega (arith, more, gone))))

-- ---- the table that is made

within : (new : Bool) (l : ℕ) → (if new then l else 0) ≤ l
within true l = omega arith
within false l = omega arith

reach_within : (t : List ℕ) → reach_of t ≤ length t
reach_within t = within (nat_le 2 (field_of t 8 1)) (length t)

module _ (b : List ℕ) where
  abbrev r : ℕ
  r = reach_of b

  abbrev w : List ℕ
  w = whole_of b

  abbrev front : List ℕ
  front = take (kept_of b) b

  long : length (filled_part front 0 244) ≡ 244
  long = ap length (part_is front 0 244) ∙ length_padded 244 front

  wide : length w ≡ 244
  wide = length-set (filled_part front 0 244) 8 2 ∙ long

  pub blocks : HasBlocks w
  unfolding field_of
  blocks =
      let new : field_of w 8 1 ≡ 2 =
      ap (λ l. number (take 1 l)) (drop-set (filled_part front 0 244) 8 2 (omega (arith, long))) in
      (omega (arith, new), omega (arith, wide))

  part_of : (o n : ℕ) → 8 < o → o + n ≤ 244 → filled_part w o n ≡ padded n (drop o front)
  part_of o n past within =
      part_is w o n ∙ ap (padded n) (drop-set-lt o (filled_part front 0 244) 8 2 past)
      ∙ ap (λ l. padded n (drop o l)) (part_is front 0 244) ∙ part_padded o n 244 front within

  pub plain : (o n : ℕ) → 8 < o → o + n ≤ 132 → filled_part w o n ≡ filled_part b o n
  plain o n past within =
      part_of o n past (omega (arith, within)) ∙ elim (kept_plain r (length b)) [
        | inl most ↦ part_taken o n (kept_of b) b (omega (arith, within, most))
        | inr least ↦ elim (cases_lt (length b) 132) [
          | inl lt ↦ ap (λ l. padded n (drop o l)) (take_all (kept_of b) b (omega (arith, least, lt)))
          | inr ge ↦ part_taken o n (kept_of b) b (omega (arith, within, least, ge))
        ]
      ] ∙ sym (part_is b o n)

  pub field : (o n : ℕ) → nat_lt 8 o ≡ true → nat_le (o + n) 132 ≡ true → field_of w o n ≡ field_of b o n
  field o n past within =
      field_as w o n ∙ ap number (plain o n (ltb-true 8 o past) (leb-true (o + n) 132 within)) ∙ sym (field_as b o n)

  extended : (o n : ℕ) → 8 < o → 0 < n → o + n ≤ 244 → Counts r (length b) o n
      → filled_part w o n ≡ (if has_extended b o n then filled_part b o n else replicate n 0)
  extended o n past some within is =
      elim (cases_lt r (o + n)) [
        | inl lt ↦ rw (reaches b o n some ∙ lt-leb (o + n) r lt)
            (part_of o n past within ∙ part_gone o n (kept_of b) b (is.1 lt))
        | inr ge ↦ rw (reaches b o n some ∙ le-leb (o + n) r ge)
            (part_of o n past within ∙ part_taken o n (kept_of b) b (is.0 ge) ∙ sym (part_is b o n))
      ]

  picked : (o : ℕ) (t : Bool) → number (if t then filled_part b o 8 else replicate 8 0) ≡ (if t then field_of b o 8 else 0)
  picked o true = sym (field_as b o 8)
  picked o false = refl

  number_is : (o : ℕ) → 8 < o → o + 8 ≤ 244 → Counts r (length b) o 8 → extended_number w o ≡ extended_number b o
  number_is o past within is =
      rw (has_all w o 8 blocks within)
      (field_as w o 8 ∙ ap number (extended o 8 past (lit< tt) within is) ∙ picked o (has_extended b o 8))

  pub x_firmware_ctrl_is : extended_number w 132 ≡ extended_number b 132
  x_firmware_ctrl_is = number_is 132 (lit< tt) (lit≤ tt) (x_firmware_ctrl_counts r (length b))

  pub x_dsdt_is : extended_number w 140 ≡ extended_number b 140
  x_dsdt_is = number_is 140 (lit< tt) (lit≤ tt) (x_dsdt_counts r (length b))

  -- there is no register after the blocks
  none_after : (o : ℕ) → 244 ≤ o → has_extended w o 12 ≡ false
  none_after o past = reaches w o 12 (lit< tt) ∙ lt-leb (o + 12) (reach_of w)
      (omega (arith, past, reach_within w, wide))

  pub sleep_is : (o : ℕ) → nat_le 244 o ≡ true → has_extended b 232 12 ≡ false
      → extended_address w o ≡ extended_address b o
  sleep_is o past short =
      let after = leb-true 244 o past in
      let less = leb-false 244 r (sym (reaches b 232 12 (lit< tt)) ∙ short) in
      rw (none_after o after, reaches b o 12 (lit< tt) ∙ lt-leb (o + 12) r (omega (arith, after, less))) refl

  pub block_is : (a s j : ℕ) → nat_lt 8 a ≡ true → nat_le (a + 4) 132 ≡ true → nat_lt 8 s ≡ true
      → nat_le (s + 1) 132 ≡ true → nat_lt j 8 ≡ true → block_at w a s (148 + 12 * j) ≡ block_at b a s (148 + 12 * j)
  unfolding block_at
  block_is a s j p q u v eighth =
      let less = ltb-true j 8 eighth in
      rw (
        field s 1 u v,
        plain a 4 (ltb-true 8 a p) (leb-true (a + 4) 132 q),
        has_all w (148 + 12 * j) 12 blocks (omega (arith, less)),
      )
      (rw (extended (148 + 12 * j) 12 (omega arith) (lit< tt) (omega (arith, less)) (block_counts r (length b) j)) refl)
