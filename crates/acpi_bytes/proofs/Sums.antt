-- Sums modulo 256: in lanes that wrap, and of a valid table in which one byte is changed.
use Rattle.std.proofs.Common.{◌≡◌, ℕ, suc, zero, ◌+◌, ◌-◌, ◌%◌, ◌≤◌, ◌<◌, List, [], ◌∷◌, ◌++◌, length, length-append, length-drop, take, drop, replicate, refl, ap, sym, ◌∙◌, arith, ◌≢◌, ◌⊎◌, inl, inr, Bool, true, false, set, get_or, sum, Result, Ok, Err, subst, Fits, w8, bit_and, IsOk, IsErr}
use Rattle.acpi_bytes.specs.FromStd.{chunk, fold_l, zip2}
use Rattle.acpi_bytes.proofs.FromStd.{take-add, take-append-add, drop-append-le, drop-drop, drop-replicate, take_all, take-replicate, drop-set-lt, drop-set-add, take-set-le, sum_by-append, sum_by-cons, sum_by-take-drop, sum_by-set, and_mask, length-chunk, length-zip2, leb-true, eqb-true, and_parts}
use Rattle.std.proofs.lemmas.Simd.{length-replicate}
use Rattle.acpi_bytes.specs.Words.{sum_of, field_of, number, AddsUp, check_names, check_table, header_at, DamageShows, holds, AcpiError, Signature}
use Rattle.acpi_bytes.proofs.Steps.{bind_ok, holds_ok}

-- lanes that wrap
abbrev pub wrapped : List ℕ → List ℕ → List ℕ
wrapped = zip2 (λ a b. (a + b) % 256)

sum-cons : (x : ℕ) (xs : List ℕ) → sum (x ∷ xs) ≡ x + sum xs
sum-cons = sum_by-cons (λ x. x)

-- they count as the plain sum, modulo 256
sum-wrapped : (xs ys : List ℕ) → length xs ≡ length ys → sum (wrapped xs ys) % 256 ≡ (sum xs + sum ys) % 256
sum-wrapped [] [] same = refl
sum-wrapped [] (y ∷ ys) same = absurd (omega arith)
sum-wrapped (x ∷ xs) [] same = absurd (omega arith)
sum-wrapped (x ∷ xs) (y ∷ ys) same =
    omega (
      arith,
      sum-wrapped xs ys (omega arith),
      sum-cons x xs,
      sum-cons y ys,
      sum-cons ((x + y) % 256) (wrapped xs ys),
    )

-- the sum over all lanes
fold-wrapped : (a : ℕ) (xs : List ℕ) → fold_l (λ s x. (s + x) % 256) a xs % 256 ≡ (a + sum xs) % 256
fold-wrapped a [] = omega arith
fold-wrapped a (x ∷ xs) = omega (arith, fold-wrapped ((a + x) % 256) xs, sum-cons x xs)

fold-below : (a : ℕ) (xs : List ℕ) → a < 256 → fold_l (λ s x. (s + x) % 256) a xs < 256
fold-below a [] small = small
fold-below a (x ∷ xs) small = fold-below ((a + x) % 256) xs (omega arith)

-- no lanes are filled yet
pub adds_up_nothing : AddsUp (replicate 16 0) []
unfolding sum_of
adds_up_nothing = (refl, refl)

-- one vector of the bytes more
sum-next : (bytes : List ℕ) (at end : ℕ) → at + 16 ≡ end
    → sum (take end bytes) ≡ sum (take at bytes) + sum (chunk at 16 bytes)
sum-next bytes at end there =
    ap (λ n. sum (take n bytes)) (sym there) ∙ ap sum (take-add at 16 bytes)
    ∙ sum_by-append (λ x. x) (take at bytes) (chunk at 16 bytes)

pub adds_up_next : (lanes bytes : List ℕ) (at end : ℕ) → at + 16 ≡ end → at + 16 ≤ length bytes
    → AddsUp lanes (take at bytes) → AddsUp (wrapped lanes (chunk at 16 bytes)) (take end bytes)
unfolding sum_of
adds_up_next lanes bytes at end there room so_far =
    let same : length lanes ≡ length (chunk at 16 bytes) =
    omega (arith, so_far.0, length-chunk at 16 bytes (omega (arith, there, room))) in (
      length-zip2 _ lanes (chunk at 16 bytes) same ∙ so_far.0,
      omega
          (arith, so_far.1, sum-wrapped lanes (chunk at 16 bytes) same, sum-next bytes at end there),
    )

-- if all lanes are kept, their sum is; and if the first are cleared, that of the others
sum-kept_all : (xs : List ℕ) (n : ℕ) → length xs ≡ n → sum (zip2 bit_and xs (replicate n 255)) % 256 ≡ sum xs % 256
sum-kept_all [] n long = refl
sum-kept_all (x ∷ xs) zero long = absurd (omega arith)
sum-kept_all (x ∷ xs) (suc n) long =
    omega (
      arith,
      sum-kept_all xs n (omega arith),
      and_mask x 8,
      sum-cons x xs,
      sum-cons (bit_and x 255) (zip2 bit_and xs (replicate n 255)),
    )

sum-kept : (k n : ℕ) (xs : List ℕ) → length xs ≡ k + n
    → sum (zip2 bit_and xs (replicate k 0 ++ replicate n 255)) % 256 ≡ sum (drop k xs) % 256
sum-kept zero n xs long = sum-kept_all xs n (omega (arith, long))
sum-kept (suc k) n [] long = absurd (omega arith)
sum-kept (suc k) n (x ∷ xs) long =
    omega (
      arith,
      sum-kept k n xs (omega arith),
      and_mask x 0,
      sum-cons (bit_and x 0)
          (zip2 bit_and xs (replicate k 0 ++ replicate n 255)),
    )

-- sixteen lanes, the first cleared and the last n kept
abbrev kept : ℕ → List ℕ
kept n = replicate (16 - n) 0 ++ replicate n 255

abbrev pub masks : List ℕ
masks = replicate 16 0 ++ replicate 16 255

-- they stand from place n on
keeps_last : (n : ℕ) → n ≤ 16 → chunk n 16 masks ≡ kept n
keeps_last n few =
    let cleared : List ℕ = replicate (16 - n) 0 in
    let long : length cleared + n ≡ 16 = omega (arith, length-replicate {A = ℕ} (16 - n) 0) in
    ap (take 16) (drop-append-le {A = ℕ} n (replicate 16 0) (replicate 16 255) few)
    ∙ ap (λ l. take 16 (l ++ replicate 16 255)) (drop-replicate n 16 0)
    ∙ ap (λ m. take m (cleared ++ replicate 16 255)) (sym long)
    ∙ take-append-add cleared (replicate 16 255) n
    ∙ ap (λ l. cleared ++ l) (take-replicate n 16 255 few)

pub adds_up_last : (bytes : List ℕ) (n : ℕ) → 16 ≤ length bytes → n ≤ 16
    → AddsUp (zip2 bit_and (chunk (length bytes - 16) 16 bytes) (chunk n 16 masks)) (drop (length bytes - n) bytes)
unfolding sum_of
adds_up_last bytes n long few =
    let whole = length-chunk (length bytes - 16) 16 bytes (omega arith) in
    let there : drop (16 - n) (chunk (length bytes - 16) 16 bytes) ≡ drop (length bytes - n) bytes =
    ap (drop (16 - n)) (take_all 16 (drop (length bytes - 16) bytes)
    (omega (arith, length-drop (length bytes - 16) bytes)))
    ∙ drop-drop (16 - n) (length bytes - 16) bytes
    ∙ ap (λ k. drop k bytes) (omega arith) in
    let same : length (chunk (length bytes - 16) 16 bytes) ≡ length (kept n) =
    omega (
      arith,
      whole,
      length-append {A = ℕ} (replicate (16 - n) 0) (replicate n 255),
      length-replicate {A = ℕ} (16 - n) 0,
      length-replicate {A = ℕ} n 255,
    ) in
    rw (keeps_last n few) (
      length-zip2 _ (chunk (length bytes - 16) 16 bytes) (kept n) same ∙ whole,
      sum-kept (16 - n) n (chunk (length bytes - 16) 16 bytes) (omega (arith, whole)) ∙ ap (λ l. sum l % 256) there,
    )

-- the lanes of all bytes
pub adds_up_whole : (lanes last bytes : List ℕ) (at : ℕ) → AddsUp lanes (take at bytes) → AddsUp last (drop at bytes)
    → fold_l (λ s x. (s + x) % 256) 0 (wrapped lanes last) ≡ sum_of bytes
unfolding sum_of
adds_up_whole lanes last bytes at so_far rest =
    omega (
      arith,
      so_far.1,
      rest.1,
      fold-below 0 (wrapped lanes last) (omega arith),
      fold-wrapped 0 (wrapped lanes last),
      sum-wrapped lanes last (so_far.0 ∙ sym rest.0),
      sum_by-take-drop (λ x. x) bytes at,
    )

-- ---- one changed byte of a valid table is found by the sum

last_holds : (b : Bool) (d : AcpiError) (x : Unit {0}) → holds b d ≡ Ok x → b ≡ true
last_holds true d x e = refl
last_holds false d x e = absurd cc

-- what passes has its length, and sums to zero
passed : (s : Signature) (bytes : List ℕ) (x : Unit {0}) → check_table s bytes ≡ Ok x
    → (field_of bytes 4 4 ≤ length bytes) × (sum (take (field_of bytes 4 4) bytes) % 256 ≡ 0)
unfolding check_table sum_of
passed s bytes x e =
    let names = bind_ok (check_names s (header_at bytes)) _ x e in
    let fits = holds_ok _ _ _ x names.2 in
    let within : field_of bytes 4 4 ≤ length bytes = leb-true _ _ (and_parts _ _ fits.0).1 in
    let zero_sum : sum (take (field_of bytes 4 4) bytes) % 256 ≡ 0 = eqb-true _ _ (last_holds _ _ x fits.1) in
    (within, zero_sum)

is_ok_value : (r : Result (Unit {0}) AcpiError) → IsOk r → r ≡ Ok tt
is_ok_value (Ok tt) o = refl
is_ok_value (Err d) o = absurd cc

err_from_not : (r : Result (Unit {0}) AcpiError) → ((x : Unit {0}) → r ≡ Ok x → ⊥) → IsErr r
err_from_not (Ok x) never = absurd (never x refl)
err_from_not (Err d) never = refl

length_stays : (bytes : List ℕ) (k b : ℕ) → (k < 4) ⊎ (8 ≤ k) → field_of (set bytes k b) 4 4 ≡ field_of bytes 4 4
unfolding field_of
length_stays bytes k b (inl low) = ap (λ s. number (take 4 s)) (drop-set-lt 4 bytes k b low)
length_stays bytes k b (inr high) =
    let k_is : 4 + (k - 4) ≡ k = omega arith in
    let moved : drop 4 (set bytes k b) ≡ set (drop 4 bytes) (k - 4) b =
    subst (λ (i : ℕ). drop 4 (set bytes i b) ≡ set (drop 4 bytes) (k - 4) b) k_is
    (drop-set-add 4 bytes (k - 4) b) in
    ap (λ s. number (take 4 s)) moved ∙ ap number (take-set-le 4 (drop 4 bytes) (k - 4) b (omega arith))

-- the sum changes by what the byte changes
sum_set : (n : ℕ) (bytes : List ℕ) (k b : ℕ) → k < n → k < length bytes
    → sum (take n (set bytes k b)) + get_or bytes k 0 ≡ sum (take n bytes) + b
sum_set n bytes k b l m =
    let front : sum (take n bytes) + sum (drop n bytes) ≡ sum bytes = sum_by-take-drop (λ x. x) bytes n in
    let changed : sum (take n (set bytes k b)) + sum (drop n (set bytes k b)) ≡ sum (set bytes k b) =
    sum_by-take-drop (λ x. x) (set bytes k b) n in
    let rest : sum (drop n (set bytes k b)) ≡ sum (drop n bytes) = ap sum (drop-set-lt n bytes k b l) in
    let whole : sum (set bytes k b) + get_or bytes k 0 ≡ sum bytes + b = sum_by-set (λ x. x) bytes k b 0 m in
    omega arith

pub damage_shows : (s : Signature) (bytes : List ℕ) (r : Result (Unit {0}) AcpiError)
    → ((i : ℕ) → Fits w8 (get_or bytes i 0)) → r ≡ check_table s bytes → IsOk r → DamageShows s bytes
damage_shows s bytes r are is ok k b below outside small other =
    let before = passed s bytes tt (sym is ∙ is_ok_value r ok) in
    err_from_not _ (λ x e.
    let after = passed s (set bytes k b) x e in
    let stays : field_of (set bytes k b) 4 4 ≡ field_of bytes 4 4 = length_stays bytes k b outside in
    let zero_after : sum (take (field_of bytes 4 4) (set bytes k b)) % 256 ≡ 0 =
    subst (λ (n : ℕ). sum (take n (set bytes k b)) % 256 ≡ 0) stays after.1 in
    let moved = sum_set (field_of bytes 4 4) bytes k b below (omega (arith, before.0)) in
    let old_small : get_or bytes k 0 < 256 = omega (arith, are k) in
    let differ : b ≢ get_or bytes k 0 = other in
    omega (arith, moved, before.1))
