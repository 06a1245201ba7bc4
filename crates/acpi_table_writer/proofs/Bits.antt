-- Bytes and flags: single bytes, trigger modes and polarities as they are read, the bytes of numbers, flags in a
-- number, and checks that were passed.
use Rattle.std.proofs.Common.{◌≡◌, ℕ, Bool, true, false, List, [], ◌∷◌, Result, Ok, Err, refl, sym, ap, ◌∙◌, arith, ◌^◌, ◌<◌, w16, w32, zero, suc, ◌+◌, ◌*◌, ◌%◌, ◌/◌, ◌≤◌, length, drop, add-one, drop-cons, not, if◌then◌else◌, ◌==◌}
use Rattle.acpi_table_writer.specs.Words.{AllByRecursion, to_le_bytes, from_le_bytes, has_bit, number, spelling, ◌>>=◌, holds, Polarity, TriggerMode, Edge, Level, SameAsBus, flags_of, has_polarity, has_trigger, is_edge, is_low, all_checked, FlagsAreRead, flag_number, bit_of}
use Rattle.acpi_base.proofs.FromStd.{le_bytes_2, le_bytes_4, get_or, div-div-eq-div-mul, pow-succ', zero-div, pow_mono, length-drop}
use Rattle.acpi_base.proofs.Words.{length-spelling, number-spelling}
use Rattle.acpi_image.proofs.Written.{IsBytes-spelling}
use Rattle.acpi_base.specs.declared.model.interrupt.Polarity.TheVariants as polarity

pub one : (n : ℕ) → number (n ∷ []) ≡ n
one n = omega arith

pub is_off : (b : Bool) → not b ≡ true → b ≡ false
is_off true h = absurd cc
is_off false h = refl

abbrev pub mode : Bool → TriggerMode
mode edge = if edge then Edge else Level

pub mode_is : (t : TriggerMode) → has_trigger t ≡ true → mode (is_edge t) ≡ t
mode_is Edge has = refl
mode_is Level has = refl
mode_is SameAsBus has = absurd cc

abbrev pub way : Bool → Polarity
way low = if low then polarity.ActiveLow else polarity.ActiveHigh

pub way_is : (p : Polarity) → has_polarity p ≡ true → way (is_low p) ≡ p
way_is polarity.ActiveLow has = refl
way_is polarity.ActiveHigh has = refl
way_is polarity.SameAsBus has = absurd cc

-- ---- checks

pub was_true : {E : Type 0} (b : Bool) (e : E) → holds b e ≡ Ok tt → b ≡ true
was_true true e good = refl
was_true false e good = absurd cc

pub first_good : {E : Type 0} (r : Result (Unit {0}) E) (f : Unit {0} → Result (Unit {0}) E) → (r >>= f) ≡ Ok tt
    → (r ≡ Ok tt) × (f tt ≡ Ok tt)
first_good (Ok tt) f good = (refl, good)
first_good (Err e) f good = absurd cc

pub each_good : {X E : Type 0} (f : X → Result (Unit {0}) E) (xs : List X) → all_checked f xs ≡ Ok tt
    → AllByRecursion (λ x. f x ≡ Ok tt) xs
each_good f [] good = tt
each_good f (x ∷ xs) good =
    let p = first_good (f x) (λ _. all_checked f xs) good in
    (p.0, each_good f xs p.1)

-- ---- the bytes of numbers

pub four_bytes : (n : ℕ) → n < 2 ^ 32 → to_le_bytes w32 n ≡ spelling 4 n
unfolding spelling
four_bytes n small =
    let value : n ≡ from_le_bytes w32 (spelling 4 n) = omega (arith, number-spelling 4 n (omega arith)) in
    le_bytes_4 (spelling 4 n) n (length-spelling 4 n) (IsBytes-spelling 4 n) value

pub two_bytes : (n : ℕ) → n < 2 ^ 16 → to_le_bytes w16 n ≡ spelling 2 n
unfolding spelling
two_bytes n small =
    let value : n ≡ from_le_bytes w16 (spelling 2 n) = omega (arith, number-spelling 2 n (omega arith)) in
    le_bytes_2 (spelling 2 n) n (length-spelling 2 n) (IsBytes-spelling 2 n) value

-- ---- flags in a number

pub bit_small : (b : Bool) → bit_of b < 2
bit_small true = omega arith
bit_small false = omega arith

pub flags_small : (bs : List Bool) → flag_number bs < 2 ^ length bs
unfolding flag_number
flags_small [] = omega arith
flags_small (b ∷ bs) = rw (pow-succ' 2 (length bs)) (omega (arith, bit_small b, flags_small bs))

flags_cons : (b : Bool) (bs : List Bool) → flag_number (b ∷ bs) ≡ bit_of b + 2 * flag_number bs
unfolding flag_number
flags_cons b bs = refl

-- the flags from a place on
pub flags_more : (bs : List Bool) (i : ℕ) → i < length bs
    → flag_number (drop i bs) ≡ bit_of (get_or bs i false) + 2 * flag_number (drop (i + 1) bs)
flags_more bs i h = ap flag_number (rw add-one (drop-cons bs i false h))
    ∙ flags_cons (get_or bs i false) (drop (i + 1) bs)

pub flags_none : (bs : List Bool) → 0 ≡ flag_number (drop (length bs) bs)
unfolding flag_number
flags_none [] = refl
flags_none (b ∷ bs) = flags_none bs

-- so few flags make no more than this
pub flags_few : (bs : List Bool) (i : ℕ) → length bs < 33 → 0 < i → flag_number (drop i bs) < 2 ^ 31
flags_few bs i short some =
    let less : length (drop i bs) ≤ 31 = omega (arith, length-drop i bs) in
    omega (arith, flags_small (drop i bs), pow_mono less)

bit_first : (b : Bool) (m : ℕ) → has_bit (bit_of b + 2 * m) zero ≡ b
bit_first true m =
    let odd : (1 + 2 * m) / 1 % 2 ≡ 1 = omega arith in
    rw odd refl
bit_first false m =
    let none : (0 + 2 * m) / 1 % 2 ≡ 0 = omega arith in
    rw none refl

half : (b : Bool) (m : ℕ) → (bit_of b + 2 * m) / 2 ≡ m
half b m = omega (arith, bit_small b)

bit_next : (b : Bool) (m k : ℕ) → has_bit (bit_of b + 2 * m) (suc k) ≡ has_bit m k
bit_next b m k =
    let shift : (bit_of b + 2 * m) / 2 ^ suc k ≡ m / 2 ^ k = ap (λ n. (bit_of b + 2 * m) / n) (pow-succ' 2 k)
    ∙ sym (div-div-eq-div-mul (bit_of b + 2 * m) 2 (2 ^ k)) ∙ ap (λ n. n / 2 ^ k) (half b m) in
    ap (λ n. n % 2 == 1) shift

no_bit : (k : ℕ) → has_bit 0 k ≡ false
no_bit k = ap (λ n. n % 2 == 1) (zero-div (2 ^ k))

pub flags_read : FlagsAreRead
unfolding flag_number
flags_read [] k = no_bit k
flags_read (b ∷ bs) zero = bit_first b (flag_number bs)
flags_read (b ∷ bs) (suc k) = bit_next b (flag_number bs) k ∙ flags_read bs k

pub flag_bits : (a b c d : Bool)
    → (has_bit (flags_of a b c d) 0 ≡ a) × (has_bit (flags_of a b c d) 1 ≡ b)
    × (has_bit (flags_of a b c d) 2 ≡ c) × (has_bit (flags_of a b c d) 3 ≡ d)
unfolding flag_number
flag_bits a b c d =
    let flags = a ∷ b ∷ c ∷ d ∷ [] in
    let same : flags_of a b c d ≡ flag_number flags = omega arith in
    let bit = λ (k : ℕ). ap (λ n. has_bit n k) same ∙ flags_read flags k in
    (bit 0, bit 1, bit 2, bit 3)

pub two_bits : (a b : Bool) → (has_bit (bit_of a + 2 * bit_of b) 0 ≡ a) × (has_bit (bit_of a + 2 * bit_of b) 1 ≡ b)
unfolding flag_number
two_bits a b =
    let same : bit_of a + 2 * bit_of b ≡ flag_number (a ∷ b ∷ []) = omega arith in
    (ap (λ n. has_bit n 0) same ∙ flags_read (a ∷ b ∷ []) 0, ap (λ n. has_bit n 1) same ∙ flags_read (a ∷ b ∷ []) 1)
