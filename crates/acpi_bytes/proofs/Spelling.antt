-- The numbers that bytes encode, each of which has one spelling in so many bytes, and their texts.
use Rattle.std.proofs.Common.{◌≡◌, ℕ, true, false, zero, suc, ◌+◌, ◌*◌, ◌^◌, ◌%◌, ◌/◌, ◌<◌, List, [], ◌∷◌, length, take, drop, drop-cons, refl, ap, arith, inl, inr, ◌≤◌, lit<, w64, w8, Fits, get_or, ◌++◌, sym, ◌∙◌, IsAscii, IsUtf8, replicate}
use Rattle.acpi_bytes.proofs.FromStd.{cases_lt, length-take, get_or-drop, get_or-take, get_or_past, drop-replicate, div-lt_iff_lt-mul, pow_mono, false_from_ne_true, is_utf8-from_IsUtf8, IsUtf8-from_ascii, IsUtf8-from_is_utf8, pow-add}
use Rattle.acpi_bytes.specs.FromStd.{is_utf8, from_le_bytes}
use Rattle.acpi_bytes.specs.Words.{IsBytes, field_of, filled_part, number, part, spelling, FieldPastEnd}

pub IsBytes-drop : (n : ℕ) (bs : List ℕ) → IsBytes bs → IsBytes (drop n bs)
IsBytes-drop n bs h i = rw get_or-drop (h (n + i))

pub IsBytes-take : (n : ℕ) (bs : List ℕ) → IsBytes bs → IsBytes (take n bs)
IsBytes-take n bs h i =
    elim (cases_lt i n) [
      | inl lt ↦ rw (get_or-take n bs i 0 lt) (h i)
      | inr le ↦ rw (get_or_past (take n bs) i 0 (omega (arith, length-take n bs))) (omega arith)
    ]

pub length-spelling : (w n : ℕ) → length (spelling w n) ≡ w
unfolding spelling
length-spelling zero n = refl
length-spelling (suc w) n = ap suc (length-spelling w (n / 256))

pub number-spelling : (w n : ℕ) → n < 256 ^ w → number (spelling w n) ≡ n
unfolding spelling
number-spelling zero n h = omega arith
number-spelling (suc w) n h =
    let wide : n < 256 ^ w * 256 = omega (arith, h) in
    let less : n / 256 < 256 ^ w = (div-lt_iff_lt-mul {k = 256} {x = n} {y = 256 ^ w} (omega arith)).1 wide in
    let rest = number-spelling w (n / 256) less in
    rw rest (omega arith)

pub spelling-number : (bs : List ℕ) → IsBytes bs → spelling (length bs) (number bs) ≡ bs
unfolding spelling
spelling-number [] h = refl
spelling-number (b ∷ bs) h =
    let byte : b < 256 = h 0 in
    let low : (b + 256 * number bs) % 256 ≡ b = omega arith in
    let high : (b + 256 * number bs) / 256 ≡ number bs = omega arith in
    let rest = spelling-number bs (λ i. h (suc i)) in
    rw (low, high, rest) refl

-- ---- how large a number is

-- filled up with zeros, they are the eight bytes of a number
pub number_filled : (bs : List ℕ) → length bs ≤ 8 → from_le_bytes w64 (filled_part bs 0 8) ≡ number bs
number_filled [] le = refl
number_filled (a ∷ []) le = omega arith
number_filled (a ∷ b ∷ []) le = omega arith
number_filled (a ∷ b ∷ c ∷ []) le = omega arith
number_filled (a ∷ b ∷ c ∷ d ∷ []) le = omega arith
number_filled (a ∷ b ∷ c ∷ d ∷ e ∷ []) le = omega arith
number_filled (a ∷ b ∷ c ∷ d ∷ e ∷ f ∷ []) le = omega arith
number_filled (a ∷ b ∷ c ∷ d ∷ e ∷ f ∷ g ∷ []) le = omega arith
number_filled (a ∷ b ∷ c ∷ d ∷ e ∷ f ∷ g ∷ h ∷ []) le = omega arith
number_filled (a ∷ b ∷ c ∷ d ∷ e ∷ f ∷ g ∷ h ∷ i ∷ js) le = absurd (omega arith)

-- one byte more
byte_more : (b m k : ℕ) → b < 256 → m < 2 ^ (8 * k) → b + 256 * m < 2 ^ (8 * (suc k))
byte_more b m k hb hm =
    let e : 2 ^ (8 * (suc k)) ≡ 2 ^ (8 + 8 * k) = ap (λ x. 2 ^ x) (omega arith) in
    let f : 2 ^ (8 + 8 * k) ≡ 2 ^ 8 * 2 ^ (8 * k) = pow-add 2 8 (8 * k) in
    omega (arith, e, f)

-- bytes encode a number of as many bytes
pub number_below : (bs : List ℕ) → IsBytes bs → number bs < 2 ^ (8 * length bs)
number_below [] h = lit< tt
number_below (b ∷ bs) h = byte_more b (number bs) (length bs) (h 0) (number_below bs (λ i. h (suc i)))

-- of bytes that are given as the numbers of a `u8` each
pub field_fits : (bs : List ℕ) (offset n : ℕ) → ((i : ℕ) → Fits w8 (get_or bs i 0)) → field_of bs offset n < 2 ^ (8 * n)
unfolding field_of
field_fits bs offset n h =
    let wide : 8 * length (part bs offset n) ≤ 8 * n = omega (arith, length-take n (drop offset bs)) in
    omega (
      arith,
      number_below (part bs offset n)
          (IsBytes-take n (drop offset bs) (IsBytes-drop offset bs (λ i. omega (arith, h i)))),
      pow_mono wide,
    )

-- ---- zeros after the bytes change no number

zeros_number : (n count : ℕ) → number (take n (replicate count 0)) ≡ 0
zeros_number zero count = refl
zeros_number (suc n) zero = refl
zeros_number (suc n) (suc count) = omega (arith, zeros_number n count)

front_past : (bytes : List ℕ) (count n : ℕ) → number (take n (bytes ++ replicate count 0)) ≡ number (take n bytes)
front_past [] count zero = refl
front_past [] count (suc n) = zeros_number (suc n) count
front_past (b ∷ bytes) count zero = refl
front_past (b ∷ bytes) count (suc n) = omega (arith, front_past bytes count n)

part_past : (bytes : List ℕ) (count offset n : ℕ)
    → number (take n (drop offset (bytes ++ replicate count 0))) ≡ number (take n (drop offset bytes))
part_past bytes count zero n = front_past bytes count n
part_past [] count (suc offset) n =
    ap (λ s. number (take n s)) (drop-replicate (suc offset) count 0) ∙ zeros_number n _ ∙ sym (zeros_number n 0)
part_past (b ∷ bytes) count (suc offset) n = part_past bytes count offset n

pub field_past_end : FieldPastEnd
unfolding field_of
field_past_end bytes count offset n = part_past bytes count offset n

-- ---- bytes one by one

-- the six bytes of OEMID and the eight of OEM Table ID: one more byte before a part
more : (b : List ℕ) (k n : ℕ) (xs : List ℕ) → k < length b → xs ≡ part b (suc k) n
    → get_or b k 0 ∷ xs ≡ part b k (suc n)
more b k n xs h e = rw (drop-cons b k 0 h) (ap (λ l. get_or b k 0 ∷ l) e)

pub oem_id_part : (b : List ℕ) → 16 ≤ length b → get_or b 10 0 ∷ get_or b 11 0 ∷ get_or b 12 0 ∷ get_or b 13 0
    ∷ get_or b 14 0 ∷ get_or b 15 0 ∷ [] ≡ part b 10 6
oem_id_part b h = more b 10 5 _ (omega arith)
    (more b 11 4 _ (omega arith) (more b 12 3 _ (omega arith)
    (more b 13 2 _ (omega arith) (more b 14 1 _ (omega arith) (more b 15 0 _ (omega arith) refl)))))

pub oem_table_id_part : (b : List ℕ) → 24 ≤ length b → get_or b 16 0 ∷ get_or b 17 0 ∷ get_or b 18 0 ∷ get_or b 19 0
    ∷ get_or b 20 0 ∷ get_or b 21 0 ∷ get_or b 22 0 ∷ get_or b 23 0 ∷ [] ≡ part b 16 8
oem_table_id_part b h = more b 16 7 _ (omega arith)
    (more b 17 6 _ (omega arith) (more b 18 5 _ (omega arith)
    (more b 19 4 _ (omega arith) (more b 20 3 _ (omega arith)
    (more b 21 2 _ (omega arith) (more b 22 1 _ (omega arith) (more b 23 0 _ (omega arith) refl)))))))

-- ---- texts

pub is_text : (bs : List ℕ) → IsUtf8 bs → is_utf8 bs ≡ true
is_text bs text = is_utf8-from_IsUtf8 bs text

pub plain_text : (bs : List ℕ) → IsAscii bs → is_utf8 bs ≡ true
plain_text bs plain = is_text bs (IsUtf8-from_ascii bs plain)

pub no_text : (bs : List ℕ) → ¬ (IsUtf8 bs) → is_utf8 bs ≡ false
no_text bs bad = false_from_ne_true _ (λ t. bad (IsUtf8-from_is_utf8 bs t))
