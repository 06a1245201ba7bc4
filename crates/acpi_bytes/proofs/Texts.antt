-- Texts a few bytes at a time: each step goes past the whole characters at their front.
use Rattle.std.proofs.Common.{◌≡◌, ℕ, Bool, true, false, zero, suc, ◌-◌, ◌<◌, ◌≤◌, List, [], ◌∷◌, length, take, drop, refl, ap, arith, inl, inr, IsUtf8, sym, subst, ◌∙◌, if◌then◌else◌}
use Rattle.std.specs.Char.{len_utf8}
use Rattle.acpi_bytes.specs.FromStd.{is_utf8, utf8_valid_len, valid_len_up_to}
use Rattle.acpi_bytes.proofs.FromStd.{IsCharBoundary-from_take, IsUtf8-append, IsUtf8-drop, IsUtf8-encode, IsUtf8-from_is_utf8, IsUtf8-nil, and_parts, both_ways, cases_lt, encode, encodes, false_from_ne_true, get_or_past, is_utf8-from_IsUtf8, len_utf8_bounds, length-append, length-drop, length-encode, length-take, scalar, scalars, take-append-drop, take-take, take_all, take_at, utf8_valid_len-IsUtf8, utf8_valid_len_le}
use Rattle.acpi_bytes.proofs.Spelling.{no_text, plain_text}

-- ---- the longest text at the front, among those of at most n bytes

front_if : (bs : List ℕ) (n : ℕ) (b : Bool) → is_utf8 (take (suc n) bs) ≡ b → IsUtf8 (take (valid_len_up_to bs n) bs)
    → IsUtf8 (take (if b then suc n else valid_len_up_to bs n) bs)
front_if bs n true e below = IsUtf8-from_is_utf8 _ e
front_if bs n false e below = below

front_up_to : (bs : List ℕ) (n : ℕ) → IsUtf8 (take (valid_len_up_to bs n) bs)
front_up_to bs zero = IsUtf8-nil
front_up_to bs (suc n) = front_if bs n (is_utf8 (take (suc n) bs)) refl (front_up_to bs n)

longest_if : (bs : List ℕ) (n k : ℕ) (b : Bool) → is_utf8 (take (suc n) bs) ≡ b → k ≤ suc n → IsUtf8 (take k bs)
    → (k ≤ n → k ≤ valid_len_up_to bs n) → k ≤ (if b then suc n else valid_len_up_to bs n)
longest_if bs n k true e le text below = le
longest_if bs n k false e le text below =
    elim (cases_lt k (suc n)) [
      | inl lt ↦ below (omega (arith, lt))
      | inr ge ↦
          let same : k ≡ suc n = omega (arith, ge, le) in
          absurd (both_ways _ e (is_utf8-from_IsUtf8 _ (subst (λ m. IsUtf8 (take m bs)) same text)))
    ]

longest_up_to : (bs : List ℕ) (n k : ℕ) → k ≤ n → IsUtf8 (take k bs) → k ≤ valid_len_up_to bs n
longest_up_to bs zero k le text = le
longest_up_to bs (suc n) k le text =
    longest_if bs n k (is_utf8 (take (suc n) bs)) refl le text (λ less. longest_up_to bs n k less text)

front : (bs : List ℕ) → IsUtf8 (take (utf8_valid_len bs) bs)
unfolding utf8_valid_len
front bs = front_up_to bs (length bs)

longest : (bs : List ℕ) (k : ℕ) → k ≤ length bs → IsUtf8 (take k bs) → k ≤ utf8_valid_len bs
unfolding utf8_valid_len
longest bs k le text = longest_up_to bs (length bs) k le text

pub whole_front : (bs : List ℕ) → IsUtf8 bs → utf8_valid_len bs ≡ length bs
whole_front bs text = utf8_valid_len-IsUtf8 bs text

-- ---- past the text at the front of four bytes

same_test : (a b : Bool) → (a ≡ true → b ≡ true) → (b ≡ true → a ≡ true) → a ≡ b
same_test true b f g = sym (f refl)
same_test false b f g = sym (false_from_ne_true b (λ t. both_ways false refl (g t)))

front_of_four : (bs : List ℕ) → IsUtf8 (take (utf8_valid_len (take 4 bs)) bs)
front_of_four bs =
    let n = utf8_valid_len (take 4 bs) in
    let few : n ≤ 4 = omega (arith, utf8_valid_len_le (take 4 bs), length-take 4 bs) in
    subst IsUtf8 (take-take n 4 bs few) (front (take 4 bs))

pub within_four : (bs : List ℕ) → utf8_valid_len (take 4 bs) ≤ length bs
within_four bs = omega (arith, utf8_valid_len_le (take 4 bs), length-take 4 bs)

past_text : (bs : List ℕ) → is_utf8 (drop (utf8_valid_len (take 4 bs)) bs) ≡ is_utf8 bs
past_text bs =
    let n = utf8_valid_len (take 4 bs) in
    let text = front_of_four bs in
    same_test _ _
    (λ t. is_utf8-from_IsUtf8 bs
    (subst IsUtf8 (take-append-drop n bs) (IsUtf8-append (take n bs) (drop n bs) text (IsUtf8-from_is_utf8 _ t))))
    (λ t. let whole = IsUtf8-from_is_utf8 bs t in
    is_utf8-from_IsUtf8 _ (IsUtf8-drop bs n whole (IsCharBoundary-from_take bs n whole (within_four bs) text)))

-- the same as code has it: what is left, of a part of the bytes
pub text_of_rest : (bs : List ℕ) (n : ℕ) (b : Bool) → n ≡ utf8_valid_len (take 4 bs) → is_utf8 bs ≡ b
    → is_utf8 (take (length bs - n) (drop n bs)) ≡ b
text_of_rest bs n b e whole =
    let all : take (length bs - n) (drop n bs) ≡ drop n bs = take_all _ _ (omega (arith, length-drop n bs)) in
    rw (all, e) (past_text bs ∙ whole)

pub no_bytes : (bs : List ℕ) → length bs ≡ 0 → is_utf8 bs ≡ true
no_bytes bs none = plain_text bs (λ i. rw (get_or_past bs i 0 (omega (arith, none))) (omega arith))

-- a text has a character of at most four bytes at its front
has_char : (bs cs : List ℕ) → scalars cs ≡ true → encodes cs ≡ bs → 0 < length bs → 0 < utf8_valid_len (take 4 bs)
has_char bs [] valid e some = absurd (omega (arith, ap length e, some))
has_char bs (c ∷ cs) valid e some =
    let bounds = len_utf8_bounds c in
    let k = len_utf8 c in
    let few = take 4 bs in
    let one : take k few ≡ encode c =
    take-take k 4 bs bounds.1 ∙ ap (take k) (sym e) ∙ take_at (encode c) (encodes cs) k (length-encode c) in
    let there : k ≤ length few =
    omega (arith, length-take 4 bs, ap length e, length-append (encode c) (encodes cs), length-encode c, bounds.1) in
    let valid_one = (and_parts (scalar c) (scalars cs) valid).0 in
    let text : IsUtf8 (take k few) = subst IsUtf8 (sym one) (IsUtf8-encode c valid_one) in
    omega (arith, longest few k there text, bounds.0)

pub no_text_of : (bs : List ℕ) → 0 < length bs → utf8_valid_len (take 4 bs) ≡ 0 → is_utf8 bs ≡ false
no_text_of bs some none = no_text bs (λ u. omega (arith, has_char bs u.0 u.1.0 u.1.1 some, none))
