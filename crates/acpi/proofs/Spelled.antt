-- The pointers that a root table's bytes encode.
use Rattle.std.proofs.Common.{◌≡◌, ℕ, zero, suc, ◌+◌, ◌-◌, ◌*◌, ◌/◌, ◌%◌, ◌^◌, ◌<◌, ◌≤◌, List, [], ◌∷◌, ◌++◌, length, take, drop, inl, inr, refl, sym, ap, ◌∙◌, arith, length-append, append_assoc, length-drop, Ok, ◌↔◌, replicate, flat_map}
use Rattle.acpi_base.specs.FromStd.{AllByRecursion}
use Rattle.acpi_base.proofs.FromStd.{length-replicate, append-nil, take-append-drop, take_at, drop_at, take_all, drop_all, length-take-le, cases_lt, mul-le-mul_left, pow-suc}
use Rattle.acpi_base.proofs.Words.{IsBytes-drop, IsBytes-take, length-spelling, number-spelling, table_bytes}
use Rattle.acpi_base.specs.Words.{IsBytes, number, spelling, accepted, field_of, Memory, IsMemory}
use Rattle.acpi.specs.Words.{OnePointers, IsPointers, accepted_root_at, pieces, pointers, root_kind, width_of, RootKind, Rsdt, Xsdt}

length-spelled : (width : ℕ) (ps : List ℕ) → length (flat_map (spelling width) ps) ≡ width * length ps
length-spelled width [] = omega arith
length-spelled width (p ∷ ps) = omega (arith, length-append {A = ℕ}, length-spelling, length-spelled width ps)

same_numbers : (width : ℕ) (ps qs : List ℕ) → 0 < width → AllByRecursion (λ p. p < 256 ^ width) ps
    → AllByRecursion (λ p. p < 256 ^ width) qs → flat_map (spelling width) ps ≡ flat_map (spelling width) qs → ps ≡ qs
same_numbers width [] [] w a b e = refl
same_numbers width [] (q ∷ qs) w a b e = absurd (omega (arith, ap length e, length-append {A = ℕ}, length-spelling))
same_numbers width (p ∷ ps) [] w a b e = absurd (omega (arith, ap length e, length-append {A = ℕ}, length-spelling))
same_numbers width (p ∷ ps) (q ∷ qs) w a b e =
    let front : spelling width p ≡ spelling width q =
    sym (take_at (spelling width p) (flat_map (spelling width) ps) width (length-spelling width p))
    ∙ ap (take width) e ∙ take_at (spelling width q) (flat_map (spelling width) qs) width
    (length-spelling width q) in
    let rest : flat_map (spelling width) ps ≡ flat_map (spelling width) qs =
    sym (drop_at (spelling width p) (flat_map (spelling width) ps) width (length-spelling width p))
    ∙ ap (drop width) e ∙ drop_at (spelling width q) (flat_map (spelling width) qs) width
    (length-spelling width q) in
    let first : p ≡ q = sym (number-spelling width p a.0) ∙ ap number front ∙ number-spelling width q b.0 in
    let others : ps ≡ qs = same_numbers width ps qs w a.1 b.1 rest in
    cc

add_one_le : (i j : ℕ) → i < j → i + 1 ≤ j
add_one_le i j l = omega arith

-- two multiples that are less than a width above one number are equal
same_multiple : (width n y z i j : ℕ) → y < width → z < width → width * i ≡ n + y → width * j ≡ n + z → y ≡ z
same_multiple width n y z i j ly lz ei ej =
    elim (cases_lt i j) [
      | inl less ↦ absurd (omega (arith, mul-le-mul_left width (add_one_le i j less)))
      | inr not_less ↦ elim (cases_lt j i) [
        | inl less ↦ absurd (omega (arith, mul-le-mul_left width (add_one_le j i less)))
        | inr not_more ↦ let same : i ≡ j = omega arith in let products : width * i ≡ width * j =
            ap (λ k. width * k) same in omega arith
      ]
    ]

same_pointers : (width : ℕ) (bytes ps qs : List ℕ) → 0 < width → IsPointers width bytes ps
    → IsPointers width bytes qs → ps ≡ qs
same_pointers width bytes ps qs w a b =
    let long_ps : width * length ps ≡ length bytes + a.spelled.0 =
    sym (length-spelled width ps) ∙ ap length a.spelled.2 ∙ length-append bytes (replicate a.spelled.0 0)
    ∙ ap (λ n. length bytes + n) (length-replicate a.spelled.0 0) in
    let long_qs : width * length qs ≡ length bytes + b.spelled.0 =
    sym (length-spelled width qs) ∙ ap length b.spelled.2 ∙ length-append bytes (replicate b.spelled.0 0)
    ∙ ap (λ n. length bytes + n) (length-replicate b.spelled.0 0) in
    let zeros : a.spelled.0 ≡ b.spelled.0 =
    same_multiple width (length bytes) a.spelled.0 b.spelled.0 (length ps) (length qs) a.spelled.1 b.spelled.1
    long_ps long_qs in
    same_numbers width ps qs w a.fit b.fit (a.spelled.2 ∙ ap (λ z. bytes ++ replicate z 0) zeros ∙ sym b.spelled.2)

spelling-zero : (width : ℕ) → spelling width 0 ≡ replicate (width - 0) 0
unfolding spelling
spelling-zero zero = refl
spelling-zero (suc width) = let l : suc width - 0 ≡ suc (width - 0) = omega arith in
    rw l (ap (λ s. 0 ∷ s) (spelling-zero width))

-- at most width bytes, filled up with zeros
spelling-filled : (width : ℕ) (bytes : List ℕ) → length bytes ≤ width → IsBytes bytes
    → spelling width (number bytes) ≡ bytes ++ replicate (width - length bytes) 0
unfolding spelling
spelling-filled width [] l a = spelling-zero width
spelling-filled zero (b ∷ bytes) l a = absurd (omega arith)
spelling-filled (suc width) (b ∷ bytes) l a =
    let low : (b + 256 * number bytes) % 256 ≡ b = omega (arith, a 0) in
    let high : (b + 256 * number bytes) / 256 ≡ number bytes = omega (arith, a 0) in
    let count : suc width - suc (length bytes) ≡ width - length bytes = omega arith in
    rw (low, high, count, spelling-filled width bytes (omega arith) (λ i. a (suc i))) refl

positive : (width : ℕ) → 0 < 256 ^ width
positive zero = omega arith
positive (suc width) = omega (arith, pow-suc 256 width, positive width)

number_small : (width : ℕ) (bytes : List ℕ) → length bytes ≤ width → IsBytes bytes → number bytes < 256 ^ width
number_small width [] l a = positive width
number_small zero (b ∷ bytes) l a = absurd (omega arith)
number_small (suc width) (b ∷ bytes) l a =
    omega (arith, pow-suc 256 width, number_small width bytes (omega arith) (λ i. a (suc i)), a 0)

within_none : (most width : ℕ) → pieces most width [] ≡ []
within_none zero width = refl
within_none (suc most) width = refl

short_are : (width : ℕ) (bytes : List ℕ) → length bytes ≤ width → 0 < length bytes → IsBytes bytes
    → IsPointers width bytes (number bytes ∷ [])
short_are width bytes l some a = record {
  fit = (number_small width bytes l a, tt);
  spelled = (
    width - length bytes,
    omega arith,
    append-nil (spelling width (number bytes))
        ∙ spelling-filled width bytes l a,
  );
}

long_are : (width : ℕ) (bytes ps : List ℕ) → width ≤ length bytes → 0 < width → IsBytes bytes
    → IsPointers width (drop width bytes) ps → IsPointers width bytes (number (take width bytes) ∷ ps)
long_are width bytes ps l w a rest =
    let long : length (take width bytes) ≡ width = length-take-le width bytes l in
    let none : width - length (take width bytes) ≡ 0 = omega arith in
    let first : spelling width (number (take width bytes)) ≡ take width bytes =
    spelling-filled width (take width bytes) (omega arith) (IsBytes-take width bytes a)
    ∙ ap (λ n. take width bytes ++ replicate n 0) none ∙ append-nil (take width bytes) in
    record {
      fit = (number_small width (take width bytes) (omega arith) (IsBytes-take width bytes a), rest.fit);
      spelled = (
        rest.spelled.0,
        rest.spelled.1,
        ap (λ s. s ++ flat_map (spelling width) ps) first ∙ ap (λ s. take width bytes ++ s) rest.spelled.2
            ∙ sym (append_assoc (take width bytes) (drop width bytes) (replicate rest.spelled.0 0))
            ∙ ap (λ s. s ++ replicate rest.spelled.0 0) (take-append-drop width bytes),
      );
    }

within_are : (most width : ℕ) (bytes : List ℕ) → length bytes ≤ most → 0 < width → IsBytes bytes
    → IsPointers width bytes (pieces most width bytes)
within_are zero width [] l w a = record { fit = tt; spelled = (0, w, refl) }
within_are zero width (b ∷ bytes) l w a = absurd (omega arith)
within_are (suc most) width [] l w a = record { fit = tt; spelled = (0, w, refl) }
within_are (suc most) width (b ∷ bytes) l w a =
    elim (cases_lt (length (b ∷ bytes)) width) [
      | inl short ↦ rw (
        take_all width (b ∷ bytes) (omega arith),
        drop_all width (b ∷ bytes) (omega arith),
        within_none most width,
      ) (short_are width (b ∷ bytes) (omega arith) (omega arith) a)
      | inr long ↦ long_are width (b ∷ bytes) (pieces most width (drop width (b ∷ bytes))) long w a
          (within_are most width (drop width (b ∷ bytes)) (omega (arith, length-drop width (b ∷ bytes))) w
          (IsBytes-drop width (b ∷ bytes) a))
    ]

pointers_are : (width : ℕ) (bytes : List ℕ) → 0 < width → IsBytes bytes → IsPointers width bytes (pointers width bytes)
unfolding pointers
pointers_are width bytes w a = within_are (length bytes) width bytes (omega arith) w a

pub one_pointers : OnePointers
one_pointers width bytes ps w a = (
  λ are. same_pointers width bytes ps (pointers width bytes) w are (pointers_are width bytes w a),
  λ same. rw same (pointers_are width bytes w a),
)

-- ---- the pointers that bytes encode, one at a time

-- more room than bytes changes nothing
pieces_any : (n k w : ℕ) (bs : List ℕ) → 1 ≤ w → length bs ≤ n → length bs ≤ k → pieces n w bs ≡ pieces k w bs
pieces_any zero zero w bs some hn hk = refl
pieces_any zero (suc k) w [] some hn hk = refl
pieces_any zero (suc k) w (b ∷ bs) some hn hk = absurd (omega arith)
pieces_any (suc n) zero w [] some hn hk = refl
pieces_any (suc n) zero w (b ∷ bs) some hn hk = absurd (omega arith)
pieces_any (suc n) (suc k) w [] some hn hk = refl
pieces_any (suc n) (suc k) w (b ∷ bs) some hn hk =
    let len = length-drop w (b ∷ bs) in
    ap (λ ps. number (take w (b ∷ bs)) ∷ ps)
    (pieces_any n k w (drop w (b ∷ bs)) some (omega (arith, len)) (omega (arith, len)))

pub pointers_step : (w : ℕ) (bs : List ℕ) → 1 ≤ w → 0 < length bs
    → pointers w bs ≡ field_of bs 0 w ∷ pointers w (drop w bs)
unfolding pointers field_of
pointers_step w [] some h = absurd (omega arith)
pointers_step w (b ∷ bs) some h =
    let len = length-drop w (b ∷ bs) in
    ap (λ ps. number (take w (b ∷ bs)) ∷ ps)
    (pieces_any (length bs) (length (drop w (b ∷ bs))) w (drop w (b ∷ bs)) some (omega (arith, len)) (omega arith))

pub pointers_none : (w : ℕ) (bs : List ℕ) → length bs ≡ 0 → pointers w bs ≡ []
unfolding pointers
pointers_none w [] h = refl
pointers_none w (b ∷ bs) h = absurd (omega arith)

pub pointers_after : (w : ℕ) (bs : List ℕ) → 1 ≤ w → pointers w (drop w bs) ≡ drop 1 (pointers w bs)
pointers_after w [] some =
    let len : length (drop w []) ≡ 0 = omega (arith, length-drop {A = ℕ} w []) in
    rw (pointers_none w (drop w []) len, pointers_none w [] refl) refl
pointers_after w (b ∷ bs) some = rw (pointers_step w (b ∷ bs) some (omega arith)) refl

-- ---- the bytes of a root table encode its pointers, and no others

some_width : (kind : RootKind) → 0 < width_of kind
some_width Rsdt = omega arith
some_width Xsdt = omega arith

pub root_pointers : (accept : ℕ) (m : Memory) (kind : RootKind) (address : ℕ) (root : List ℕ) → IsMemory m
    → accepted_root_at accept m kind address ≡ Ok root → (ps : List ℕ)
    → IsPointers (width_of kind) (drop 36 root) ps ↔ (ps ≡ pointers (width_of kind) (drop 36 root))
root_pointers accept m kind address root h e ps =
    one_pointers (width_of kind) (drop 36 root) ps (some_width kind)
    (IsBytes-drop 36 root (table_bytes m (accepted accept (root_kind kind)) address root h e))
