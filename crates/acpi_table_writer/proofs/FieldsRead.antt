-- What is written field by field is read field by field.
use Rattle.std.proofs.Common.{◌≡◌, ℕ, zero, suc, ◌+◌, ◌<◌, List, [], ◌∷◌, ◌++◌, length, take, drop, refl, sym, ap, ◌∙◌, arith, append_assoc, replicate, All, ◌*◌, flat_map, length-append}
use Rattle.acpi_base.proofs.FromStd.{append-nil, take_at, drop_at, drop-drop, length-replicate}
use Rattle.acpi_base.proofs.Words.{length-spelling, number-spelling}
use Rattle.acpi_table_writer.specs.Words.{field_of, number, part, field_at, offset_of, FitsField, field_bytes, field_size, field_value, fields_bytes, Field, U8, U16, U32, U64, Zeros}

pub field_long : (f : Field) → length (field_bytes f) ≡ field_size f
field_long (U8 n) = refl
field_long (U16 n) = length-spelling 2 n
field_long (U32 n) = length-spelling 4 n
field_long (U64 n) = length-spelling 8 n
field_long (Zeros n) = length-replicate {A = ℕ} n 0

-- things of one size, one after the other
pub each_long : {X : Type 0} (f : X → List ℕ) (k : ℕ) → ((x : X) → length (f x) ≡ k) → (xs : List X)
    → length (flat_map f xs) ≡ k * length xs
each_long f k long [] = omega arith
each_long f k long (x ∷ xs) = omega (arith, length-append (f x) (flat_map f xs), long x, each_long f k long xs)

zeros_are : (n : ℕ) → number (replicate n 0) ≡ 0
zeros_are zero = refl
zeros_are (suc n) = omega (arith, zeros_are n)

field_is : (f : Field) → FitsField f → number (field_bytes f) ≡ field_value f
field_is (U8 n) fits = omega arith
field_is (U16 n) fits = number-spelling 2 n (omega (arith, fits))
field_is (U32 n) fits = number-spelling 4 n (omega (arith, fits))
field_is (U64 n) fits = number-spelling 8 n (omega (arith, fits))
field_is (Zeros n) fits = zeros_are n

-- what is at an offset of what is left
pub part_in : (t rest : List ℕ) (o : ℕ) → drop o t ≡ rest → (k n : ℕ) → part t (o + k) n ≡ part rest k n
part_in t rest o e k n = ap (take n) (sym (drop-drop k o t) ∙ ap (drop k) e)

-- the bytes of the field at a place, whatever comes after the fields
part_front : (fs : List Field) (rest : List ℕ) (i : ℕ) → i < length fs
    → part (fields_bytes fs ++ rest) (offset_of fs i) (field_size (field_at fs i)) ≡ field_bytes (field_at fs i)
part_front [] rest i less = absurd (omega arith)
part_front (f ∷ fs) rest zero less =
    ap (take (field_size f)) (append_assoc (field_bytes f) (fields_bytes fs) rest)
    ∙ take_at (field_bytes f) (fields_bytes fs ++ rest) (field_size f) (field_long f)
part_front (f ∷ fs) rest (suc i) less =
    let more = fields_bytes fs ++ rest in
    let past : drop (field_size f) (fields_bytes (f ∷ fs) ++ rest) ≡ more =
    ap (drop (field_size f)) (append_assoc (field_bytes f) (fields_bytes fs) rest)
    ∙ drop_at (field_bytes f) more (field_size f) (field_long f) in
    part_in (fields_bytes (f ∷ fs) ++ rest) more (field_size f) past (offset_of fs i) _
    ∙ part_front fs rest i (omega arith)

-- and in bytes that have the fields from an offset on
pub part_of : (t rest : List ℕ) (o : ℕ) (fs : List Field) → drop o t ≡ fields_bytes fs ++ rest → (i : ℕ) → i < length fs
    → part t (o + offset_of fs i) (field_size (field_at fs i)) ≡ field_bytes (field_at fs i)
part_of t rest o fs e i less = part_in t (fields_bytes fs ++ rest) o e (offset_of fs i) _ ∙ part_front fs rest i less

-- of fields that fit, each is read where it is
pub read_in : (t rest : List ℕ) (o : ℕ) (fs : List Field) → drop o t ≡ fields_bytes fs ++ rest → All FitsField fs
    → (i : ℕ) → i < length fs
    → field_of t (o + offset_of fs i) (field_size (field_at fs i)) ≡ field_value (field_at fs i)
unfolding field_of
read_in t rest o fs e fits i less =
    ap number (part_of t rest o fs e i less) ∙ field_is (field_at fs i) (fits i (Zeros 0) less)

-- the same, where nothing comes after them
pub read_end : (t : List ℕ) (o : ℕ) (fs : List Field) → drop o t ≡ fields_bytes fs → All FitsField fs
    → (i : ℕ) → i < length fs
    → field_of t (o + offset_of fs i) (field_size (field_at fs i)) ≡ field_value (field_at fs i)
read_end t o fs e fits i less = read_in t [] o fs (e ∙ sym (append-nil (fields_bytes fs))) fits i less

pub read_front : (fs : List Field) (rest : List ℕ) → All FitsField fs → (i : ℕ) → i < length fs
    → field_of (fields_bytes fs ++ rest) (offset_of fs i) (field_size (field_at fs i)) ≡ field_value (field_at fs i)
unfolding field_of
read_front fs rest fits i less =
    ap number (part_front fs rest i less) ∙ field_is (field_at fs i) (fits i (Zeros 0) less)

pub read_at : (fs : List Field) → All FitsField fs → (i : ℕ) → i < length fs
    → field_of (fields_bytes fs) (offset_of fs i) (field_size (field_at fs i)) ≡ field_value (field_at fs i)
read_at fs fits i less = rw append-nil at (read_front fs [] fits i less)
