-- What C gets of a result.
use Rattle.std.specs.Prelude.{◌≡◌, ℕ, ◌+◌, Bool, true, false, List, [], ◌∷◌, length, slice_set, Option, Some, None, Result, Ok, Err}
use Rattle.acpi_c_lib.specs.Codes.{code_of, signature_of}
use Rattle.acpi_c_lib.specs.Records as records
use Rattle.acpi_c_lib.specs.Types.{letters_of, Signature, Refusal}

-- whether something is so
abbrev pub flag : Bool → ℕ
flag true = 1
flag false = 0

-- what is made of the value, or the error
abbrev pub result_map : {A B E : Type 0} → (A → B) → Result A E → Result B E
result_map f (Ok x) = Ok (f x)
result_map f (Err e) = Err e

-- a signature as C has it, or else what was there
abbrev pub signature_or : records.Signature → Option Signature → records.Signature
signature_or old (Some s) = record { letters = letters_of s }
signature_or old None = old

-- the signature that an error carries, or else what was there
abbrev pub name_or : records.Signature → Refusal → records.Signature
name_or old e = signature_or old (signature_of e)

-- 0, and the value written; or the error's number, and nothing written but its signature
abbrev pub Answers : {A : Type 0} → ℕ → A → A → records.Signature → records.Signature → Result A Refusal → Type 0
Answers status old new old_name new_name (Ok x) = (status ≡ 0) × (new ≡ x) × (new_name ≡ old_name)
Answers status old new old_name new_name (Err e) =
    (status ≡ code_of e) × (new ≡ old) × (new_name ≡ name_or old_name e)

-- the same of a call whose errors carry no signature
abbrev pub AnswersPlain : {A : Type 0} → ℕ → A → A → Result A Refusal → Type 0
AnswersPlain status old new (Ok x) = (status ≡ 0) × (new ≡ x)
AnswersPlain status old new (Err e) = (status ≡ code_of e) × (new ≡ old)

-- ---- lists

-- items written over others, from an index on, as far as these reach
abbrev pub put_from : {X : Type 0} → List X → ℕ → List X → List X
put_from xs n [] = xs
put_from xs n (y ∷ ys) = put_from (slice_set xs n y) (n + 1) ys

-- this is how many items there are, and they were written as far as the capacity reaches
abbrev pub Writes : {X : Type 0} → ℕ → List X → List X → List X → Type 0
Writes count old new xs = (count ≡ length xs) × (new ≡ put_from old 0 xs)

-- the items of a result; an error has none
abbrev pub items_said : {X : Type 0} → Result (List X) Refusal → List X
items_said (Ok xs) = xs
items_said (Err e) = []

-- the items of a result, if another call doesn't fail
abbrev pub items_beside : {A X : Type 0} → Result A Refusal → Result (List X) Refusal → List X
items_beside (Ok x) expected = items_said expected
items_beside (Err e) expected = []

-- how many items there are, or the error; and the items were written as far as the capacity reaches
abbrev pub Fills : {X : Type 0} → Result ℕ Refusal → List X → List X → Result (List X) Refusal → Type 0
Fills count old new expected = (count ≡ result_map length expected) × (new ≡ put_from old 0 (items_said expected))

-- how many items there are is returned as any value is, and the items were written as far as the capacity reaches
abbrev pub AnswersList : {X : Type 0} → ℕ → List X → List X → ℕ → ℕ → records.Signature → records.Signature
    → Result (List X) Refusal → Type 0
AnswersList status old new old_count new_count old_name new_name expected =
    Answers status old_count new_count old_name new_name (result_map length expected)
    × (new ≡ put_from old 0 (items_said expected))

-- ---- values that are described

-- 0, and a value written of which this holds; or the error's number, and nothing written but its
-- signature
abbrev pub AnswersSome : {A B : Type 0} → (B → A → Type 0) → ℕ → A → A → records.Signature → records.Signature
    → Result B Refusal
    → Type 0
AnswersSome Is status old new old_name new_name (Ok x) = (status ≡ 0) × Is x new × (new_name ≡ old_name)
AnswersSome Is status old new old_name new_name (Err e) =
    (status ≡ code_of e) × (new ≡ old) × (new_name ≡ name_or old_name e)

-- a value of which this holds, or the error
abbrev pub GivesSome : {A B : Type 0} → (B → A → Type 0) → Result A Refusal → Result B Refusal → Type 0
GivesSome Is (Ok y) expected = (x : _) × (expected ≡ Ok x) × Is x y
GivesSome Is (Err e) expected = expected ≡ Err e
