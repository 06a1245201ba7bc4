-- Decoding a code gives the one value that has it.
use Rattle.std.proofs.Common.{◌≡◌, ℕ, Bool, true, false, List, [], ◌∷◌, Option, Some, None, Ok, Err, refl, cond, find, nat_le, ◌==◌, ok_or}
use Rattle.acpi_bytes.specs.FromStd.{AllByRecursion}
use Rattle.acpi_bytes.proofs.FromStd.{eqb-true}
use Rattle.acpi_bytes.specs.Types.{AcpiError, InvalidGenericAddress, AccessSize, AddressSpace, OemDefined, Undefined}
use Rattle.acpi_bytes.specs.Codes.{IsInverse, access_size_of, decoded, is_named_space, named_spaces, size_code, space_code, space_of}

-- ---- values in a list

-- the value is one, with this code
abbrev pub Has : {A : Type 0} → (A → Bool) → (A → ℕ) → A → ℕ → Type 0
Has is_value code_of x code = (is_value x ≡ true) × (code_of x ≡ code)

first_found : {A : Type 0} {E : Type 0} (is_value : A → Bool) (code_of : A → ℕ) (refusal : E) (code : ℕ) (y : A)
    (o : Option A) (x : A) (b : Bool) → (code_of y == code) ≡ b → is_value y ≡ true
    → (ok_or o refusal ≡ Ok x → Has is_value code_of x code)
    → ok_or (cond b (Some y) o) refusal ≡ Ok x → Has is_value code_of x code
first_found is_value code_of refusal code y o x true same here later e =
    let first : y ≡ x = cc in
    rw (← first) (here, eqb-true _ _ same)
first_found is_value code_of refusal code y o x false same here later e = later e

found : {A : Type 0} {E : Type 0} (is_value : A → Bool) (code_of : A → ℕ) (refusal : E) (code : ℕ) (xs : List A)
    (x : A) → AllByRecursion (λ y. is_value y ≡ true) xs → decoded code_of xs refusal code ≡ Ok x
    → Has is_value code_of x code
found is_value code_of refusal code [] x all e = absurd cc
found is_value code_of refusal code (y ∷ ys) x all e =
    first_found is_value code_of refusal code y (find (λ z. code_of z == code) ys) x (code_of y == code) refl all.0
    (found is_value code_of refusal code ys x all.1) e

refused_with : {A : Type 0} {E : Type 0} (o : Option A) (refusal : E) (e : E) → ok_or o refusal ≡ Err e → e ≡ refusal
refused_with None refusal e h = cc
refused_with (Some x) refusal e h = absurd cc

any_is : {A : Type 0} (xs : List A) → AllByRecursion (λ (x : A). true ≡ true) xs
any_is [] = tt
any_is (x ∷ xs) = (refl, any_is xs)

-- where each value is in the list, it decodes
pub by_list : {A : Type 0} {E : Type 0} (code_of : A → ℕ) (xs : List A) (refusal : E)
    → ((x : A) → decoded code_of xs refusal (code_of x) ≡ Ok x)
    → IsInverse (λ (x : A). true) code_of (decoded code_of xs refusal) refusal
by_list code_of xs refusal reads = record {
  each = λ x h. reads x;
  only = λ code x e. found (λ y. true) code_of refusal code xs x (any_is xs) e;
  refused = λ code e h. refused_with _ _ e h;
}

-- ---- registers

pub space_read : (s : AddressSpace) → is_named_space s ≡ true → space_of (space_code s) ≡ Ok s
space_read (OemDefined code) h = rw h refl
space_read _ h = refl

only_space : (code : ℕ) (s : AddressSpace) (b : Bool) → nat_le 0xc0 code ≡ b
    → cond b (Ok (OemDefined code)) (decoded space_code named_spaces InvalidGenericAddress code) ≡ Ok s
    → Has is_named_space space_code s code
only_space code s true own e =
    let same : OemDefined code ≡ s = cc in
    rw (← same) (own, refl)
only_space code s false named e =
    found is_named_space space_code _ code named_spaces s
    (refl, (refl, (refl, (refl, (refl, (refl, (refl, (refl, (refl, (refl, (refl, (refl, tt)))))))))))) e

space_refused : (code : ℕ) (e : AcpiError) (b : Bool)
    → cond b (Ok (OemDefined code)) (decoded space_code named_spaces InvalidGenericAddress code) ≡ Err e
    → e ≡ InvalidGenericAddress
space_refused code e true h = absurd cc
space_refused code e false h = refused_with _ _ e h

pub spaces_decode : IsInverse is_named_space space_code space_of InvalidGenericAddress
spaces_decode = record {
  each = space_read;
  only = λ code s e. only_space code s (nat_le 0xc0 code) refl e;
  refused = λ code e h. space_refused code e (nat_le 0xc0 code) h;
}

pub size_read : (s : AccessSize) → access_size_of (size_code s) ≡ Ok s
size_read Undefined = refl
size_read _ = refl
