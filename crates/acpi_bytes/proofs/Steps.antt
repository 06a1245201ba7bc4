-- What a chain of checks that answers Ok went through.
use Rattle.std.proofs.Common.{◌≡◌, ℕ, Bool, true, false, List, Option, None, Some, Result, Ok, Err, refl, ok_or}
use Rattle.acpi_bytes.specs.Words.{◌>>=◌, holds, MapFailed}

-- ---- a value that was answered

abbrev pub done : {A E : Type 0} → A → Result A E
done x = Ok x

pub same_ok : {A E : Type 0} (x y : A) → done {A = A} {E = E} x ≡ done y → x ≡ y
same_ok x y e = cc

pub some_lent : (o : Option (List ℕ)) (bytes : List ℕ) → ok_or o MapFailed ≡ Ok bytes → o ≡ Some bytes
some_lent None bytes e = absurd cc
some_lent (Some s) bytes e = cc

-- ---- the steps after it

pub bind_ok : {A B E : Type 0} (r : Result A E) (f : A → Result B E) (y : B) → (r >>= f) ≡ Ok y
    → (x : A) × (r ≡ Ok x) × (f x ≡ Ok y)
bind_ok (Ok x) f y e = (x, refl, e)
bind_ok (Err d) f y e = absurd cc

pub holds_ok : {A E : Type 0} (b : Bool) (d : E) (f : Unit {0} → Result A E) (y : A) → (holds b d >>= f) ≡ Ok y
    → (b ≡ true) × (f tt ≡ Ok y)
holds_ok true d f y e = (refl, e)
holds_ok false d f y e = absurd cc
