-- Checks in a row, written with `do`: each line is a check or a value, and the error is that of the first that fails.
-- And calls that return what is defined.
use Rattle.std.specs.Prelude.{◌≡◌, ◌⊎◌, ℕ, Bool, List, Result, Ok, Err, if◌then◌else◌, ok_or}
use Rattle.acpi_bytes.specs.Types.{AcpiError, AllocError, MapFailed}
use Rattle.acpi_bytes.specs.Memory.{Memory, at}

infixl 10 ◌>>=◌
abbrev pub ◌>>=◌ : {A B E : Type 0} → Result A E → (A → Result B E) → Result B E
(Ok x) >>= f = f x
(Err e) >>= f = Err e

-- a check that fails with this error
abbrev pub holds : {E : Type 0} → Bool → E → Result (Unit {0}) E
holds b e = if b then Ok tt else Err e

-- the n bytes at an address, or MapFailed
abbrev pub lent : Memory → ℕ → ℕ → Result (List ℕ) AcpiError
lent m a n = ok_or (at m a n) MapFailed

-- what a call returned, seen by view, is the definition's: its value, or its error. So one clause states both
-- outcomes, each error, and their order
abbrev pub Gives : {X Y E : Type 0} → (X → Y) → Result X E → Result Y E → Type 0
Gives view (Ok x) expected = expected ≡ Ok (view x)
Gives view (Err e) expected = expected ≡ Err e

-- what a call returned is the definition's, or AllocError, and that only if `Asks` holds
abbrev pub GivesOrFull : {X : Type 0} → Type 0 → Result X AcpiError → Result X AcpiError → Type 0
GivesOrFull Asks answer expected = (answer ≡ expected) ⊎ (Asks × (answer ≡ Err AllocError))
