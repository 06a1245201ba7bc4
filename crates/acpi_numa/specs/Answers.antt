-- What calls of this crate return.
use Rattle.std.specs.Prelude.{◌≡◌, ◌⊎◌, Result, Ok, Err}
use Rattle.acpi.specs.Types.{AcpiError, AllocError}
use Rattle.acpi_numa.specs.declared.error.NumaError.{NumaError}
use Rattle.acpi_numa.specs.declared.error.NumaError.TheVariants.{Acpi}

-- the result over the table that a lookup finds, or the lookup's error `e` as `Acpi e`
abbrev pub joined : {A : Type 0} → Result (Result A NumaError) AcpiError → Result A NumaError
joined (Ok expected) = expected
joined (Err e) = Err (Acpi e)

-- what a call returned is the definition's, or AllocError, and that only if `Asks` holds
abbrev pub AnswersOrFull : {X : Type 0} → Type 0 → Result X NumaError → Result X NumaError → Type 0
AnswersOrFull Asks answer expected = (answer ≡ expected) ⊎ (Asks × (answer ≡ Err (Acpi AllocError)))
