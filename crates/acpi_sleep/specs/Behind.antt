-- What follows the result's package doesn't matter, nor what follows the scope of the root that it is in.
use Rattle.std.specs.Prelude.{◌≡◌, ℕ, List, ◌++◌, Ok}
use Rattle.acpi_sleep.specs.Steps.{sleep_types_of}
use Rattle.acpi_sleep.specs.declared.sleep.SleepAnswer.TheVariants.{Types}
use Rattle.acpi_sleep.specs.declared.sleep.SleepTypes.{SleepTypes}

abbrev pub NothingBehindMatters : Type 0
NothingBehindMatters = (aml more : List ℕ) (state : ℕ) (types : SleepTypes)
    → sleep_types_of aml state ≡ Ok (Types types) → sleep_types_of (aml ++ more) state ≡ Ok (Types types)
