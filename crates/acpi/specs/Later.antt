-- Of several candidates the first that is had.
use Rattle.std.specs.Prelude.{Result, Ok, Err}

-- what is found with a value, or what comes later if it is an error
abbrev pub or_later : {A B E : Type 0} → (A → B) → Result A E → B → B
or_later found (Ok x) later = found x
or_later found (Err e) later = later
