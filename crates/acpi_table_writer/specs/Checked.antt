-- What is checked of each thing in a list before a table is written.
use Rattle.std.specs.Prelude.{List, [], ◌∷◌, Result, Ok}
use Rattle.acpi_base.specs.Words.{◌>>=◌}

-- the first error
abbrev pub all_checked : {X E : Type 0} → (X → Result (Unit {0}) E) → List X → Result (Unit {0}) E
all_checked f [] = Ok tt
all_checked f (x ∷ xs) = do
  _ ← f x
  all_checked f xs
