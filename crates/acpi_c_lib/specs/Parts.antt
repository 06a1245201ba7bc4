-- What C gets of a list from an item on, so that a few places serve a list of any length.
use Rattle.std.specs.Prelude.{◌≡◌, ℕ, List, [], drop, length, Result, Ok, Err}
use Rattle.acpi_c_lib.specs.Answers.{Answers, put_from, result_map}
use Rattle.acpi_c_lib.specs.Records as records
use Rattle.acpi_c_lib.specs.Types.{Refusal}

-- this is how many items there are, and those from an index on were written as far as the capacity reaches
abbrev pub WritesFrom : {X : Type 0} → ℕ → ℕ → List X → List X → List X → Type 0
WritesFrom from count old new xs = (count ≡ length xs) × (new ≡ put_from old 0 (drop from xs))

-- the items of a result from an index on; an error has none
abbrev pub items_from : {X : Type 0} → ℕ → Result (List X) Refusal → List X
items_from from (Ok xs) = drop from xs
items_from from (Err e) = []

-- how many items there are, or the error; and those from an index on were written as far as the capacity reaches
abbrev pub FillsFrom : {X : Type 0} → ℕ → Result ℕ Refusal → List X → List X → Result (List X) Refusal → Type 0
FillsFrom from count old new expected = (count ≡ result_map length expected) × (new
    ≡ put_from old 0 (items_from from expected))

-- how many items there are is returned as any value is, and those from an index on were written as far as the capacity
-- reaches
abbrev pub AnswersListFrom : {X : Type 0} → ℕ → ℕ → List X → List X → ℕ → ℕ → records.Signature → records.Signature
    → Result (List X) Refusal → Type 0
AnswersListFrom from status old new old_count new_count old_name new_name expected =
    Answers status old_count new_count old_name new_name (result_map length expected)
    × (new ≡ put_from old 0 (items_from from expected))
