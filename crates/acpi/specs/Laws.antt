-- What holds of the definitions.
use Rattle.std.specs.Prelude.{◌≡◌, ℕ, ◌<◌, List, ◌∷◌, ◌++◌, Ok, IsErr, IsOk, ◌↔◌}
use Rattle.acpi_base.specs.Words.{IsBytes, Memory, Kind, table_at}
use Rattle.acpi.specs.Lists.{faults_of}
use Rattle.acpi.specs.Lookup.{IsFirstValid, lookup}
use Rattle.acpi.specs.Search.{area, second_area}
use Rattle.acpi.specs.Root.{IsPointers, pointers}

-- bytes encode exactly one list of pointers, the one that is computed
abbrev pub OnePointers : Type 0
OnePointers = (width : ℕ) (bytes ps : List ℕ) → 0 < width → IsBytes bytes
    → IsPointers width bytes ps ↔ (ps ≡ pointers width bytes)

-- a lookup returns a table exactly if it is the first valid one
abbrev pub LookupIsFirst : Type 0
LookupIsFirst = (m : Memory) (k : Kind) (ps : List ℕ) (p : ℕ) (table : List ℕ)
    → (lookup m k ps ≡ Ok (p, table)) ↔ IsFirstValid m k ps p table

-- a member that isn't valid, put anywhere into the list, changes nothing in the lookup's result
abbrev pub SkipsInvalid : Type 0
SkipsInvalid = (m : Memory) (k : Kind) (p : ℕ) (before after : List ℕ) → IsErr (table_at m k p)
    → lookup m k (before ++ p ∷ after) ≡ lookup m k (before ++ after)

-- a valid member ends the faults: neither it nor a member after it is one
abbrev pub ValidEndsFaults : Type 0
ValidEndsFaults = (m : Memory) (k : Kind) (p : ℕ) (before after : List ℕ) → IsOk (table_at m k p)
    → faults_of m k (before ++ p ∷ after) ≡ faults_of m k before

-- where the second area of the search is, by the word that names it
abbrev pub SecondAreas : Type 0
SecondAreas =
    (second_area 0x9fc0 ≡ area 0x9fc00 0xa0000)
    × (second_area 0 ≡ area 0x80000 0xa0000)
    × (second_area 0xa000 ≡ area 0x80000 0xa0000)
    × (second_area 0x9fff ≡ area 0x9fff0 0xa03f0)
