-- What inputs give: the bytes of files, and tables.
use Rattle.std.specs.Prelude.{◌≡◌, ◌⊎◌, ◌==◌, ◌&&◌, nat_eq, nat_lt, ℕ, Bool, true, List, [], ◌∷◌, ◌++◌, All, Contains, codes, drop, if◌then◌else◌, map, Ok}
use Rattle.acpi_base.specs.FromStd.{starts_with}
use Rattle.acpi_dump_input.specs.DumpText.{Spelled, tables_of}

-- ---- files

-- the inputs that are read: where Linux shows the machine's own tables, if none is named
abbrev pub own_tables : List ℕ
own_tables = codes "/sys/firmware/acpi/tables"

abbrev pub inputs_read : List (List ℕ) → List (List ℕ)
inputs_read [] = own_tables ∷ []
inputs_read (name ∷ names) = name ∷ names

-- a file that is read for an input: what it names, or a file of the folder that it names
abbrev pub IsFileOf : List ℕ → List ℕ → Type 0
IsFileOf input path = (path ≡ input)
    ⊎ ((folder : List ℕ) × (name : List ℕ)
    × ((input ≡ folder) ⊎ (input ≡ folder ++ codes "/")) × (path ≡ folder ++ codes "/" ++ name))

-- ---- bytes

-- a text in UTF-16 whose lower bytes come first, by its mark
abbrev pub is_wide : List ℕ → Bool
is_wide bytes = starts_with nat_eq bytes (255 ∷ 254 ∷ [])

-- the letter of two bytes, or `?` if it isn't ASCII
abbrev pub letter_of : ℕ → ℕ → ℕ
letter_of low high = if high == 0 && nat_lt low 128 then low else 63

-- the letters of a text in UTF-16, after its mark
abbrev pub letters_of : List ℕ → List ℕ
letters_of [] = []
letters_of (low ∷ []) = 63 ∷ []
letters_of (low ∷ high ∷ bytes) = letter_of low high ∷ letters_of bytes

-- bytes as they are read: those that a file has, or the letters of a text in UTF-16
abbrev pub IsReadAs : List ℕ → List ℕ → Type 0
IsReadAs given bytes = (bytes ≡ given) ⊎ ((is_wide given ≡ true) × (bytes ≡ letters_of (drop 2 given)))

-- bytes that a file of this path has, by what files give: the bytes that each may have
pub record IsReadAt (gives : List ℕ → List ℕ → Type 0) (path bytes : List ℕ) : Type 0 where
  pub given : List ℕ
  pub gave : gives path given
  pub read : IsReadAs given bytes

-- bytes of a file that is read for an input
pub record IsReadFor (gives : List ℕ → List ℕ → Type 0) (input bytes : List ℕ) : Type 0 where
  pub path : List ℕ
  pub file : IsFileOf input path
  pub at : IsReadAt gives path bytes

-- ---- tables

-- a table that a file's bytes are, or that they spell as a text
abbrev pub HasTable : List ℕ → List ℕ → Type 0
HasTable bytes table = (table ≡ bytes)
    ⊎ ((spelled : List Spelled) × (tables_of bytes ≡ Ok spelled) × Contains (map (λ s. s.bytes) spelled) table)

-- a table of a file of this path
pub record GivesTableAt (gives : List ℕ → List ℕ → Type 0) (path table : List ℕ) : Type 0 where
  pub bytes : List ℕ
  pub read : IsReadAt gives path bytes
  pub has : HasTable bytes table

-- a table of an input
pub record GivesTable (gives : List ℕ → List ℕ → Type 0) (input table : List ℕ) : Type 0 where
  pub bytes : List ℕ
  pub read : IsReadFor gives input bytes
  pub has : HasTable bytes table

-- a table of one of these inputs
abbrev pub GiveTable : (List ℕ → List ℕ → Type 0) → List (List ℕ) → List ℕ → Type 0
GiveTable gives inputs table = (input : List ℕ) × Contains inputs input × GivesTable gives input table

-- tables grew by some of which each is such a one
pub record Grows (P : List ℕ → Type 0) (before after : List (List ℕ)) : Type 0 where
  pub added : List (List ℕ)
  pub grown : after ≡ before ++ added
  pub fit : All P added
