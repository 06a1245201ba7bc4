-- What is saved: --extract tables, each as a file of one folder, --html a page as one file.
use Rattle.std.specs.Prelude.{◌≡◌, ◌⊎◌, ◌≢◌, ◌<◌, ℕ, Bool, true, false, ◌==◌, List, [], ◌∷◌, ◌++◌, All, Contains, codes, length, Result, Ok, Err}
use Rattle.std.specs.List.{list_any}
use Rattle.acpi_cli.specs.Saves.{FileSaved}
use Rattle.acpi_cli.specs.declared.save.SaveError.{SaveError}

-- whether something may be left out: after an error, and else if the run is marked as incomplete
abbrev pub is_partial : {A E : Type 0} → Result A E → Bool → Bool
is_partial (Ok x) is_incomplete = is_incomplete
is_partial (Err e) is_incomplete = true

-- ---- one file

-- a file of this path that was to be saved, with these bytes, which were made of these inputs
abbrev pub file_of : List (List ℕ) → List ℕ → List ℕ → Result (Unit {0}) SaveError → FileSaved
file_of inputs path bytes answer = record { name = path; sources = inputs; bytes = bytes; answer = answer }

-- whether it is saved: if so, one request to save it was made. If not, the run is marked as incomplete, and the request
-- failed, or none was made
abbrev pub SavesFile : List (List ℕ) → List ℕ → List ℕ → Bool → List FileSaved → List FileSaved → Bool → Type 0
SavesFile inputs path bytes is_incomplete before after true = after ≡ before ++ file_of inputs path bytes (Ok tt) ∷ []
SavesFile inputs path bytes is_incomplete before after false = (is_incomplete ≡ true)
    × ((after ≡ before) ⊎ ((why : SaveError) × (after ≡ before ++ file_of inputs path bytes (Err why) ∷ [])))

-- ---- a page

-- the text of a page is saved as the file of a path, but not at `-`, which is standard output
abbrev pub SavesPage : List (List ℕ) → List ℕ → List ℕ → Bool → List FileSaved → List FileSaved → Type 0
SavesPage inputs path text is_incomplete before after = ((path ≡ codes "-") × (after ≡ before))
    ⊎ ((path ≢ codes "-") × (is_saved : Bool) × SavesFile inputs path text is_incomplete before after is_saved)

-- ---- tables

-- the path of a file of this name in a folder: no slash leads elsewhere, and no zero ends it
abbrev pub IsNamed : List ℕ → List ℕ → List ℕ → Type 0
IsNamed folder name path =
    (list_any (λ c. c == 47) name ≡ false) × (list_any (λ c. c == 0) name ≡ false)
    × (path ≡ folder ++ codes "/" ++ name ++ codes ".dat")

-- a file in the folder itself, with the bytes of one of these tables
pub record IsTable (inputs : List (List ℕ)) (folder : List ℕ) (tables : List (List ℕ)) (f : FileSaved) : Type 0 where
  pub name : List ℕ
  pub named : IsNamed folder name f.name
  pub sources : f.sources ≡ inputs
  pub bytes : Contains tables f.bytes

-- one of these files is saved, and has these bytes
pub record IsSaved (files : List FileSaved) (bytes : List ℕ) : Type 0 where
  pub file : FileSaved
  pub there : Contains files file
  pub same : file.bytes ≡ bytes
  pub saved : file.answer ≡ Ok tt

-- what was to be saved grew by such files alone, and unless something is left out each table that is wanted and has a
-- byte is saved
pub record SavesWanted (inputs : List (List ℕ)) (folder : List ℕ) (tables wanted : List (List ℕ)) (is_partial : Bool)
    (before after : List FileSaved) : Type 0 where
  pub added : List FileSaved
  pub grown : after ≡ before ++ added
  pub fit : All (IsTable inputs folder tables) added
  pub whole : is_partial ≡ false → All (λ t. 0 < length t → IsSaved added t) wanted

-- all of these tables are wanted
abbrev pub SavesTables : List (List ℕ) → List ℕ → List (List ℕ) → Bool → List FileSaved → List FileSaved → Type 0
SavesTables inputs folder tables is_partial before after =
    SavesWanted inputs folder tables tables is_partial before after
