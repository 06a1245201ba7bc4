-- The files that a program requests.
use Rattle.std.specs.Prelude.{◌≡◌, ℕ, List, ◌++◌, map, Option, option_map, string_bytes}
use Rattle.acpi_pack_lib.specs.declared.files.Reading.{Reading}

-- a file that was requested: its name, and its bytes, or none if it can't be read
pub record FileRead : Type 0 where
  pub name : List ℕ
  pub content : Option (List ℕ)

abbrev pub read_of : Reading → FileRead
read_of r = record { name = string_bytes r.name; content = option_map (λ v. v.items) r.content }

abbrev pub names_of : List FileRead → List (List ℕ)
names_of reads = map (λ r. r.name) reads

abbrev pub contents_of : List FileRead → List (Option (List ℕ))
contents_of reads = map (λ r. r.content) reads

-- what was requested grew by the files of these names, each once and in this order
pub record Asks (names : List (List ℕ)) (before after : List FileRead) : Type 0 where
  pub reads : List FileRead
  pub names_are : names_of reads ≡ names
  pub grown : after ≡ before ++ reads

-- what was requested grew by the files of the names before those that are left
pub record AsksUntil (left names : List (List ℕ)) (before after : List FileRead) : Type 0 where
  pub front : List (List ℕ)
  pub names_are : names ≡ front ++ left
  pub asks : Asks front before after

-- what was requested grew by the files of the first of these names, or by none
abbrev pub AsksFront : List (List ℕ) → List FileRead → List FileRead → Type 0
AsksFront names before after = (left : List (List ℕ)) × AsksUntil left names before after
