-- The files that a program saves.
use Rattle.std.specs.Prelude.{ℕ, List, map, Result, string_bytes}
use Rattle.acpi_cli.specs.declared.save.SaveError.{SaveError}
use Rattle.acpi_cli.specs.declared.storage.Saved.{Saved}

-- a file that was to be saved: its name, the names of the files that it was made from, its bytes, and
-- whether it is saved, or why not
pub record FileSaved : Type 0 where
  pub name : List ℕ
  pub sources : List (List ℕ)
  pub bytes : List ℕ
  pub answer : Result (Unit {0}) SaveError

abbrev pub saved_of : Saved → FileSaved
saved_of s = record {
  name = string_bytes s.name;
  sources = map string_bytes s.sources.items;
  bytes = s.bytes.items;
  answer = s.answer;
}
