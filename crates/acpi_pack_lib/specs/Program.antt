-- What the program does with its arguments, its files, its storage and its outputs.
use Rattle.std.specs.Prelude.{◌≡◌, ℕ, List, [], ◌∷◌, ◌++◌, Option, Some, None, Result, Ok, Err, string_bytes}
use Rattle.acpi_base.specs.FromStd.{Appends}
use Rattle.acpi_cli.specs.Save.{save_error_text}
use Rattle.acpi_cli.specs.Saves.{FileSaved}
use Rattle.acpi_cli.specs.declared.save.SaveError.{SaveError}
use Rattle.acpi_pack_lib.specs.Arguments.{Request, request_in, request_of}
use Rattle.acpi_pack_lib.specs.Outcome.{BecomesOf, refused_line}
use Rattle.acpi_pack_lib.specs.Reads.{Asks, FileRead, contents_of}
use Rattle.acpi_pack_lib.specs.Help.{help_or_version_of}
use Rattle.acpi_pack_lib.specs.declared.outcome.Outcome.{Outcome}
use Rattle.acpi_pack_lib.specs.declared.outcome.Outcome.TheVariants as outcome

-- ---- what is read

-- the files that are read: none for help, the version or no command
abbrev pub files_for : Option (List ℕ) → Option Request → List (List ℕ)
files_for None (Some r) = r.names
files_for _ _ = []

abbrev pub files_named : List (List ℕ) → List (List ℕ)
files_named arguments = files_for (help_or_version_of arguments) (request_in arguments)

-- the files that are named were requested, in order, and the outcome is that of the bytes that were read of them
pub record IsOutcomeFor (printed : Option (List ℕ)) (request : Option Request) (asked asked_after : List FileRead)
    (reached : Outcome) : Type 0 where
  pub asks : Asks (files_for printed request) asked asked_after
  pub becomes : BecomesOf printed request (contents_of asks.reads) reached

abbrev pub IsOutcome : List (List ℕ) → List FileRead → List FileRead → Outcome → Type 0
IsOutcome arguments asked asked_after reached =
    IsOutcomeFor (help_or_version_of arguments) (request_in arguments) asked asked_after reached

-- ---- what is done

-- what was saved, and what the outputs have
pub record Effects : Type 0 where
  pub saved : List FileSaved
  pub out : Option (List ℕ)
  pub err : Option (List ℕ)

-- these bytes were to be saved once, under the name that is requested, with this answer
abbrev pub IsGrown : Request → List ℕ → Result (Unit {0}) SaveError → List FileSaved → List FileSaved → Type 0
IsGrown r bytes answer old new =
    new ≡ old ++ record { name = r.out; sources = r.names; bytes = bytes; answer = answer } ∷ []

-- what is printed once they are saved, and else; what is left out comes first
abbrev pub IsPrinted : Request → List ℕ → List ℕ → Result (Unit {0}) SaveError → ℕ → Effects → Effects → Type 0
IsPrinted r left_out lines (Ok saved) status old new =
    (status ≡ 0) × Appends old.err new.err left_out × Appends old.out new.out lines
IsPrinted r left_out lines (Err e) status old new = (status ≡ 1)
    × Appends old.err new.err (left_out ++ refused_line r.out (save_error_text e)) × (new.out ≡ old.out)

-- what is saved and printed, and the status, by the outcome
abbrev pub Does : Outcome → ℕ → Effects → Effects → Type 0
Does (outcome.Shown text) status old new = (status ≡ 0) × (new.saved ≡ old.saved)
    × Appends old.out new.out text.now × (new.err ≡ old.err)
Does (outcome.Refused text code) status old new = (status ≡ code) × (new.saved ≡ old.saved)
    × (new.out ≡ old.out) × Appends old.err new.err (string_bytes text)
Does (outcome.Packed command left_out bytes lines) status old new = (answer : Result (Unit {0}) SaveError)
    × IsGrown (request_of command) bytes.items answer old.saved new.saved
    × IsPrinted (request_of command) (string_bytes left_out) (string_bytes lines) answer status old new

-- the file of an outcome was to be saved; others have none
abbrev pub SavesOutcome : Outcome → List FileSaved → List FileSaved → Type 0
SavesOutcome (outcome.Packed command left_out bytes lines) old new =
    (answer : Result (Unit {0}) SaveError) × IsGrown (request_of command) bytes.items answer old new
SavesOutcome reached old new = ⊥

-- ---- the program

-- what is done is what the outcome has
pub record Runs (arguments : List (List ℕ)) (asked asked_after : List FileRead) (status : ℕ) (old new : Effects)
    : Type 0 where
  pub reached : Outcome
  pub is : IsOutcome arguments asked asked_after reached
  pub does : Does reached status old new

-- and after an error, if a file was to be saved, it was that of the outcome
pub record SavesRead (arguments : List (List ℕ)) (asked asked_after : List FileRead) (old new : List FileSaved)
    : Type 0 where
  pub reached : Outcome
  pub is : IsOutcome arguments asked asked_after reached
  pub saves : SavesOutcome reached old new
