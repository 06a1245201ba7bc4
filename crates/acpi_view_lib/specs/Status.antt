-- The status that a run ends with.
use Rattle.std.specs.Prelude.{ℕ, List, Option, Some, None, Result, Ok, Err}
use Rattle.acpi_base.specs.Words.{Memory}
use Rattle.acpi_image_reader.specs.Words.{RunsOut, records_in}
use Rattle.acpi_image_reader.specs.declared.error.ImageError.{ImageError}
use Rattle.acpi_cli.specs.Root.{opened_for}
use Rattle.acpi_cli.specs.declared.root.Root.{Root}

-- 0 if something was found, and 1 if it was an error
abbrev pub status_of : {A E : Type 0} → Result A E → ℕ
status_of (Ok found) = 0
status_of (Err refusal) = 1

-- the status over the memory that a file encodes, or 1 if the file encodes none
abbrev pub status_over : Root → Result Memory ImageError → ℕ
status_over root (Ok m) = status_of (opened_for m root)
status_over root (Err refusal) = 1

-- 2 if the arguments are no command, 1 if the file, its memory or the root table is an error, else 0
abbrev pub status_with : Option Root → Option (List ℕ) → ℕ
status_with None file = 2
status_with (Some root) None = 1
status_with (Some root) (Some file) = status_over root (records_in file)

-- memory can run out over the file of a command
abbrev pub RunsOutWith : Option Root → Option (List ℕ) → Type 0
RunsOutWith None file = ⊥
RunsOutWith (Some root) None = ⊥
RunsOutWith (Some root) (Some file) = RunsOut file
