-- Why the file that is made isn't written.
use Rattle.std.specs.Prelude.{ℕ, Bool, false, if◌then◌else◌, ◌&&◌, ◌==◌, List, codes, Option, Some, None, Result, Ok, Err}
use Rattle.acpi_cli.specs.declared.save.Found.{Found}
use Rattle.acpi_cli.specs.declared.save.Found.TheVariants as found
use Rattle.acpi_cli.specs.declared.save.Identity.{Identity}
use Rattle.acpi_cli.specs.declared.save.SaveError.{SaveError}
use Rattle.acpi_cli.specs.declared.save.SaveError.TheVariants as refusal

-- the variant's name
abbrev pub save_error_text : SaveError → List ℕ
save_error_text refusal.NotAFile = codes "NotAFile"
save_error_text refusal.SameFile = codes "SameFile"
save_error_text refusal.PartExists = codes "PartExists"
save_error_text refusal.Unwritable = codes "Unwritable"
save_error_text refusal.OutOfMemory = codes "OutOfMemory"

-- both are known, and have one device and one number there
abbrev pub are_same : Option Identity → Option Identity → Bool
are_same (Some one) (Some other) = (one.device == other.device) && (one.number == other.number)
are_same (Some one) None = false
are_same None other = false

-- by what has the name, and whether it is one of the files that are packed. `Other` is something that is no regular
-- file, and `Unknown` that the system fails to report it
abbrev pub check_found : Found → Bool → Result (Unit {0}) SaveError
check_found found.Other is_source = Err refusal.NotAFile
check_found found.Unknown is_source = if is_source then Err refusal.SameFile else Err refusal.Unwritable
check_found found.Nothing is_source = if is_source then Err refusal.SameFile else Ok tt
check_found (found.File metadata) is_source = if is_source then Err refusal.SameFile else Ok tt
