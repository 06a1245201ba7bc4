-- What is printed.
use Rattle.std.specs.Prelude.{ℕ, List, codes}
use Rattle.acpi_pack_lib.specs.declared.error.FileError.{FileError}
use Rattle.acpi_pack_lib.specs.declared.error.FileError.TheVariants as fault
use Rattle.acpi_pack_lib.specs.declared.error.Refusal.{Refusal}
use Rattle.acpi_pack_lib.specs.declared.error.Refusal.TheVariants as refusal

-- the variant's name
abbrev pub file_error_text : FileError → List ℕ
file_error_text fault.Unreadable = codes "Unreadable"
file_error_text fault.Empty = codes "Empty"
file_error_text fault.Short = codes "Short"
file_error_text fault.Long = codes "Long"
file_error_text fault.EndTooLarge = codes "EndTooLarge"
file_error_text fault.Overlap = codes "Overlap"

-- the text of a file's fault, or the variant's name
abbrev pub refusal_text : Refusal → List ℕ
refusal_text (refusal.File n e) = file_error_text e
refusal_text refusal.NoRoom = codes "NoRoom"
refusal_text refusal.TooLarge = codes "TooLarge"
refusal_text refusal.OutOfMemory = codes "OutOfMemory"
