-- How an error is printed.
use Rattle.std.specs.Prelude.{ℕ, List, ◌++◌, codes, decimal}
use Rattle.acpi_image.specs.declared.error.WriteError.{WriteError}
use Rattle.acpi_image.specs.declared.error.WriteError.TheVariants as written

-- the variant's name, and after a space the number that it contains
abbrev pub write_error_text : WriteError → List ℕ
write_error_text written.ZeroRoot = codes "ZeroRoot"
write_error_text (written.BadTable n) = codes "BadTable " ++ decimal n
write_error_text written.TooMany = codes "TooMany"
write_error_text written.PointerTooLarge = codes "PointerTooLarge"
write_error_text written.EndTooLarge = codes "EndTooLarge"
write_error_text written.Overlap = codes "Overlap"
write_error_text written.OutOfMemory = codes "OutOfMemory"
