-- How an error is printed.
use Rattle.std.specs.Prelude.{ℕ, List, codes}
use Rattle.acpi_image_reader.specs.declared.error.ImageError.{ImageError}
use Rattle.acpi_image_reader.specs.declared.error.ImageError.TheVariants as refusal

-- the variant's name
abbrev pub image_error_text : ImageError → List ℕ
image_error_text refusal.Truncated = codes "Truncated"
image_error_text refusal.EndTooLarge = codes "EndTooLarge"
image_error_text refusal.Overlap = codes "Overlap"
image_error_text refusal.OutOfMemory = codes "OutOfMemory"
