-- How an error is printed.
use Rattle.std.specs.Prelude.{ℕ, List, ◌++◌, codes, decimal}
use Rattle.acpi_sleep.specs.declared.error.AmlError.{AmlError}
use Rattle.acpi_sleep.specs.declared.error.AmlError.TheVariants as refusal

-- the variant's name, and after a space the offset
abbrev pub aml_error_text : AmlError → List ℕ
aml_error_text (refusal.PastEnd at) = codes "PastEnd " ++ decimal at
aml_error_text (refusal.InvalidLength at) = codes "InvalidLength " ++ decimal at
aml_error_text (refusal.InvalidName at) = codes "InvalidName " ++ decimal at
aml_error_text (refusal.UnknownTerm at) = codes "UnknownTerm " ++ decimal at
aml_error_text (refusal.NotRead at) = codes "NotRead " ++ decimal at
