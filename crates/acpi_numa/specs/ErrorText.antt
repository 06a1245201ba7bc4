-- How an error is printed.
use Rattle.std.specs.Prelude.{ℕ, List, codes}
use Rattle.acpi_base.specs.Words.{error_text}
use Rattle.acpi_numa.specs.declared.error.NumaError.{NumaError}
use Rattle.acpi_numa.specs.declared.error.NumaError.TheVariants.{Acpi, InvalidEntryLength, InvalidMemoryRange}

-- the variant's name, or what the error that it contains prints
abbrev pub numa_error_text : NumaError → List ℕ
numa_error_text (Acpi refused) = error_text refused
numa_error_text InvalidEntryLength = codes "InvalidEntryLength"
numa_error_text InvalidMemoryRange = codes "InvalidMemoryRange"
