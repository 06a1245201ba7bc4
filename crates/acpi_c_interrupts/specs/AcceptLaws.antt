-- What a caller gets that accepts nothing but valid tables: what the crate `acpi` has.
use Rattle.std.specs.Prelude.{◌≡◌, ℕ, List}
use Rattle.acpi_base.specs.Words.{Memory}
use Rattle.acpi.specs.Words.{platform_of}
use Rattle.acpi_c_lib.specs.Answers.{result_map}
use Rattle.acpi_c_interrupts.specs.Model.{models_of, platform_model}

abbrev pub AcceptsAsReaders : Type 0
AcceptsAsReaders = (m : Memory) (ps : List ℕ) → platform_model 0 m ps ≡ result_map models_of (platform_of m ps)
