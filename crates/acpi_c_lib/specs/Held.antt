-- What a checked memory shows.
use Rattle.acpi_base.specs.Words.{Memory}
use Rattle.acpi_c_lib.specs.Regions.{memory_of}
use Rattle.acpi_c_lib.specs.declared.regions.Mapped.{Mapped}

-- the memory that it maps
abbrev pub mapped_memory : Mapped → Memory
mapped_memory m = memory_of m.regions.now
