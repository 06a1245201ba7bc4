-- The memory that several mapped regions map.
use Rattle.acpi_base.specs.Words.{Memory}
use Rattle.acpi.specs.Regions.{regions_of}
use Rattle.acpi.specs.declared.handler.regions.MappedRegions.{MappedRegions}

abbrev pub regions_memory : MappedRegions → Memory
regions_memory r = regions_of r.regions.now
