-- What an image shows.
use Rattle.acpi_base.specs.Words.{Memory}
use Rattle.acpi_image_reader.specs.Regions.{regions_of}
use Rattle.acpi_image_reader.specs.declared.image.MemoryImage.{MemoryImage}

-- the memory that it maps
abbrev pub memory_of : MemoryImage → Memory
memory_of image = regions_of image.records.list.items
