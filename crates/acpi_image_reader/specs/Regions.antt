-- The regions of records.
use Rattle.std.specs.Prelude.{List, map, replicate}
use Rattle.acpi_base.specs.Words.{Region, Memory}
use Rattle.acpi_bytes.specs.declared.range.AddressRange.{AddressRange}
use Rattle.acpi_image_reader.specs.declared.record.Record.{Record}

abbrev pub region_of : Record → Region
region_of r = record { start = r.start; bytes = r.bytes.now }

abbrev pub regions_of : List Record → Memory
regions_of records = map region_of records

-- a region that is in a range, whatever its bytes are
abbrev pub region_in : AddressRange → Region
region_in r = record { start = r.address; bytes = replicate r.length 0 }
