-- The SRAT that is written for C (section 5.2.16).
use Rattle.std.specs.Prelude.{◌==◌, not}
use Rattle.acpi_c_devices.specs.Types.{MemoryAffinity, SratContents, MemoryRange}
use Rattle.acpi_table_writer.specs.declared.srat.SratContents as writer
use Rattle.acpi_table_writer.specs.Words.{srat_meant, SratContents as WriterSrat}

-- a flag is set unless it is 0
abbrev pub range_of : MemoryAffinity → MemoryRange
range_of r = record {
  domain = r.domain;
  base = r.address;
  length = r.length;
  is_hot_pluggable = not (r.is_hot_pluggable == 0);
  is_non_volatile = not (r.is_non_volatile == 0);
}

abbrev pub contents : SratContents → writer.SratContents MemoryAffinity
contents c = record { apics = c.apics; giccs = c.giccs; ranges = c.ranges }

abbrev pub srat_of : SratContents → WriterSrat
srat_of c = srat_meant range_of (contents c)
