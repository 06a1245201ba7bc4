-- The FACS that is written for C (section 5.2.10).
use Rattle.std.specs.Prelude.{◌==◌, not}
use Rattle.acpi_c_devices.specs.Types.{FacsContents}
use Rattle.acpi_c_devices.specs.declared.written_records.FacsContents as facs_record

abbrev pub facs_contents : facs_record.FacsContents → FacsContents
facs_contents c = record {
  hardware_signature = c.hardware_signature;
  waking_vector = c.waking_vector;
  x_waking_vector = c.waking_vector_64;
  supports_s4bios = not (c.supports_s4bios == 0);
  supports_64_bit_wake = not (c.supports_64_bit_wake == 0);
}
