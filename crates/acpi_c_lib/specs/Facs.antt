-- The Firmware ACPI Control Structure (FACS, section 5.2.10) as C gets it.
use Rattle.std.specs.Prelude.{ℕ, List, replicate, Result, Ok, ok_or}
use Rattle.acpi_base.specs.FromStd.{result_ok}
use Rattle.acpi_base.specs.Words.{field_of, lent, Memory, ◌>>=◌, accepted}
use Rattle.acpi_fixed.specs.Words.{facs_address_of, fadt_at}
use Rattle.acpi.specs.Types.{AddressRange, FACS, TableMissing}
use Rattle.acpi.specs.Words.{facs_at, fadt_kind, lookup}
use Rattle.acpi_c_lib.specs.Below.{AcpiError, Refusal, Source, below_source}
use Rattle.acpi_c_lib.specs.Types.{Facs}

-- a FACS, by its range and its first 36 bytes
abbrev pub facs_record : AddressRange → List ℕ → Facs
facs_record place head = record {
  address = place.address;
  waking_vector_64 = field_of head 24 8;  -- X_Firmware_Waking_Vector
  length = place.length;
  hardware_signature = field_of head 8 4;  -- Hardware Signature
  waking_vector = field_of head 12 4;  -- Firmware_Waking_Vector
  flags = field_of head 20 4;  -- Flags
  version = field_of head 32 1;  -- Version
  reserved = replicate 7 0;
}

abbrev pub facs_in : Memory → ℕ → Result Facs AcpiError
facs_in m address = do
  place ← facs_at m address
  head ← lent m address 36
  Ok (facs_record place head)

-- the address of the FACS in the first valid FADT, or that there is none
abbrev pub facs_address_in : ℕ → Memory → List ℕ → Result ℕ AcpiError
facs_address_in accept m ps = do
  found ← lookup m (accepted accept fadt_kind) ps
  ok_or (result_ok (facs_address_of (fadt_at found.1))) (TableMissing FACS)

abbrev pub facs_below : Source → Result Facs Refusal
facs_below s = below_source s (λ m ps. do
  address ← facs_address_in s.accept m ps
  facs_in m address)
