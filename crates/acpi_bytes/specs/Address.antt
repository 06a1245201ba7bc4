-- Generic addresses: the Generic Address Structure, GAS (ACPI 6.4, section 5.2.3.2).
use Rattle.std.specs.Prelude.{ℕ, List, Result, Ok}
use Rattle.acpi_bytes.specs.Types.{AcpiError, GenericAddress}
use Rattle.acpi_bytes.specs.Bytes.{field_of}
use Rattle.acpi_bytes.specs.Codes.{access_size_of, space_of}
use Rattle.acpi_bytes.specs.Steps.{◌>>=◌}

-- the address that the bytes encode. A code that is reserved is an error
unfoldable pub generic_address_of : List ℕ → Result GenericAddress AcpiError
generic_address_of raw = do
  space ← space_of (field_of raw 0 1)  -- Address Space ID
  size ← access_size_of (field_of raw 3 1)  -- Access Size
  Ok (record {
    address_space = space;
    bit_width = field_of raw 1 1;  -- Register Bit Width
    bit_offset = field_of raw 2 1;  -- Register Bit Offset
    access_size = size;
    address = field_of raw 4 8;  -- Address
  })
