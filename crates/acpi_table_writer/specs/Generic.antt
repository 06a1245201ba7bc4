-- The bytes of registers, as generic addresses (ACPI 6.4, section 5.2.3.2).
use Rattle.std.specs.Prelude.{ℕ, ◌==◌, ◌&&◌, Bool, true, not, List, [], ◌∷◌, Option, Some, None, All}
use Rattle.acpi_table_writer.specs.Types.{is_named_space, size_code, space_code, Undefined, SystemMemory, GenericAddress, Field, U8, U64}
use Rattle.acpi_table_writer.specs.Fields.{FitsField, fields_bytes}

-- a register, or one of zeros if there is none
abbrev pub register_or_zeros : Option GenericAddress → GenericAddress
register_or_zeros (Some g) = g
register_or_zeros None =
    record { address_space = SystemMemory; bit_width = 0; bit_offset = 0; access_size = Undefined; address = 0 }

-- the fields of a register
unfoldable pub address_fields : GenericAddress → List Field
address_fields g =
    U8 (space_code g.address_space)  -- 0: Address Space ID
    ∷ U8 g.bit_width ∷ U8 g.bit_offset  -- 1: Register Bit Width, 2: Register Bit Offset
    ∷ U8 (size_code g.access_size) ∷ U64 g.address  -- 3: Access Size, 4: Address
    ∷ []

abbrev pub address_bytes : GenericAddress → List ℕ
address_bytes g = fields_bytes (address_fields g)

-- twelve zeros if there is none
abbrev pub register_bytes : Option GenericAddress → List ℕ
register_bytes o = address_bytes (register_or_zeros o)

-- a register is at an address other than 0 of such a space
abbrev pub is_register : Option GenericAddress → Bool
is_register (Some g) = not (g.address == 0) && is_named_space g.address_space
is_register None = true

-- the numbers have a place
abbrev pub FitsAddress : GenericAddress → Type 0
FitsAddress g = All FitsField (address_fields g)

abbrev pub FitsRegister : Option GenericAddress → Type 0
FitsRegister o = FitsAddress (register_or_zeros o)
