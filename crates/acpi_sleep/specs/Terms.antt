-- Terms: what follows each opcode (ACPI 6.4, section 20.2.5).
use Rattle.std.specs.Prelude.{ℕ, ◌==◌, ◌&&◌, ◌||◌, nat_le, List, [], ◌∷◌, Option, Some, None, Result, Ok, Err, if◌then◌else◌}
use Rattle.acpi_bytes.specs.Steps.{◌>>=◌}
use Rattle.acpi_sleep.specs.Arguments.{argument_end, block_end, name_end, operand_end}
use Rattle.acpi_sleep.specs.Blocks.{byte_at, bytes_end}
use Rattle.acpi_sleep.specs.Names.{begins_name}
use Rattle.acpi_sleep.specs.declared.error.AmlError.{AmlError}
use Rattle.acpi_sleep.specs.declared.error.AmlError.TheVariants.{NotRead}
use Rattle.acpi_sleep.specs.declared.term.Part.{Part}
use Rattle.acpi_sleep.specs.declared.term.Part.TheVariants as part

-- what follows the opcode of a term; an alias, a name, a scope and a method are not among these
unfoldable pub parts_of : ℕ → Option (List Part)
parts_of code =
    if code == 0x15 then Some (part.Name ∷ part.Byte ∷ part.Byte ∷ [])  -- DefExternal
    else if nat_le 0x8A code && nat_le code 0x8D || code == 0x8F
    then Some (part.Argument ∷ part.Argument ∷ part.Field ∷ [])  -- DefCreateDWordField and the like
    else if nat_le 0xA0 code && nat_le code 0xA2 then Some (part.Block ∷ [])  -- DefIfElse, DefWhile
    else if code == 0xA3 then Some []  -- DefNoop
    else if code == 0x5B01 then Some (part.Name ∷ part.Byte ∷ [])  -- DefMutex
    else if code == 0x5B02 then Some (part.Name ∷ [])  -- DefEvent
    else if code == 0x5B13
    then Some (part.Argument ∷ part.Argument ∷ part.Argument ∷ part.Field ∷ [])  -- DefCreateField
    else if code == 0x5B80
    then Some (part.Name ∷ part.Byte ∷ part.Argument ∷ part.Argument ∷ [])  -- DefOpRegion
    else if nat_le 0x5B81 code && nat_le code 0x5B87
    then Some (part.Block ∷ [])  -- DefField, DefDevice, DefProcessor, DefPowerRes, DefThermalZone and the like
    else if code == 0x5B88
    then Some (part.Name ∷ part.Argument ∷ part.Argument ∷ part.Argument ∷ [])  -- DefDataRegion
    else None

-- where a buffer field's name ends. If another argument begins there, one before it is a call, which is run
abbrev pub field_end : List ℕ → ℕ → Result ℕ AmlError
field_end aml at = do
  lead ← byte_at aml at
  end ← operand_end aml at
  if begins_name lead then Ok end else Err (NotRead at)

-- where the part ends that begins at an offset
abbrev pub part_end : Part → List ℕ → ℕ → Result ℕ AmlError
part_end part.Name aml at = name_end aml at
part_end part.Byte aml at = bytes_end aml at 1
part_end part.Argument aml at = argument_end aml at
part_end part.Block aml at = block_end aml at
part_end part.Field aml at = field_end aml at

-- where the last of parts ends
abbrev pub parts_end : List Part → List ℕ → ℕ → Result ℕ AmlError
parts_end [] aml at = Ok at
parts_end (part ∷ parts) aml at = do
  end ← part_end part aml at
  parts_end parts aml end
