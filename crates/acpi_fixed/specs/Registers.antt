-- Blocks of registers and addresses that the FADT has in two ways: by a field of its first
-- versions, and by an extended one (ACPI 6.4, section 5.2.9).
use Rattle.std.specs.Prelude.{ℕ, ◌+◌, ◌-◌, ◌*◌, ◌/◌, ◌≤◌, ◌&&◌, ◌==◌, min, nat_le, nat_lt, Bool, if◌then◌else◌, List, length, take, replicate, slice_set, Option, Some, None, is_none, option_map, Result, Ok, Err}
use Rattle.acpi_base.specs.FromStd.{option_map_or}
use Rattle.acpi_bytes.specs.declared.address.AccessSize.TheVariants.{Undefined}
use Rattle.acpi_bytes.specs.declared.address.AddressSpace.TheVariants.{SystemIo}
use Rattle.acpi_bytes.specs.declared.address.GenericAddress.{GenericAddress}
use Rattle.acpi_bytes.specs.declared.error.AcpiError.{AcpiError}
use Rattle.acpi_bytes.specs.declared.error.AcpiError.TheVariants.{InvalidGenericAddress}
use Rattle.acpi_base.specs.Words.{generic_address_of, field_of, filled_part, ◌>>=◌, holds}
use Rattle.acpi_fixed.specs.declared.fadt.registers.BlockFields.{BlockFields}
use Rattle.acpi_fixed.specs.declared.fadt.registers.RegisterBlock.{RegisterBlock}
use Rattle.acpi_fixed.specs.declared.fadt.registers.Registers.{Registers}

-- whether a table's FADT Major Version, at 8, is 2 or above, and it has all of the n bytes at an offset
abbrev pub has_extended : List ℕ → ℕ → ℕ → Bool
has_extended b offset n = nat_le 2 (field_of b 8 1) && nat_le (offset + n) (length b)

-- where extended fields may be: up to a table's end, and in one below revision 2 nowhere
abbrev pub reach_of : List ℕ → ℕ
reach_of b = if nat_le 2 (field_of b 8 1) then length b else 0

-- a number of eight bytes, 0 if the table doesn't have it: for a number, as for a block's address, no field and a field
-- of 0 mean the same (section 5.2.9)
abbrev pub extended_number : List ℕ → ℕ → ℕ
extended_number b offset = if has_extended b offset 8 then field_of b offset 8 else 0

-- the twelve bytes of a generic address, zeros if the table doesn't have them
abbrev pub extended_bytes : List ℕ → ℕ → List ℕ
extended_bytes b offset = if has_extended b offset 12 then filled_part b offset 12 else replicate 12 0

-- these bytes, if the table has them
abbrev pub extended_address : List ℕ → ℕ → Option (List ℕ)
extended_address b offset = if has_extended b offset 12 then Some (filled_part b offset 12) else None

-- the block whose address, length and extended field a table has at these offsets
unfoldable pub block_at : List ℕ → ℕ → ℕ → ℕ → RegisterBlock
block_at b address size extended = record {
  size = field_of b size 1;
  port = filled_part b address 4;
  extended = extended_bytes b extended;
}

-- a table that has all extended blocks: it is of revision 2 or above, and goes on after X_GPE1_BLK, at 232
abbrev pub HasBlocks : List ℕ → Type 0
HasBlocks b = (2 ≤ field_of b 8 1) × (244 ≤ length b)

-- how many bytes of any other table count: those before the first extended field that it lacks. These are
-- X_FIRMWARE_CTRL at 132, X_DSDT at 140, and from 148 on the blocks, of twelve bytes each
abbrev pub kept_of : List ℕ → ℕ
kept_of b =
    if nat_lt (reach_of b) 140 then min 132 (length b)
    else if nat_lt (reach_of b) 148 then 140
    else 148 + (reach_of b - 148) / 12 * 12

-- such a table as one of revision 2 that has all extended blocks: zeros are in place of the fields that it lacks
abbrev pub whole_of : List ℕ → List ℕ
whole_of b = slice_set (filled_part (take (kept_of b) b) 0 244) 8 2

-- where a table has each register: its address, its length, its extended field. Made for `HasBlocks`, at least 244 bytes
abbrev pub registers_at : List ℕ → Registers
registers_at b = record {
  pm1a_event = block_at b 56 88 148;  -- PM1a_EVT_BLK, PM1_EVT_LEN, X_PM1a_EVT_BLK
  pm1b_event = block_at b 60 88 160;  -- PM1b_EVT_BLK, PM1_EVT_LEN, X_PM1b_EVT_BLK
  pm1a_control = block_at b 64 89 172;  -- PM1a_CNT_BLK, PM1_CNT_LEN, X_PM1a_CNT_BLK
  pm1b_control = block_at b 68 89 184;  -- PM1b_CNT_BLK, PM1_CNT_LEN, X_PM1b_CNT_BLK
  pm2_control = block_at b 72 90 196;  -- PM2_CNT_BLK, PM2_CNT_LEN, X_PM2_CNT_BLK
  pm_timer = block_at b 76 91 208;  -- PM_TMR_BLK, PM_TMR_LEN, X_PM_TMR_BLK
  gpe0 = block_at b 80 92 220;  -- GPE0_BLK, GPE0_BLK_LEN, X_GPE0_BLK
  gpe1 = block_at b 84 93 232;  -- GPE1_BLK, GPE1_BLK_LEN, X_GPE1_BLK
  reset = filled_part b 116 12;  -- RESET_REG
  sleep_control = extended_address b 244;  -- SLEEP_CONTROL_REG
  sleep_status = extended_address b 256;  -- SLEEP_STATUS_REG
}

-- the extended field, if its Address, at 4 in the generic address, is not 0 (section 5.2.3.2)
abbrev pub usable_extended : List ℕ → Option (List ℕ)
usable_extended raw = if field_of raw 4 8 == 0 then None else Some raw

-- the first port of a block
abbrev pub port_of : RegisterBlock → ℕ
port_of r = field_of r.port 0 4

-- ports from an address on, eight bits for each byte: fewer than 32 bytes, since the width in bits is one byte
abbrev pub ports_at : ℕ → ℕ → Result GenericAddress AcpiError
ports_at address size = do
  _ ← holds (nat_lt size 32) InvalidGenericAddress
  Ok (record {
    address_space = SystemIo;
    bit_width = size * 8;
    bit_offset = 0;
    access_size = Undefined;
    address = address;
  })

-- the extended block, or else the ports
abbrev pub block_or_ports : Option (List ℕ) → ℕ → ℕ → Result GenericAddress AcpiError
block_or_ports extended port size = option_map_or generic_address_of extended (ports_at port size)

-- a block that a machine need not have: none if neither field has an address
abbrev pub optional_block_or_ports : Option (List ℕ) → ℕ → ℕ → Result (Option GenericAddress) AcpiError
optional_block_or_ports extended port size =
    if is_none extended && port == 0 then Ok None
    else do
      block ← block_or_ports extended port size
      Ok (Some block)

-- the timer's block, which a table has only if PM_TMR_LEN is 4
abbrev pub timer_block_or_ports : Option (List ℕ) → ℕ → ℕ → Result (Option GenericAddress) AcpiError
timer_block_or_ports extended port size =
    if size == 4 then optional_block_or_ports extended port size else Ok None

-- the extended block if its address is not 0, else the ports. Each of the eight getters of blocks returns this, or one
-- of the two definitions after it, for one block of `registers_of`
abbrev pub block_of : RegisterBlock → Result GenericAddress AcpiError
block_of r = block_or_ports (usable_extended r.extended) (port_of r) r.size

abbrev pub optional_block_of : RegisterBlock → Result (Option GenericAddress) AcpiError
optional_block_of r = optional_block_or_ports (usable_extended r.extended) (port_of r) r.size

abbrev pub timer_block_of : RegisterBlock → Result (Option GenericAddress) AcpiError
timer_block_of r = timer_block_or_ports (usable_extended r.extended) (port_of r) r.size

-- the extended field of what a table has of a block
abbrev pub extended_of : BlockFields → Option (List ℕ)
extended_of f = option_map (λ raw. raw.now) f.extended

-- a register that is only in an extended field
abbrev pub register_of : Option (List ℕ) → Result (Option GenericAddress) AcpiError
register_of None = Ok None
register_of (Some raw) = do
  register ← generic_address_of raw
  Ok (Some register)

-- the 64-bit address if it is not 0, else the 32-bit one
abbrev pub preferred_address : ℕ → ℕ → ℕ
preferred_address wide narrow = if wide == 0 then narrow else wide

-- the preferred address, if it is not 0
abbrev pub address_or : AcpiError → ℕ → ℕ → Result ℕ AcpiError
address_or refusal wide narrow =
    if preferred_address wide narrow == 0 then Err refusal else Ok (preferred_address wide narrow)
