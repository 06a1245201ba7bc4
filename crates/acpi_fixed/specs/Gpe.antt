-- The registers of general purpose events, by their length in bytes (ACPI 6.4, section 5.2.9).
use Rattle.std.specs.Prelude.{ℕ, ◌==◌, List, Option, Some, None, Result, Ok, Err, if◌then◌else◌}
use Rattle.acpi_base.specs.Words.{space_of, field_of, ◌>>=◌}
use Rattle.acpi_bytes.specs.declared.address.AddressSpace.TheVariants.{SystemIo}
use Rattle.acpi_bytes.specs.declared.error.AcpiError.{AcpiError}
use Rattle.acpi_fixed.specs.declared.fadt.Fadt.{Fadt}
use Rattle.acpi_fixed.specs.declared.fadt.registers.RegisterBlock.{RegisterBlock}
use Rattle.acpi_fixed.specs.declared.fadt.registers.gpe.GpeBlock.{GpeBlock}
use Rattle.acpi_fixed.specs.Fadt.{registers_of}
use Rattle.acpi_fixed.specs.Registers.{port_of, usable_extended}

-- that many bytes at an extended address: of its fields the space and the address count
abbrev pub block_from : List ℕ → ℕ → Result GpeBlock AcpiError
block_from raw byte_length = do
  space ← space_of (field_of raw 0 1)  -- Address Space ID (section 5.2.3.2)
  Ok (record { space = space; address = field_of raw 4 8; byte_length = byte_length })  -- Address

-- the block at the extended address, or else at the port, unless that is 0
abbrev pub block_or : Option (List ℕ) → ℕ → ℕ → Result (Option GpeBlock) AcpiError
block_or (Some raw) port byte_length = do
  block ← block_from raw byte_length
  Ok (Some block)
block_or None port byte_length =
    if port == 0 then Ok None
    else Ok (Some (record { space = SystemIo; address = port; byte_length = byte_length }))

-- the block of a pair of fields: nothing if its length is 0, before anything else
abbrev pub gpe_with : Option (List ℕ) → ℕ → ℕ → Result (Option GpeBlock) AcpiError
gpe_with extended port byte_length = if byte_length == 0 then Ok None else block_or extended port byte_length

abbrev pub gpe_of : RegisterBlock → Result (Option GpeBlock) AcpiError
gpe_of r = gpe_with (usable_extended r.extended) (port_of r) r.size

-- GPE1_BASE: the number of the first event of a block, if there is one
abbrev pub base_beside : ℕ → Result (Option GpeBlock) AcpiError → Option ℕ
base_beside base (Ok (Some block)) = Some base
base_beside base (Ok None) = None
base_beside base (Err e) = None

abbrev pub gpe1_base_of : Fadt → Option ℕ
gpe1_base_of f = base_beside f.gpe1_base (gpe_of (registers_of f).gpe1)
