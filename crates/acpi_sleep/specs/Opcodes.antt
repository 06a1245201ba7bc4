-- Opcodes, also of what is run: statements and expressions (ACPI 6.4, sections 20.2.5.3, 20.2.5.4 and 20.3).
use Rattle.std.specs.Prelude.{ℕ, ◌+◌, ◌==◌, ◌&&◌, ◌||◌, Bool, nat_le, List, Result, Ok, if◌then◌else◌}
use Rattle.acpi_bytes.specs.Steps.{◌>>=◌}
use Rattle.acpi_sleep.specs.Blocks.{byte_at}
use Rattle.acpi_sleep.specs.declared.error.AmlError.{AmlError}
use Rattle.acpi_sleep.specs.declared.opcode.Opcode.{Opcode}

-- the opcode at an offset: one byte, or two if the first is ExtOpPrefix
unfoldable pub opcode_at : List ℕ → ℕ → Result Opcode AmlError
opcode_at aml at = do
  first ← byte_at aml at
  if first == 0x5B then (do
    second ← byte_at aml (at + 1)
    Ok (record { code = 0x5B00 + second; end = at + 2 }))
      else Ok (record { code = first; end = at + 1 })

-- DefNotify, DefContinue, DefReturn, DefBreak and DefBreakPoint; DefStall and DefSleep, DefSignal, DefReset and
-- DefRelease, and DefFatal
abbrev pub is_statement : ℕ → Bool
is_statement code =
    (((code == 0x86 || code == 0x9F) || (code == 0xA4 || code == 0xA5)) || code == 0xCC)
    || (((nat_le 0x5B21 code && nat_le code 0x5B22) || code == 0x5B24)
    || ((nat_le 0x5B26 code && nat_le code 0x5B27) || code == 0x5B32))

-- DefStore to DefMod, DefSizeOf to DefMatch, DefObjectType, DefLAnd to DefToInteger, DefToString to DefMid;
-- DefCondRefOf, DefLoadTable and DefLoad, DefAcquire, DefWait, DefFromBCD to the Unload of earlier versions, DefTimer
abbrev pub is_expression : ℕ → Bool
is_expression code =
    ((((nat_le 0x70 code && nat_le code 0x85) || (nat_le 0x87 code && nat_le code 0x89)) || code == 0x8E)
    || ((nat_le 0x90 code && nat_le code 0x99) || (nat_le 0x9C code && nat_le code 0x9E)))
    || (((code == 0x5B12 || (nat_le 0x5B1F code && nat_le code 0x5B20)) || (code == 0x5B23 || code == 0x5B25))
    || ((nat_le 0x5B28 code && nat_le code 0x5B2A) || code == 0x5B33))
