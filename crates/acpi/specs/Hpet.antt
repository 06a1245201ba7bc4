-- The High Precision Event Timer (signature HPET; ACPI 6.4, section 5.2.6). The layout is that of the IA-PC HPET
-- Specification 1.0a, section 3.2.4.
use Rattle.std.specs.Prelude.{ℕ, ◌==◌, List, Result, Ok, if◌then◌else◌}
use Rattle.acpi_base.specs.Words.{bits_of, field_of, header_at, Memory, ◌>>=◌, holds, Kind, sdt_kind}
use Rattle.acpi.specs.Types.{AcpiError, InvalidGenericAddress, HPET, HpetInfo, HpetTable, PageProtection}
use Rattle.acpi.specs.Lookup.{lookup}
use Rattle.acpi.specs.declared.hpet.PageProtection.TheVariants as protections

-- the table HPET, at least 56 bytes; of BASE_ADDRESS, the generic address from 40 on, the space and the address
unfoldable pub hpet_at : List ℕ → HpetTable
hpet_at b = record {
  header = header_at b;
  event_timer_block_id = field_of b 36 4;  -- Event Timer Block ID
  address_space = field_of b 40 1;  -- BASE_ADDRESS: Address Space ID
  address = field_of b 44 8;  -- BASE_ADDRESS: Address
  hpet_number = field_of b 52 1;  -- HPET Number
  clock_tick_unit = field_of b 53 2;  -- Main Counter Minimum Clock_tick in Periodic Mode
  page_protection_and_oem = field_of b 55 1;  -- Page Protection And OEM Attribute
}

-- Page Protection, bits 0 to 3 of its byte: that of a code, and the code of each; of those that are reserved the first
abbrev pub protection_of : ℕ → PageProtection
protection_of code =
    if code == 0 then protections.None
    else if code == 1 then protections.Protected4K
    else if code == 2 then protections.Protected64K
    else protections.Other

abbrev pub protection_code : PageProtection → ℕ
protection_code protections.None = 0
protection_code protections.Protected4K = 1
protection_code protections.Protected64K = 2
protection_code protections.Other = 3

-- what a table contains, if its registers are in memory: Address Space ID is 0
abbrev pub info_of : HpetTable → Result HpetInfo AcpiError
info_of t = do
  _ ← holds (t.address_space == 0) InvalidGenericAddress
  Ok (record {
    event_timer_block_id = t.event_timer_block_id;
    base_address = t.address;
    hpet_number = t.hpet_number;
    clock_tick_unit = t.clock_tick_unit;
    page_protection = protection_of (bits_of t.page_protection_and_oem 0 4);
  })

abbrev pub hpet_kind : Kind
hpet_kind = sdt_kind HPET 56

-- what the first valid HPET contains
abbrev pub hpet_of : Memory → List ℕ → Result HpetInfo AcpiError
hpet_of m ps = do
  found ← lookup m hpet_kind ps
  info_of (hpet_at found.1)
