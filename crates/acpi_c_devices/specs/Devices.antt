-- Registers, timers and the boot graphic as C gets them.
use Rattle.std.specs.Prelude.{ℕ, ◌*◌, List, replicate, Option, Some, None, Result, Ok, Err, filter_map}
use Rattle.acpi_base.specs.Words.{accepted, Memory, ◌>>=◌, table_at}
use Rattle.acpi.specs.Types.{Bgrt}
use Rattle.acpi.specs.Words.{lookup, timer_of, hpet_at, hpet_kind, info_of, protection_code, protection_of}
use Rattle.acpi_c_devices.specs.Types.{size_code, space_code, bits_of, has_bit, sdt_kind, GenericAddress, BGRT, bgrt_at, image_type_of, offset_of, rank_of, status_of, fadt_at, fadt_kind, PmTimer, BootGraphic, Register, HpetInfo, Refusal, Source}
use Rattle.acpi_c_lib.specs.Answers.{flag, result_map}
use Rattle.acpi_c_lib.specs.Below.{AcpiError, below_first, below_source}
use Rattle.acpi_c_devices.specs.Records as records
use Rattle.acpi_base.specs.FromStd.{result_ok}

abbrev pub generic_record : GenericAddress → records.GenericAddress
generic_record a = record {
  address = a.address;
  space = space_code a.address_space;
  bit_width = a.bit_width;
  bit_offset = a.bit_offset;
  access_size = size_code a.access_size;
  reserved = replicate 4 0;
}

abbrev pub no_register : records.GenericAddress
no_register = record {
  address = 0;
  space = 0;
  bit_width = 0;
  bit_offset = 0;
  access_size = 0;
  reserved = replicate 4 0;
}

-- a register; or zeros, and 0 if there is none or 2 if its address is an error
abbrev pub optional_register : Result (Option GenericAddress) AcpiError → Register
optional_register (Ok (Some a)) = record { at = generic_record a; present = 1; reserved = replicate 7 0 }
optional_register (Ok None) = record { at = no_register; present = 0; reserved = replicate 7 0 }
optional_register (Err e) = record { at = no_register; present = 2; reserved = replicate 7 0 }

-- the same of a register that is there, unless its address is an error
abbrev pub required_register : Result GenericAddress AcpiError → Register
required_register register = optional_register (result_map Some register)

-- none, or one whose address may be an error
abbrev pub register_if : Option (Result GenericAddress AcpiError) → Register
register_if (Some register) = required_register register
register_if None = optional_register (Ok None)

-- ---- the power management timer (section 4.8.3.3)

abbrev pub timer_record : Option PmTimer → records.PmTimer
timer_record (Some t) =
    record { base = generic_record t.base; present = 1; is_32_bit = flag t.supports_32bit; reserved = replicate 6 0 }
timer_record None = record { base = no_register; present = 0; is_32_bit = 0; reserved = replicate 6 0 }

-- the timer of the first valid FADT
abbrev pub timer_in : ℕ → Memory → List ℕ → Result (Option PmTimer) AcpiError
timer_in accept m ps = do
  found ← lookup m (accepted accept fadt_kind) ps
  timer_of (fadt_at found.1)

abbrev pub timer_below : Source → Result records.PmTimer Refusal
timer_below s = below_source s (λ m ps. result_map timer_record (timer_in s.accept m ps))

-- ---- the boot graphic (section 5.2.22)

abbrev pub graphic_record : Bgrt → BootGraphic
graphic_record g = record {
  address = g.image_address;
  x = (offset_of g).0;
  y = (offset_of g).1;
  orientation = bits_of (status_of g) 1 2 * 90;
  displayed = flag (has_bit (status_of g) 0);
  image_type = rank_of (image_type_of g);
  reserved = replicate 4 0;
}

-- the image of the first valid BGRT
abbrev pub graphic_below : Source → Result BootGraphic Refusal
graphic_below s = below_first (sdt_kind BGRT 56) s (λ table. graphic_record (bgrt_at table))

-- ---- the block of event timers (HPET)

abbrev pub hpet_record : HpetInfo → records.HpetInfo
hpet_record i = record {
  base_address = i.base_address;
  event_timer_block_id = i.event_timer_block_id;
  clock_tick_unit = i.clock_tick_unit;
  number = i.hpet_number;
  page_protection = protection_code i.page_protection;
}

-- the HPET to be written, which is described as C reads it
abbrev pub hpet_info_of : records.HpetInfo → HpetInfo
hpet_info_of i = record {
  base_address = i.base_address;
  event_timer_block_id = i.event_timer_block_id;
  clock_tick_unit = i.clock_tick_unit;
  hpet_number = i.number;
  page_protection = protection_of i.page_protection;
}

-- an HPET by its bytes, if its registers are in memory
abbrev pub hpet_shown : List ℕ → Result records.HpetInfo AcpiError
hpet_shown table = result_map hpet_record (info_of (hpet_at table))

abbrev pub hpet_below : Source → Result records.HpetInfo Refusal
hpet_below s = below_source s (λ m ps. do
  found ← lookup m (accepted s.accept hpet_kind) ps
  hpet_shown found.1)

-- the HPET of a member, if it is a valid one
abbrev pub hpet_in : ℕ → Memory → ℕ → Option records.HpetInfo
hpet_in accept m p = result_ok (table_at m (accepted accept hpet_kind) p >>= hpet_shown)

abbrev pub hpets_in : ℕ → Memory → List ℕ → List records.HpetInfo
hpets_in accept m ps = filter_map (hpet_in accept m) ps

abbrev pub hpets_below : Source → Result (List records.HpetInfo) Refusal
hpets_below s = below_source s (λ m ps. Ok (hpets_in s.accept m ps))
