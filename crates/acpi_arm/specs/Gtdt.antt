-- The generic timers: the Generic Timer Description Table, GTDT (ACPI 6.4, section 5.2.24).
use Rattle.std.specs.Prelude.{ℕ, ◌+◌, ◌-◌, ◌^◌, ◌==◌, ◌||◌, nat_le, nat_lt, List, Option, None, if◌then◌else◌}
use Rattle.acpi_base.specs.Words.{has_bit, field_of, extended_at, shown_of, header_at, unless, Kind, sdt_kind}
use Rattle.acpi.specs.Types.{Polarity, ActiveHigh, ActiveLow, TriggerMode, Edge, Level, GTDT}
use Rattle.acpi_arm.specs.declared.gtdt.ArmTimer.{ArmTimer}
use Rattle.acpi_arm.specs.declared.gtdt.Gtdt.{Gtdt}

abbrev pub gtdt_kind : Kind
gtdt_kind = sdt_kind GTDT 96

-- how an interrupt comes, by a bit of the flags: Timer interrupt Mode, and Timer Interrupt polarity

abbrev pub trigger_in : ℕ → ℕ → TriggerMode
trigger_in flags k = if has_bit flags k then Edge else Level

abbrev pub polarity_in : ℕ → ℕ → Polarity
polarity_in flags k = if has_bit flags k then ActiveLow else ActiveHigh

-- an address, of which all ones mean none
abbrev pub unless_ones : ℕ → Option ℕ
unless_ones address = unless (2 ^ 64 - 1) address

-- GSIV, the interrupt, at an offset, and Flags in the four bytes after it
abbrev pub arm_timer_at : List ℕ → ℕ → ArmTimer
arm_timer_at b offset = record {
  interrupt = field_of b offset 4;  -- GSIV
  trigger_mode = trigger_in (field_of b (offset + 4) 4) 0;  -- Flags, bit 0: Timer interrupt Mode
  polarity = polarity_in (field_of b (offset + 4) 4) 1;  -- Flags, bit 1: Timer Interrupt polarity
  always_on = has_bit (field_of b (offset + 4) 4) 2;  -- Flags, bit 2: Always-on Capability
}

-- the table GTDT, at least 96 bytes
unfoldable pub gtdt_at : List ℕ → Gtdt
gtdt_at b = record {
  header = header_at b;
  control_base = field_of b 36 8;  -- CntControlBase Physical Address
  secure_el1_timer = arm_timer_at b 48;  -- Secure EL1 Timer GSIV, Secure EL1 Timer Flags
  non_secure_el1_timer = arm_timer_at b 56;  -- Non-Secure EL1 Timer GSIV, Non-Secure EL1 Timer Flags
  virtual_el1_timer = arm_timer_at b 64;  -- Virtual EL1 Timer GSIV, Virtual EL1 Timer Flags
  el2_timer = arm_timer_at b 72;  -- EL2 Timer GSIV, EL2 Timer Flags
  read_base = field_of b 80 8;  -- CntReadBase Physical Address
  platform_timer_count = field_of b 88 4;  -- Platform Timer Count
  platform_timer_offset = field_of b 92 4;  -- Platform Timer Offset
  el2_virtual = extended_at {least = 3} (λ x. arm_timer_at x 0) b 96 8;  -- Virtual EL2 Timer GSIV, Flags
}

-- ---- what calls show

-- CntControlBase: the base of the registers that control the counter
abbrev pub control_base_of : Gtdt → Option ℕ
control_base_of t = unless_ones t.control_base

-- CntReadBase: the base of the registers from which it is read; tables below revision 2 have another layout
abbrev pub read_base_of : Gtdt → Option ℕ
read_base_of t = if nat_lt t.header.revision 2 then None else unless_ones t.read_base

-- Virtual EL2 Timer, from revision 3 on, if no platform timer is in its eight bytes
abbrev pub virtual_el2_of : Gtdt → Option ArmTimer
virtual_el2_of t =
    if (t.platform_timer_count == 0) || nat_le 104 t.platform_timer_offset
    then shown_of t.el2_virtual t.header.revision else None
