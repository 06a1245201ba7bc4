-- The GTDT that is written for C (section 5.2.24), from the records as which it is read.
use Rattle.std.specs.Prelude.{ℕ, ◌-◌, ◌^◌, ◌&&◌, ◌||◌, ◌==◌, Bool, false, not, List, Option, Some, None, Result, if◌then◌else◌}
use Rattle.acpi_c_interrupts.specs.Types.{TableIds, WriterError, list_all, ActiveHigh, Level, GtFrame, TimerInterrupt, ArmTimer, SbsaWatchdog, Watchdog, GtdtOf, TimerOf, frame_bytes, frame_checked, gtdt_written_by, structure_bytes_by, structure_checked_by, GtdtContents, PlatformTimer}
use Rattle.acpi_c_interrupts.specs.Records as records
use Rattle.acpi_c_interrupts.specs.WrittenMadt.{is_wiring, polarity_of, trigger_of}
use Rattle.acpi_table_writer.specs.declared.gtdt.PlatformTimerContents.TheVariants as kinds

-- an address, of which all ones mean none
abbrev pub base : ℕ → Option ℕ
base address = if address == 2 ^ 64 - 1 then None else Some address

-- ---- the timers of every processor

abbrev pub timer_of : records.ArmTimer → ArmTimer
timer_of t = record {
  interrupt = t.interrupt;
  trigger_mode = trigger_of t.trigger;
  polarity = polarity_of t.polarity;
  always_on = not (t.always_on == 0);
}

-- a timer whose bytes are all 0
abbrev pub no_timer : ArmTimer
no_timer = record { interrupt = 0; trigger_mode = Level; polarity = ActiveHigh; always_on = false }

-- the Virtual EL2 Timer, if it is present
abbrev pub virtual_el2_of : records.ArmTimer → ArmTimer
virtual_el2_of t = if t.present == 0 then no_timer else timer_of t

-- ---- the timers of the platform

abbrev pub interrupt_of : ℕ → ℕ → ℕ → TimerInterrupt
interrupt_of n trigger polarity =
    record { interrupt = n; trigger_mode = trigger_of trigger; polarity = polarity_of polarity }

abbrev pub frame_of : records.GtFrame → GtFrame
frame_of f = record {
  number = f.number;
  base = f.address;
  el0_base = base f.el0_address;
  physical_timer = interrupt_of f.physical_interrupt f.physical_trigger f.physical_polarity;
  virtual_timer = interrupt_of f.virtual_interrupt f.virtual_trigger f.virtual_polarity;
  is_secure = not (f.is_secure == 0);
  is_always_on = not (f.is_always_on == 0);
}

abbrev pub watchdog_of : Watchdog → SbsaWatchdog
watchdog_of w = record {
  refresh_frame = w.refresh_frame;
  control_frame = w.control_frame;
  interrupt = w.interrupt;
  trigger_mode = trigger_of w.trigger;
  polarity = polarity_of w.polarity;
  is_secure = not (w.is_secure == 0);
}

-- the kinds: 0 GT Block, 1 Arm Generic Watchdog
abbrev pub platform_of : PlatformTimer → TimerOf records.GtFrame
platform_of t =
    if t.kind == 0 then kinds.GtBlock (record { address = t.block_address; frames = t.frames })
    else kinds.SbsaWatchdog (watchdog_of t.watchdog)

abbrev pub platform_bytes : PlatformTimer → List ℕ
platform_bytes t = structure_bytes_by (λ f. frame_bytes (frame_of f)) (platform_of t)

abbrev pub platform_checked : PlatformTimer → Result (Unit {0}) WriterError
platform_checked t = structure_checked_by (λ f. frame_checked (frame_of f)) (platform_of t)

-- ---- each kind, polarity and trigger mode that is written is one that there is

abbrev pub is_wired : records.ArmTimer → Bool
is_wired t = is_wiring t.polarity && is_wiring t.trigger

abbrev pub is_frame_wired : records.GtFrame → Bool
is_frame_wired f =
    is_wiring f.physical_polarity && (is_wiring f.physical_trigger
    && (is_wiring f.virtual_polarity && is_wiring f.virtual_trigger))

abbrev pub is_platform_wired : PlatformTimer → Bool
is_platform_wired t =
    if t.kind == 0 then list_all is_frame_wired t.frames.now
    else t.kind == 1 && (is_wiring t.watchdog.polarity && is_wiring t.watchdog.trigger)

abbrev pub has_codes : GtdtContents → Bool
has_codes c =
    is_wired c.timers.secure_el1 && (is_wired c.timers.non_secure_el1 && (is_wired c.timers.virtual_el1
    && (is_wired c.timers.el2 && ((c.timers.virtual_el2.present == 0 || is_wired c.timers.virtual_el2)
    && list_all is_platform_wired c.platform_timers.now))))

-- ---- the table

-- what the GTDT is to contain
abbrev pub contents : GtdtContents → GtdtOf PlatformTimer
contents c = record {
  counter_control_base = base c.timers.control_base;
  secure_el1_timer = timer_of c.timers.secure_el1;
  non_secure_el1_timer = timer_of c.timers.non_secure_el1;
  virtual_el1_timer = timer_of c.timers.virtual_el1;
  el2_timer = timer_of c.timers.el2;
  counter_read_base = base c.timers.read_base;
  virtual_el2_timer = virtual_el2_of c.timers.virtual_el2;
  platform_timers = c.platform_timers;
}

-- the GTDT of records whose codes there are, in a capacity, or the first error
abbrev pub gtdt_laid : ℕ → TableIds → GtdtContents → Result (List ℕ) WriterError
gtdt_laid room i c = gtdt_written_by platform_bytes platform_checked room i (contents c)
