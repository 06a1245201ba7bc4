-- The generic timers of an Arm machine (GTDT, section 5.2.24) as C gets them.
use Rattle.std.specs.Prelude.{ℕ, ◌-◌, ◌^◌, nat_lt, Bool, List, [], ◌∷◌, ◌++◌, map, replicate, Option, Some, None, Result, filter_map, unwrap_or}
use Rattle.std.proofs.Common.{inl, inr}
use Rattle.acpi_arm.specs.Gtdt.{virtual_el2_of}
pub use Rattle.acpi_arm.specs.declared.frames.GtFrame.{GtFrame}
use Rattle.acpi_c_lib.specs.Answers.{flag}
use Rattle.acpi_c_interrupts.specs.Types.{polarity_code, trigger_code, control_base_of, gtdt_at, gtdt_kind, read_base_of, Timer, each_of, missing_of, ArmTimer, Gtdt, SbsaWatchdog, ArmTimers, Watchdog, Refusal, Source}
use Rattle.acpi_c_lib.specs.Below.{below_first}
use Rattle.acpi_c_interrupts.specs.Records as records

-- what is shown of the bytes of the first valid GTDT
abbrev pub gtdt_below : {A : Type 0} → Source → (List ℕ → A) → Result A Refusal
gtdt_below s show = below_first gtdt_kind s show

-- an address, or all ones for none
abbrev pub or_ones : Option ℕ → ℕ
or_ones address = unwrap_or address (2 ^ 64 - 1)

-- ---- the timers of every processor

abbrev pub arm_timer_record : ArmTimer → records.ArmTimer
arm_timer_record t = record {
  interrupt = t.interrupt;
  polarity = polarity_code t.polarity;
  trigger = trigger_code t.trigger_mode;
  always_on = flag t.always_on;
  present = 1;
}

abbrev pub arm_timer_or : Option ArmTimer → records.ArmTimer
arm_timer_or (Some t) = arm_timer_record t
arm_timer_or None = record { interrupt = 0; polarity = 0; trigger = 0; always_on = 0; present = 0 }

-- a table's fixed fields, and whether its platform timers end malformed
abbrev pub timers_record : Gtdt → Bool → ArmTimers
timers_record t is_malformed = record {
  control_base = or_ones (control_base_of t);
  read_base = or_ones (read_base_of t);
  secure_el1 = arm_timer_record t.secure_el1_timer;
  non_secure_el1 = arm_timer_record t.non_secure_el1_timer;
  virtual_el1 = arm_timer_record t.virtual_el1_timer;
  el2 = arm_timer_record t.el2_timer;
  virtual_el2 = arm_timer_or (virtual_el2_of t);
  platform_timers_malformed = flag is_malformed;
  reserved = replicate 7 0;
}

abbrev pub timers_shown : List ℕ → ArmTimers
timers_shown table = timers_record (gtdt_at table) (nat_lt 0 (missing_of table))

-- ---- the frames of blocks of timers (section 5.2.24.1.1)

-- a frame of the block at an address
abbrev pub frame_record : ℕ → GtFrame → records.GtFrame
frame_record block f = record {
  block_address = block;
  address = f.base;
  el0_address = or_ones f.el0_base;
  physical_interrupt = f.physical_timer.interrupt;
  virtual_interrupt = f.virtual_timer.interrupt;
  number = f.number;
  physical_polarity = polarity_code f.physical_timer.polarity;
  physical_trigger = trigger_code f.physical_timer.trigger_mode;
  virtual_polarity = polarity_code f.virtual_timer.polarity;
  virtual_trigger = trigger_code f.virtual_timer.trigger_mode;
  is_secure = flag f.is_secure;
  is_always_on = flag f.is_always_on;
  reserved = 0;
}

-- the frames of a timer, if it is a block
abbrev pub frames_in : Timer → List records.GtFrame
frames_in (inl (block, frames)) = map (frame_record block) frames
frames_in (inr watchdog) = []

-- the frames of all timers, in order
abbrev pub frames_of : List Timer → List records.GtFrame
frames_of [] = []
frames_of (t ∷ timers) = frames_in t ++ frames_of timers

abbrev pub frames_shown : List ℕ → List records.GtFrame
frames_shown table = frames_of (each_of table)

-- ---- watchdogs (section 5.2.24.1.2)

abbrev pub watchdog_record : SbsaWatchdog → Watchdog
watchdog_record w = record {
  refresh_frame = w.refresh_frame;
  control_frame = w.control_frame;
  interrupt = w.interrupt;
  polarity = polarity_code w.polarity;
  trigger = trigger_code w.trigger_mode;
  is_secure = flag w.is_secure;
  reserved = 0;
}

-- a timer, if it is a watchdog
abbrev pub watchdog_in : Timer → Option Watchdog
watchdog_in (inl block) = None
watchdog_in (inr watchdog) = Some (watchdog_record watchdog)

-- the watchdogs of all timers, in order
abbrev pub watchdogs_of : List Timer → List Watchdog
watchdogs_of timers = filter_map watchdog_in timers

abbrev pub watchdogs_shown : List ℕ → List Watchdog
watchdogs_shown table = watchdogs_of (each_of table)
