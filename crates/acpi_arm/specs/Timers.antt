-- The timers of the platform, in structures that the GTDT counts (ACPI 6.4, section 5.2.24.1).
use Rattle.std.specs.Prelude.{◌≡◌, ◌⊎◌, ℕ, zero, suc, ◌+◌, ◌-◌, ◌*◌, ◌/◌, ◌==◌, ◌&&◌, ◌||◌, Bool, min, not, nat_le, nat_lt, List, [], ◌∷◌, length, drop, Option, Some, None, if◌then◌else◌, filter_map}
use Rattle.std.proofs.Common.{inl, inr}
use Rattle.acpi_base.specs.Words.{has_bit, field_of, cut}
use Rattle.acpi.specs.Types.{EntryLayout, Grammar, One, Two}
use Rattle.acpi_arm.specs.Gtdt.{polarity_in, trigger_in, unless_ones}
use Rattle.acpi_arm.specs.declared.frames.GtFrame.{GtFrame}
use Rattle.acpi_arm.specs.declared.frames.GtFrameIter.{GtFrameIter}
use Rattle.acpi_arm.specs.declared.frames.TimerInterrupt.{TimerInterrupt}
use Rattle.acpi_arm.specs.declared.structures.TimerStructureIter.{TimerStructureIter}
use Rattle.acpi_arm.specs.declared.timers.PlatformTimer.{PlatformTimer}
use Rattle.acpi_arm.specs.declared.timers.PlatformTimer.TheVariants as kinds
use Rattle.acpi_arm.specs.declared.timers.PlatformTimerIter.{PlatformTimerIter}
use Rattle.acpi_arm.specs.declared.timers.SbsaWatchdog.{SbsaWatchdog}

-- ---- one structure

-- it begins with Type, one byte at 0, and Length, two bytes at 1. The least lengths are a GT Block's, type 0, and an
-- Arm Generic Watchdog's, type 1
abbrev pub timers_layout : EntryLayout 2
timers_layout = record {
  kind_place = record { at = 0; width = One };  -- Type
  length_place = record { at = 1; width = Two };  -- Length
  least_lengths = 20 ∷ 28 ∷ [];
  least_of_others = 4;
}

-- at most that many of them
abbrev pub timers_grammar : ℕ → Grammar 2
timers_grammar count = record { layout = timers_layout; most = Some count }

-- GSIV, the interrupt, at an offset, and Flags in the four bytes after it
abbrev pub interrupt_at : List ℕ → ℕ → TimerInterrupt
interrupt_at b offset = record {
  interrupt = field_of b offset 4;  -- GSIV
  trigger_mode = trigger_in (field_of b (offset + 4) 4) 0;  -- Flags, bit 0: Timer interrupt Mode
  polarity = polarity_in (field_of b (offset + 4) 4) 1;  -- Flags, bit 1: Timer Interrupt polarity
}

-- GT Block Timer Structure: a frame of a GT Block (section 5.2.24.1.1)
abbrev pub frame_at : List ℕ → GtFrame
frame_at b = record {
  number = field_of b 0 1;  -- GT Frame Number
  base = field_of b 4 8;  -- GTx Physical address (CntBaseX)
  el0_base = unless_ones (field_of b 12 8);  -- GTx Physical address (CntEL0BaseX)
  physical_timer = interrupt_at b 20;  -- GTx Physical Timer GSIV, GTx Physical Timer Flags
  virtual_timer = interrupt_at b 28;  -- GTx Virtual Timer GSIV, GTx Virtual Timer Flags
  is_secure = has_bit (field_of b 36 4) 0;  -- GTx Common Flags, bit 0: Secure Timer
  is_always_on = has_bit (field_of b 36 4) 1;  -- GTx Common Flags, bit 1: Always-on Capability
}

-- that many frames of 40 bytes, one after the other
abbrev pub frames_in : ℕ → List ℕ → List GtFrame
frames_in zero bytes = []
frames_in (suc n) bytes = frame_at bytes ∷ frames_in n (drop 40 bytes)

-- Type of a structure: 0 is a GT Block, 1 an Arm Generic Watchdog
abbrev pub kind_of : List ℕ → ℕ
kind_of e = field_of e 0 1

-- of a GT Block: how many frames it has, and where they begin, from the structure's first byte on

abbrev pub frame_count : List ℕ → ℕ
frame_count e = field_of e 12 4  -- GT Block Timer Count

abbrev pub frames_offset : List ℕ → ℕ
frames_offset e = field_of e 16 4  -- GT Block Timer Offset

-- how many of them are between the block's 20 fixed bytes and its end
abbrev pub frames_there : List ℕ → ℕ
frames_there e =
    if nat_lt (frames_offset e) 20 then 0 else min (frame_count e) ((length e - frames_offset e) / 40)

-- where in the block no further frame begins, from its first byte on; at most at its end
abbrev pub frames_end : List ℕ → ℕ
frames_end e = min (frames_offset e + 40 * frames_there e) (length e)

-- the first n of them
abbrev pub first_frames : ℕ → List ℕ → List GtFrame
first_frames n e = frames_in n (drop (frames_offset e) e)

abbrev pub frames_of : List ℕ → List GtFrame
frames_of e = first_frames (frame_count e) e

-- the frames, if there are some, are between the block's 20 fixed bytes and its end
abbrev pub frames_fit : List ℕ → Bool
frames_fit e =
    (frame_count e == 0)
    || (nat_le 20 (frames_offset e) && nat_le (frames_offset e + 40 * frame_count e) (length e))

-- a structure that isn't malformed: only a block, type 0, can still be
abbrev pub is_sound : List ℕ → Bool
is_sound e = not (kind_of e == 0) || frames_fit e

-- Arm Generic Watchdog (section 5.2.24.1.2)
abbrev pub watchdog_at : List ℕ → SbsaWatchdog
watchdog_at e = record {
  refresh_frame = field_of e 4 8;  -- RefreshFrame Physical Address
  control_frame = field_of e 12 8;  -- WatchdogControlFrame Physical Address
  interrupt = field_of e 20 4;  -- Watchdog Timer GSIV
  trigger_mode = trigger_in (field_of e 24 4) 0;  -- Watchdog Timer Flags, bit 0: Timer interrupt Mode
  polarity = polarity_in (field_of e 24 4) 1;  -- Watchdog Timer Flags, bit 1: Timer Interrupt polarity
  is_secure = has_bit (field_of e 24 4) 2;  -- Watchdog Timer Flags, bit 2: Secure Timer
}

-- GT Block Physical address, at 4, of a block with its frames, or a watchdog
abbrev pub Timer : Type 0
Timer = (ℕ × List GtFrame) ⊎ SbsaWatchdog

-- what a structure contains, a block with its first n frames; nothing for a type that isn't defined
abbrev pub timer_with : ℕ → List ℕ → Option Timer
timer_with n e =
    if kind_of e == 0 then Some (inl (field_of e 4 8, first_frames n e))
    else if kind_of e == 1 then Some (inr (watchdog_at e))
    else None

-- with all of them, and with the ones that are there
abbrev pub timer_of : List ℕ → Option Timer
timer_of e = timer_with (frame_count e) e

abbrev pub timer_there : List ℕ → Option Timer
timer_there e = timer_with (frames_there e) e

-- ---- all structures of a table

-- Platform Timer Count, at 88: how many there are; tables of a Revision, at 8, below 2 have none
abbrev pub timer_count : List ℕ → ℕ
timer_count table = if nat_lt (field_of table 8 1) 2 then 0 else field_of table 88 4

-- Platform Timer Offset, at 92: where in the table they begin; at most at its end
abbrev pub timers_offset : List ℕ → ℕ
timers_offset table = min (field_of table 92 4) (length table)

-- the bytes from there on; they can't begin in the first 96 bytes
abbrev pub timer_bytes : List ℕ → List ℕ
timer_bytes table =
    if nat_lt (field_of table 92 4) 96 then [] else drop (field_of table 92 4) table

-- what each structure by itself contains, up to the first malformed front
abbrev pub each_in : ℕ → List ℕ → List Timer
each_in count bytes = filter_map timer_there (cut (timers_grammar count) bytes).0

abbrev pub each_of : List ℕ → List Timer
each_of table = each_in (timer_count table) (timer_bytes table)

-- the structures before the first one that is malformed
abbrev pub sound_front : List (List ℕ) → List (List ℕ)
sound_front [] = []
sound_front (e ∷ es) = if is_sound e then e ∷ sound_front es else []

-- that many structures in these bytes, up to the first malformed one
abbrev pub structures_in : ℕ → List ℕ → List (List ℕ)
structures_in count bytes = sound_front (cut (timers_grammar count) bytes).0

-- what the structures of defined types contain
abbrev pub timers_in : ℕ → List ℕ → List Timer
timers_in count bytes = filter_map timer_of (structures_in count bytes)

-- how many of them are missing: the end is malformed if some are
abbrev pub missing_in : ℕ → List ℕ → ℕ
missing_in count bytes = count - length (structures_in count bytes)

abbrev pub timers_of : List ℕ → List Timer
timers_of table = timers_in (timer_count table) (timer_bytes table)

abbrev pub missing_of : List ℕ → ℕ
missing_of table = missing_in (timer_count table) (timer_bytes table)

-- ---- walks

abbrev pub frames_left : GtFrameIter → List GtFrame
frames_left s = frames_in s.left s.rest.now

-- what an item shows
abbrev pub shown_in : PlatformTimer → Timer
shown_in (kinds.GtBlock block) = inl (block.address, frames_left block.frames)
shown_in (kinds.SbsaWatchdog watchdog) = inr watchdog

-- the timers still to come
abbrev pub timers_left : PlatformTimerIter → List Timer
timers_left s = timers_in s.left s.rest.now

abbrev pub each_left : TimerStructureIter → List Timer
each_left s = each_in s.left s.rest.now

-- how many structures will be missing
abbrev pub missing_left : PlatformTimerIter → ℕ
missing_left s = missing_in s.left s.rest.now

-- whether it has returned that no timer is left
abbrev pub has_ended : PlatformTimerIter → Bool
has_ended s = s.ended

-- whether it has, and structures are missing: what `ended_malformed` returns
abbrev pub is_malformed : PlatformTimerIter → Bool
is_malformed s = s.ended && nat_lt 0 s.left

-- a step leaves what is missing as it is, and has ended exactly if it returns no timer
abbrev pub EndsWhereMissing : PlatformTimerIter → Option PlatformTimer → PlatformTimerIter → Type 0
EndsWhereMissing s (Some timer) t =
    (missing_left t ≡ missing_left s) × (has_ended t ≡ has_ended s)
EndsWhereMissing s None t =
    (missing_left t ≡ missing_left s) × (is_malformed t ≡ nat_lt 0 (missing_left s))
