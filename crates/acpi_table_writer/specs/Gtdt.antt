-- The GTDT that is written (ACPI 6.4, section 5.2.24), and that what was given is what is read.
use Rattle.std.specs.Prelude.{◌≡◌, ℕ, ◌+◌, ◌*◌, ◌%◌, ◌^◌, false, List, [], ◌∷◌, ◌++◌, flat_map, length, map, nat_le, Option, Some, None, Result, Ok, All}
use Rattle.std.proofs.Common.{inl, inr}
use Rattle.acpi_table_writer.specs.Types.{◌>>=◌, holds, GTDT, control_base_of, gtdt_at, read_base_of, virtual_el2_of, Timer, missing_of, timers_of, GtFrame, TimerInterrupt, ArmTimer, SbsaWatchdog, WriterError, TooManyFrames, GtdtContents, GtdtOf, PlatformTimerContents, TableIds, TimerOf, Field, U8, U16, U32, U64, Zeros}
use Rattle.acpi_table_writer.specs.Arm.{base_checked, flags_of, is_edge, is_low, modes_checked}
use Rattle.acpi_table_writer.specs.Checked.{all_checked}
use Rattle.acpi_table_writer.specs.Fields.{FitsField, fields_bytes}
use Rattle.acpi_table_writer.specs.Table.{IsTableOf, IsValid, table_written}
use Rattle.acpi_table_writer.specs.declared.gtdt.PlatformTimerContents.TheVariants as kinds

-- ---- parts

-- an address, of which all ones mean none
abbrev pub base_of : Option ℕ → ℕ
base_of (Some address) = address
base_of None = 0xffffffffffffffff

-- Flags of a timer: bit 0 Timer interrupt Mode, 1 Timer Interrupt polarity, 2 Always-on Capability
abbrev pub timer_flags : ArmTimer → ℕ
timer_flags t = flags_of (is_edge t.trigger_mode) (is_low t.polarity) t.always_on false

-- Flags of an interrupt of a frame: bit 0 Timer interrupt Mode, 1 Timer Interrupt polarity
abbrev pub interrupt_flags : TimerInterrupt → ℕ
interrupt_flags t = flags_of (is_edge t.trigger_mode) (is_low t.polarity) false false

-- GT Block Timer Structure (section 5.2.24.1.1)
unfoldable pub frame_fields : GtFrame → List Field
frame_fields f =
    U8 f.number ∷ Zeros 3  -- 0: GT Frame Number, 1: Reserved
    ∷ U64 f.base ∷ U64 (base_of f.el0_base)  -- 4: CntBaseX, 12: CntEL0BaseX
    ∷ U32 f.physical_timer.interrupt  -- 20: GTx Physical Timer GSIV
    ∷ U32 (interrupt_flags f.physical_timer)  -- 24: GTx Physical Timer Flags
    ∷ U32 f.virtual_timer.interrupt  -- 28: GTx Virtual Timer GSIV
    ∷ U32 (interrupt_flags f.virtual_timer)  -- 32: GTx Virtual Timer Flags
    ∷ U32 (flags_of f.is_secure f.is_always_on false false)  -- 36: GTx Common Flags: Secure Timer, Always-on Capability
    ∷ []

abbrev pub frame_bytes : GtFrame → List ℕ
frame_bytes f = fields_bytes (frame_fields f)

-- GT Block (section 5.2.24.1.1) of this number of frames, which are from 20 on
unfoldable pub block_fields : ℕ → ℕ → List Field
block_fields address n =
    U8 0 ∷ U16 ((20 + 40 * n) % 2 ^ 16) ∷ Zeros 1  -- 0: Type, 1: Length, 3: Reserved
    ∷ U64 address  -- 4: GT Block Physical address
    ∷ U32 (n % 2 ^ 32) ∷ U32 20  -- 12: GT Block Timer Count, 16: GT Block Timer Offset
    ∷ []

-- Watchdog Timer Flags: bit 0 Timer interrupt Mode, 1 Timer Interrupt polarity, 2 Secure Timer
abbrev pub watchdog_flags : SbsaWatchdog → ℕ
watchdog_flags w = flags_of (is_edge w.trigger_mode) (is_low w.polarity) w.is_secure false

-- Arm Generic Watchdog (section 5.2.24.1.2)
unfoldable pub watchdog_fields : SbsaWatchdog → List Field
watchdog_fields w =
    U8 1 ∷ U16 28 ∷ Zeros 1  -- 0: Type, 1: Length, 3: Reserved
    ∷ U64 w.refresh_frame  -- 4: RefreshFrame Physical Address
    ∷ U64 w.control_frame  -- 12: WatchdogControlFrame Physical Address
    ∷ U32 w.interrupt ∷ U32 (watchdog_flags w)  -- 20: Watchdog Timer GSIV, 24: Watchdog Timer Flags
    ∷ []

abbrev pub structure_bytes_by : {F : Type 0} → (F → List ℕ) → TimerOf F → List ℕ
structure_bytes_by frame (kinds.GtBlock b) =
    fields_bytes (block_fields b.address (length b.frames.now)) ++ flat_map frame b.frames.now
structure_bytes_by frame (kinds.SbsaWatchdog w) = fields_bytes (watchdog_fields w)

abbrev pub structure_bytes : PlatformTimerContents → List ℕ
structure_bytes x = structure_bytes_by frame_bytes x

-- ---- the table

-- Platform Timer Count
abbrev pub timer_count : {T : Type 0} → GtdtOf T → ℕ
timer_count c = length c.platform_timers.now % 2 ^ 32

-- the fields after the header
unfoldable pub gtdt_fields : {T : Type 0} → GtdtOf T → List Field
gtdt_fields c =
    U64 (base_of c.counter_control_base) ∷ Zeros 4  -- 36: CntControlBase Physical Address, 44: Reserved
    ∷ U32 c.secure_el1_timer.interrupt  -- 48: Secure EL1 Timer GSIV
    ∷ U32 (timer_flags c.secure_el1_timer)  -- 52: Secure EL1 Timer Flags
    ∷ U32 c.non_secure_el1_timer.interrupt  -- 56: Non-Secure EL1 Timer GSIV
    ∷ U32 (timer_flags c.non_secure_el1_timer)  -- 60: Non-Secure EL1 Timer Flags
    ∷ U32 c.virtual_el1_timer.interrupt  -- 64: Virtual EL1 Timer GSIV
    ∷ U32 (timer_flags c.virtual_el1_timer)  -- 68: Virtual EL1 Timer Flags
    ∷ U32 c.el2_timer.interrupt ∷ U32 (timer_flags c.el2_timer)  -- 72: EL2 Timer GSIV, 76: EL2 Timer Flags
    ∷ U64 (base_of c.counter_read_base)  -- 80: CntReadBase Physical Address
    ∷ U32 (timer_count c) ∷ U32 104  -- 88: Platform Timer Count, 92: Platform Timer Offset
    ∷ U32 c.virtual_el2_timer.interrupt  -- 96: Virtual EL2 Timer GSIV
    ∷ U32 (timer_flags c.virtual_el2_timer)  -- 100: Virtual EL2 Timer Flags
    ∷ []

-- after the header: the fields, and from 104 on the Platform Timer Structures
abbrev pub gtdt_body_by : {T : Type 0} → (T → List ℕ) → GtdtOf T → List ℕ
gtdt_body_by structure c = fields_bytes (gtdt_fields c) ++ flat_map structure c.platform_timers.now

abbrev pub gtdt_body : GtdtContents → List ℕ
gtdt_body c = gtdt_body_by structure_bytes c

-- ---- errors

abbrev pub timer_checked : ArmTimer → Result (Unit {0}) WriterError
timer_checked t = modes_checked t.trigger_mode t.polarity

abbrev pub frame_checked : GtFrame → Result (Unit {0}) WriterError
frame_checked f = do
  _ ← base_checked f.el0_base
  _ ← modes_checked f.physical_timer.trigger_mode f.physical_timer.polarity
  modes_checked f.virtual_timer.trigger_mode f.virtual_timer.polarity

-- Length of a GT Block, two bytes, has no place for more frames: 20 + 40 * 1637 is 65500
abbrev pub structure_checked_by : {F : Type 0} → (F → Result (Unit {0}) WriterError) → TimerOf F
    → Result (Unit {0}) WriterError
structure_checked_by frame (kinds.GtBlock b) = do
  _ ← holds (nat_le (length b.frames.now) 1637) TooManyFrames
  all_checked frame b.frames.now
structure_checked_by frame (kinds.SbsaWatchdog w) = modes_checked w.trigger_mode w.polarity

abbrev pub structure_checked : PlatformTimerContents → Result (Unit {0}) WriterError
structure_checked x = structure_checked_by frame_checked x

abbrev pub gtdt_checked_by : {T : Type 0} → (T → Result (Unit {0}) WriterError) → GtdtOf T
    → Result (Unit {0}) WriterError
gtdt_checked_by structure c = do
  _ ← base_checked c.counter_control_base
  _ ← timer_checked c.secure_el1_timer
  _ ← timer_checked c.non_secure_el1_timer
  _ ← timer_checked c.virtual_el1_timer
  _ ← timer_checked c.el2_timer
  _ ← base_checked c.counter_read_base
  _ ← timer_checked c.virtual_el2_timer
  all_checked structure c.platform_timers.now

abbrev pub gtdt_checked : GtdtContents → Result (Unit {0}) WriterError
gtdt_checked c = gtdt_checked_by structure_checked c

-- the table, of revision 3, in so much room, or the first error
unfoldable pub gtdt_written_by : {T : Type 0} → (T → List ℕ) → (T → Result (Unit {0}) WriterError) → ℕ → TableIds
    → GtdtOf T → Result (List ℕ) WriterError
gtdt_written_by structure checked room ids c = do
  _ ← gtdt_checked_by checked c
  table_written room GTDT 3 ids (gtdt_body_by structure c)

abbrev pub gtdt_written : ℕ → TableIds → GtdtContents → Result (List ℕ) WriterError
gtdt_written room ids c = gtdt_written_by structure_bytes structure_checked room ids c

-- ---- which numbers have a place

abbrev pub FitsFrame : GtFrame → Type 0
FitsFrame f = All FitsField (frame_fields f)

abbrev pub FitsWatchdog : SbsaWatchdog → Type 0
FitsWatchdog w = All FitsField (watchdog_fields w)

abbrev pub FitsStructureBy : {F : Type 0} → (F → Type 0) → TimerOf F → Type 0
FitsStructureBy FitsOne (kinds.GtBlock b) = All FitsField (block_fields b.address (length b.frames.now))
    × All FitsOne b.frames.now
FitsStructureBy FitsOne (kinds.SbsaWatchdog w) = FitsWatchdog w

abbrev pub FitsStructure : PlatformTimerContents → Type 0
FitsStructure x = FitsStructureBy FitsFrame x

abbrev pub AreTimersFitBy : {T : Type 0} → (T → Type 0) → GtdtOf T → Type 0
AreTimersFitBy FitsOne c = All FitsField (gtdt_fields c) × All FitsOne c.platform_timers.now

abbrev pub AreTimersFit : GtdtContents → Type 0
AreTimersFit c = AreTimersFitBy FitsStructure c

-- the bytes are the table of contents that have a place
pub record IsGtdtBy {T : Type 0} (structure : T → List ℕ) (passed : T → Result (Unit {0}) WriterError)
    (FitsOne : T → Type 0) (ids : TableIds) (c : GtdtOf T) (table : List ℕ) : Type 0 where
  pub written : IsTableOf GTDT 3 ids (gtdt_body_by structure c) table
  pub fit : AreTimersFitBy FitsOne c
  pub checked : gtdt_checked_by passed c ≡ Ok tt

abbrev pub IsGtdt : TableIds → GtdtContents → List ℕ → Type 0
IsGtdt ids c table = IsGtdtBy structure_bytes structure_checked FitsStructure ids c table

-- ---- laws

-- such a table is valid
abbrev pub GtdtIsValid : Type 0
GtdtIsValid = (ids : TableIds) (c : GtdtContents) (table : List ℕ) → IsGtdt ids c table → IsValid GTDT table

-- a timer of the platform as a walk shows it
abbrev pub timer_read : PlatformTimerContents → Timer
timer_read (kinds.GtBlock b) = inl (b.address, b.frames.now)
timer_read (kinds.SbsaWatchdog w) = inr w

-- the table contains what was passed, and its structures are whole
pub record SaysTimers (c : GtdtContents) (table : List ℕ) : Type 0 where
  pub control : control_base_of (gtdt_at table) ≡ c.counter_control_base
  pub secure_el1 : (gtdt_at table).secure_el1_timer ≡ c.secure_el1_timer
  pub non_secure_el1 : (gtdt_at table).non_secure_el1_timer ≡ c.non_secure_el1_timer
  pub virtual_el1 : (gtdt_at table).virtual_el1_timer ≡ c.virtual_el1_timer
  pub el2 : (gtdt_at table).el2_timer ≡ c.el2_timer
  pub read : read_base_of (gtdt_at table) ≡ c.counter_read_base
  pub virtual_el2 : virtual_el2_of (gtdt_at table) ≡ Some c.virtual_el2_timer
  pub platform : timers_of table ≡ map timer_read c.platform_timers.now
  pub whole : missing_of table ≡ 0

-- and contains exactly what was passed, the timers of the platform in order
abbrev pub GtdtIsRead : Type 0
GtdtIsRead = (ids : TableIds) (c : GtdtContents) (table : List ℕ) → IsGtdt ids c table → SaysTimers c table
