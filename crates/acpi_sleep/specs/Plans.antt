-- What to write, and where, to sleep, to enable ACPI and to reset (ACPI 6.4, sections 4.8.3.2, 4.8.3.6, 4.8.3.7 and
-- 16.1).
use Rattle.std.specs.Prelude.{ℕ, Bool, ◌+◌, ◌-◌, ◌*◌, ◌^◌, ◌%◌, ◌==◌, ◌&&◌, ◌||◌, nat_le, Some, None, is_none, ok_or, option_map, Result, Ok, Err, if◌then◌else◌}
use Rattle.acpi_base.specs.Words.{◌>>=◌, generic_address_of, has_bit, holds}
use Rattle.acpi.specs.Types.{AcpiError, ByteAccess, Fadt, GenericAddress, SystemIo}
use Rattle.acpi_fixed.specs.Words.{block_of, feature_bits, optional_block_of, register_of, registers_of}
use Rattle.acpi_sleep.specs.declared.error.PlanError.{PlanError}
use Rattle.acpi_sleep.specs.declared.error.PlanError.TheVariants.{BadRegister, NoRegister, NoReset, SleepTypeTooHigh}
use Rattle.acpi_sleep.specs.declared.plan.Plan.{Plan}
use Rattle.acpi_sleep.specs.declared.plan.PlanStep.{PlanStep}
use Rattle.acpi_sleep.specs.declared.plan.StepKind.TheVariants.{Wait, Write}
use Rattle.acpi_sleep.specs.declared.sleep.SleepTypes.{SleepTypes}

-- ---- steps

-- PM1 control (section 4.8.3.2.1): SLP_TYPx, bits 10 to 12, and SLP_EN, bit 13
abbrev pub pm1_step : GenericAddress → ℕ → PlanStep
pm1_step at type = record {
  register = at;
  width = 16;
  mask = 7 * 2 ^ 10 + 2 ^ 13;
  value = type * 2 ^ 10 + 2 ^ 13;
  kind = Write;
}

-- SLEEP_CONTROL_REG (section 4.8.3.7): SLP_TYPx, bits 2 to 4, and SLP_EN, bit 5
abbrev pub sleep_control_step : GenericAddress → ℕ → PlanStep
sleep_control_step at type = record {
  register = at;
  width = 8;
  mask = 7 * 2 ^ 2 + 2 ^ 5;
  value = type * 2 ^ 2 + 2 ^ 5;
  kind = Write;
}

-- PM1 control (section 4.8.3.2.1): SCI_EN, bit 0, is set
abbrev pub sci_step : GenericAddress → PlanStep
sci_step at = record { register = at; width = 16; mask = 2 ^ 0; value = 2 ^ 0; kind = Wait }

-- a whole byte
abbrev pub byte_step : GenericAddress → ℕ → PlanStep
byte_step at value = record { register = at; width = 8; mask = 2 ^ 8 - 1; value = value; kind = Write }

-- the port of a byte
abbrev pub port : ℕ → GenericAddress
port address = record {
  address_space = SystemIo;
  bit_width = 8;
  bit_offset = 0;
  access_size = ByteAccess;
  address = address;
}

-- no step, and one
abbrev pub no_step : Plan
no_step = record { first = None; second = None }

abbrev pub one_step : PlanStep → Plan
one_step step = record { first = Some step; second = None }

-- ---- registers

-- a register's error
abbrev pub in_plan : {A : Type 0} → Result A AcpiError → Result A PlanError
in_plan (Ok x) = Ok x
in_plan (Err e) = Err (BadRegister e)

-- a register at address 0 is none
abbrev pub unless_zero : PlanError → GenericAddress → Result GenericAddress PlanError
unless_zero e at = if at.address == 0 then Err e else Ok at

-- PM1a_CNT
unfoldable pub pm1a_control : Fadt → Result GenericAddress PlanError
pm1a_control f = do
  at ← in_plan (block_of (registers_of f).pm1a_control)
  unless_zero NoRegister at

-- SLEEP_CONTROL_REG
unfoldable pub sleep_control : Fadt → Result GenericAddress PlanError
sleep_control f = do
  given ← in_plan (register_of (registers_of f).sleep_control)
  at ← ok_or given NoRegister
  unless_zero NoRegister at

-- HW_REDUCED_ACPI, bit 20 of the fixed feature flags (section 5.2.9)
abbrev pub is_reduced : Fadt → Bool
is_reduced f = has_bit (feature_bits f.flags) 20

-- ---- plans

-- SLP_TYPx has three bits
abbrev pub fits : ℕ → Bool
fits type = nat_le type 7

-- to enter the sleep state of these types. PM1b_CNT need not be there, and then its type isn't written
unfoldable pub sleep_plan : Fadt → SleepTypes → Result Plan PlanError
sleep_plan f types =
    if is_reduced f then (do
      control ← sleep_control f
      _ ← holds (fits types.a) SleepTypeTooHigh
      Ok (one_step (sleep_control_step control types.a)))
    else (do
      a ← pm1a_control f
      b ← in_plan (optional_block_of (registers_of f).pm1b_control)
      _ ← holds (fits types.a && (is_none b || fits types.b)) SleepTypeTooHigh
      Ok (record { first = Some (pm1_step a types.a); second = option_map (λ at. pm1_step at types.b) b }))

-- whether a machine is always in ACPI mode: reduced hardware, and one without SMI_CMD or a value to write to it
-- (section 5.2.9)
abbrev pub is_always_enabled : Fadt → Bool
is_always_enabled f = is_reduced f || (f.smi_cmd_port == 0 || (f.acpi_enable == 0 && f.acpi_disable == 0))

-- to enable ACPI: ACPI_ENABLE to SMI_CMD, and then until SCI_EN is set (section 4.8.3.2.1)
unfoldable pub enable_plan : Fadt → Result Plan PlanError
enable_plan f =
    if is_always_enabled f then Ok no_step
    else (do
      control ← pm1a_control f
      Ok (record { first = Some (byte_step (port f.smi_cmd_port) f.acpi_enable); second = Some (sci_step control) }))

-- to reset (section 4.8.3.6): RESET_VALUE to RESET_REG, if RESET_REG_SUP, bit 10 of the fixed feature flags, is set
unfoldable pub reset_plan : Fadt → Result Plan PlanError
reset_plan f = do
  _ ← holds (has_bit (feature_bits f.flags) 10) NoReset
  given ← in_plan (generic_address_of (registers_of f).reset)
  at ← unless_zero NoReset given
  Ok (one_step (byte_step at f.reset_value))

-- ---- the power management timer (section 4.8.3.3)

-- TMR_VAL has 32 bits, or 24
abbrev pub timer_bits : Bool → ℕ
timer_bits is_32_bit = if is_32_bit then 32 else 24

-- how far it goes on from one value to another, less than once around
abbrev pub timer_ticks : ℕ → ℕ → ℕ → ℕ
timer_ticks before after bits = (after + 2 ^ 32 - before) % 2 ^ bits
