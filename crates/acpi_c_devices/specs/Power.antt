-- Sleep types, and what to write to sleep, to enable ACPI and to reset, as C gets them.
use Rattle.std.specs.Prelude.{ℕ, ◌+◌, ◌&&◌, List, ◌∷◌, nat_le, replicate, Option, Some, None, Result, Ok, Err, if◌then◌else◌}
use Rattle.std.specs.Option.{is_some}
use Rattle.acpi_base.specs.Words.{Memory, plain_kind, ◌>>=◌, accepted, holds, table_at}
use Rattle.acpi.specs.Types.{AcpiError, DSDT, Fadt, SSDT}
use Rattle.acpi.specs.Words.{fadt_kind, lookup, tables_found}
use Rattle.acpi_fixed.specs.Words.{dsdt_address_of, fadt_at}
use Rattle.acpi_sleep.specs.Words as sleep
use Rattle.acpi_sleep.specs.declared.error.SleepError.TheVariants as errors
use Rattle.acpi_sleep.specs.declared.plan.StepKind.TheVariants as kinds
use Rattle.acpi_sleep.specs.declared.sleep.SleepAnswer.TheVariants as answers
use Rattle.acpi_c_lib.specs.Answers.{flag}
use Rattle.acpi_c_lib.specs.Below.{below, first_table}
use Rattle.acpi_c_devices.specs.Devices.{optional_register}
use Rattle.acpi_c_devices.specs.Types.{Plan, PlanError, PlanStep, SleepError, SleepTypes, Step, StepKind, Refusal, Source, NoSuchState, SleepStateAbsent, SleepStateNotSeen, SleepTypeTooHigh}
use Rattle.acpi_c_devices.specs.Records as records
use Rattle.acpi_c_lib.specs.Refusals.{plan_refusal, sleep_refusal}

-- ---- sleep types

-- that a state can't be entered, or that it isn't known whether it can, is an error too
abbrev pub types_said : sleep.Answer → Result SleepTypes Refusal
types_said (Ok (answers.Types types)) = Ok types
types_said (Ok answers.Absent) = Err SleepStateAbsent
types_said (Ok (answers.NotSeen at)) = Err SleepStateNotSeen
types_said (Err e) = Err (sleep_refusal e)

-- the result of the DSDT that the first accepted FADT points to
abbrev pub dsdt_answer : ℕ → ℕ → Memory → List ℕ → Result sleep.Answer AcpiError
dsdt_answer accept state m ps = do
  found ← lookup m (accepted accept fadt_kind) ps
  address ← dsdt_address_of (fadt_at found.1)
  table ← table_at m (accepted accept (plain_kind DSDT)) address
  Ok (sleep.block_answer DSDT state table)

-- the result of that and of the SSDTs that are accepted; by 0 it is `tables_answer`
abbrev pub accepted_answer : ℕ → ℕ → Memory → List ℕ → sleep.Answer
accepted_answer accept state m ps =
    if nat_le state 5
    then sleep.or_after (sleep.joined (dsdt_answer accept state m ps))
    (sleep.first_answer (sleep.ssdt_answers state (tables_found m (accepted accept (plain_kind SSDT)) ps)))
    else Err errors.NoSuchState

abbrev pub types_below : Source → ℕ → Result SleepTypes Refusal
types_below s state = below s (λ m ps. types_said (accepted_answer s.accept state m ps))

-- each has one byte
abbrev pub types_record : SleepTypes → Result records.SleepTypes Refusal
types_record types = do
  _ ← holds (nat_le types.a 255 && nat_le types.b 255) SleepTypeTooHigh
  Ok (record { a = types.a; b = types.b })

abbrev pub sleep_types_below : Source → ℕ → Result records.SleepTypes Refusal
sleep_types_below s state = types_below s state >>= types_record

-- ---- plans

abbrev pub kind_code : StepKind → ℕ
kind_code kinds.Write = 0
kind_code kinds.Wait = 1

-- a step, or zeros
abbrev pub step_record : Option PlanStep → Step
step_record (Some s) = record {
  at = optional_register (Ok (Some s.register));
  mask = s.mask;
  value = s.value;
  width = s.width;
  kind = kind_code s.kind;
  reserved = replicate 6 0;
}
step_record None = record {
  at = optional_register (Ok None);
  mask = 0;
  value = 0;
  width = 0;
  kind = 0;
  reserved = replicate 6 0;
}

-- eight steps, of which those after the last are zeros
abbrev pub plan_record : Plan → records.Plan
plan_record p = record {
  steps = step_record p.first ∷ step_record p.second ∷ replicate 6 (step_record None);
  count = flag (is_some p.first) + flag (is_some p.second);
  reserved = replicate 4 0;
}

abbrev pub plan_said : Result Plan PlanError → Result records.Plan Refusal
plan_said (Ok p) = Ok (plan_record p)
plan_said (Err e) = Err (plan_refusal e)

-- a plan by the first valid FADT
abbrev pub plan_below : Source → (Fadt → Result Plan PlanError) → Result records.Plan Refusal
plan_below s plan = do
  table ← first_table fadt_kind s
  plan_said (plan (fadt_at table))

abbrev pub sleep_plan_below : Source → ℕ → Result records.Plan Refusal
sleep_plan_below s state = do
  types ← types_below s state
  plan_below s (λ f. sleep.sleep_plan f types)

abbrev pub enable_plan_below : Source → Result records.Plan Refusal
enable_plan_below s = plan_below s sleep.enable_plan

abbrev pub reset_plan_below : Source → Result records.Plan Refusal
reset_plan_below s = plan_below s sleep.reset_plan
