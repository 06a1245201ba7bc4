-- The sleep types that the tables of a machine contain: the types of the first block of AML that has them, of the DSDT
-- and then the SSDTs in the root table's order (ACPI 6.4, sections 5.2.11.1, 5.2.11.2 and 7.4.2).
use Rattle.std.specs.Prelude.{◌≡◌, ℕ, All, List, [], ◌∷◌, ◌++◌, drop, map, nat_le, Result, Ok, Err, if◌then◌else◌}
use Rattle.acpi_base.specs.Words.{Memory, Ranges, ◌>>=◌, header_at, plain_kind, table_at}
use Rattle.acpi.specs.Types.{AcpiError, DSDT, Fadt, SSDT, Signature}
use Rattle.acpi.specs.Words.{dsdt_ranges, by_first_fadt, ssdt_ranges, tables_found}
use Rattle.acpi_fixed.specs.Words.{dsdt_address_of}
use Rattle.acpi_sleep.specs.Steps.{sleep_types_of}
use Rattle.acpi_sleep.specs.declared.error.AmlError.{AmlError}
use Rattle.acpi_sleep.specs.declared.error.SleepError.{SleepError}
use Rattle.acpi_sleep.specs.declared.error.SleepError.TheVariants.{Acpi, Aml, NoSuchState}
use Rattle.acpi_sleep.specs.declared.sleep.SleepAnswer.{SleepAnswer}
use Rattle.acpi_sleep.specs.declared.sleep.SleepAnswer.TheVariants.{Absent, NotSeen, Types}
use Rattle.acpi_sleep.specs.declared.sleep.SleepTypes.{SleepTypes}
use Rattle.acpi_sleep.specs.declared.tables.Ssdt.{Ssdt}

-- the table SSDT, at least 36 bytes
unfoldable pub ssdt_at : List ℕ → Ssdt
ssdt_at b = record { header = header_at b }

-- ---- one block

-- what is returned of a state
abbrev pub Answer : Type 0
Answer = Result SleepAnswer SleepError

-- an error of AML, with the signature of the block's table
abbrev pub in_block : Signature → Result SleepAnswer AmlError → Answer
in_block s (Ok answer) = Ok answer
in_block s (Err e) = Err (Aml s e)

-- what the block of a table returns: the AML after the 36 bytes of its header
unfoldable pub block_answer : Signature → ℕ → List ℕ → Answer
block_answer s state table = in_block s (sleep_types_of (drop 36 table) state)

-- what is returned of a table, or why there is none
abbrev pub joined : Result Answer AcpiError → Answer
joined (Ok answer) = answer
joined (Err e) = Err (Acpi e)

-- the result of the DSDT that a FADT leads to
abbrev pub dsdt_said : ℕ → Memory → Fadt → Result Answer AcpiError
dsdt_said state m f = do
  address ← dsdt_address_of f
  table ← table_at m (plain_kind DSDT) address
  Ok (block_answer DSDT state table)

-- that of the DSDT of the first valid FADT
unfoldable pub dsdt_answer : ℕ → Memory → List ℕ → Answer
dsdt_answer state m ps = joined (by_first_fadt (dsdt_said state) m ps)

-- the results of the valid SSDTs, in order
abbrev pub ssdt_answers : ℕ → List (ℕ × List ℕ) → List Answer
ssdt_answers state ssdts = map (λ found. block_answer SSDT state found.1) ssdts

-- ---- all blocks

-- a block's result before that of the blocks after it: types, its own first; else the first that isn't `Absent`
abbrev pub or_after : Answer → Answer → Answer
or_after (Ok (Types types)) after = Ok (Types types)
or_after (Ok Absent) after = after
or_after unknown (Ok (Types types)) = Ok (Types types)
or_after unknown after = unknown

abbrev pub first_answer : List Answer → Answer
first_answer [] = Ok Absent
first_answer (answer ∷ answers) = or_after answer (first_answer answers)

-- what the tables return of a state, of which there are S0 to S5
abbrev pub tables_answer : ℕ → Memory → List ℕ → Answer
tables_answer state m ps =
    if nat_le state 5
    then or_after (dsdt_answer state m ps) (first_answer (ssdt_answers state (tables_found m (plain_kind SSDT) ps)))
    else Err NoSuchState

-- its ranges: the DSDT's, and each member's, as an SSDT
abbrev pub answer_ranges : Memory → List ℕ → Ranges
answer_ranges m ps = dsdt_ranges m ps ++ ssdt_ranges m ps

-- ---- what the answer of blocks one after another is, in words

abbrev pub HasNoTypes : Answer → Type 0
HasNoTypes answer = (types : SleepTypes) → answer ≡ Ok (Types types) → ⊥

-- it is that of the first block that has types
pub record FirstTypes (answers : List Answer) (types : SleepTypes) : Type 0 where
  pub front : List Answer
  pub back : List Answer
  pub split : answers ≡ front ++ Ok (Types types) ∷ back
  pub before : All HasNoTypes front

-- no block has types, and it is that of the first that isn't `Absent`
pub record FirstUnknown (answers : List Answer) (answer : Answer) : Type 0 where
  pub front : List Answer
  pub back : List Answer
  pub split : answers ≡ front ++ answer ∷ back
  pub before : All (λ a. a ≡ Ok Absent) front
  pub none : All HasNoTypes answers

abbrev pub IsFirstAnswer : List Answer → Answer → Type 0
IsFirstAnswer answers (Ok (Types types)) = FirstTypes answers types
IsFirstAnswer answers (Ok Absent) = All (λ a. a ≡ Ok Absent) answers
IsFirstAnswer answers (Ok (NotSeen at)) = FirstUnknown answers (Ok (NotSeen at))
IsFirstAnswer answers (Err e) = FirstUnknown answers (Err e)

abbrev pub AnswerIsFirst : Type 0
AnswerIsFirst = (answers : List Answer) → IsFirstAnswer answers (first_answer answers)
