-- Waking a processor by the mailbox (ACPI 6.4, section 5.2.12.19).
use Rattle.std.specs.Prelude.{◌≡◌, ◌≢◌, ◌<◌, ◌+◌, ◌++◌, ℕ, List, [], ◌∷◌, Option, Some, Result, Ok, Err, MatchResult, OnOk, replicate}
use Rattle.acpi_base.specs.Words.{mailbox_of, Memory, ◌>>=◌}
use Rattle.acpi.specs.Types.{AcpiError, InvalidMadt, WakeupApsTimeout}
use Rattle.acpi.specs.Lookup.{lookup}
use Rattle.acpi.specs.Platform.{madt_kind}
use Rattle.acpi.specs.declared.platform.mailbox.MailboxCall.{MailboxCall}
use Rattle.acpi.specs.declared.platform.mailbox.MailboxCall.TheVariants.{Opened, Read, Wrote}
use Rattle.acpi.specs.declared.platform.mailbox.MailboxWrite.{MailboxWrite}
use Rattle.acpi.specs.declared.platform.mailbox.MailboxWrite.TheVariants.{ApicId, Command, WakeupVector}

-- where the mailbox of the first valid MADT is
abbrev pub mailbox_found : Memory → List ℕ → Result ℕ AcpiError
mailbox_found m ps = do
  found ← lookup m madt_kind ps
  mailbox_of found.1

-- what opening the mailbox returns, if each address has this result
abbrev pub opening : (ℕ → Result (Unit {0}) AcpiError) → Result ℕ AcpiError
    → Result (Unit {0}) AcpiError
opening answers found = found >>= answers

-- ---- reading the command

-- the results to come after are the ones from the n-th on before: n reads were made
abbrev pub AfterReads : (ℕ → ℕ) → ℕ → (ℕ → ℕ) → Type 0
AfterReads before n after = (j : ℕ) → after j ≡ before (j + n)

-- none of the first n results is 0
abbrev pub NoneBelow : (ℕ → ℕ) → ℕ → Type 0
NoneBelow answer n = (k : ℕ) → k < n → answer k ≢ 0

-- the first result 0 comes under n, and it is the last that was read
abbrev pub Wakes : (ℕ → ℕ) → ℕ → (ℕ → ℕ) → Type 0
Wakes before n after =
    (i : ℕ) × (i < n) × (before i ≡ 0) × NoneBelow before i × AfterReads before (i + 1) after

-- no result under n is 0, and n were read
abbrev pub Waits : (ℕ → ℕ) → ℕ → (ℕ → ℕ) → Type 0
Waits before n after = NoneBelow before n × AfterReads before n after

-- a call that returns with `result` reads up to the first result 0, or else n of them, and fails then
abbrev pub WakesOrWaits : (ℕ → ℕ) → ℕ → Result (Unit {0}) AcpiError → (ℕ → ℕ) → Type 0
WakesOrWaits before n result after = MatchResult result (λ _. Wakes before n after)
    (λ e. (e ≡ InvalidMadt WakeupApsTimeout) × Waits before n after)

-- ---- the calls that are made

-- these calls and no others lead from one state of a mailbox to another, one after the other
abbrev pub Makes : {Mailbox : Type 0} → (Mailbox → MailboxCall → Mailbox → Type 0) → Mailbox
    → List MailboxCall → Mailbox → Type 0
Makes called before [] after = after ≡ before
Makes {Mailbox = Mailbox} called before (call ∷ calls) after =
    (next : Mailbox) × called before call next × Makes called next calls after

-- that many reads of the command
abbrev pub reads : ℕ → List MailboxCall
reads n = replicate n Read

-- what the mailbox gets before Command is read: Command 0 (Noop), ApicId, WakeupVector and Command 1 (Wakeup)
abbrev pub commands : ℕ → ℕ → List MailboxWrite
commands id vector = Command 0 ∷ ApicId id ∷ WakeupVector vector ∷ Command 1 ∷ []

-- it is opened, and gets these
abbrev pub wakes_by : ℕ → ℕ → ℕ → List MailboxCall
wakes_by address id vector =
    Opened address ∷ Wrote (Command 0) ∷ Wrote (ApicId id) ∷ Wrote (WakeupVector vector)
    ∷ Wrote (Command 1) ∷ []

-- after these calls the command is read up to the first result 0, and no further
abbrev pub MakesUntilWoken : {Mailbox : Type 0} → (Mailbox → MailboxCall → Mailbox → Type 0)
    → (ℕ → ℕ) → Mailbox → List MailboxCall → Mailbox → Type 0
MakesUntilWoken called answer before calls after =
    (i : ℕ) × (answer i ≡ 0) × NoneBelow answer i × Makes called before (calls ++ reads (i + 1)) after

-- after these calls a call that returns with `result` reads the command so, or else n times
abbrev pub MakesAndReads : {Mailbox : Type 0} → (Mailbox → MailboxCall → Mailbox → Type 0) → (ℕ → ℕ)
    → Mailbox → List MailboxCall → ℕ → Result (Unit {0}) AcpiError → Mailbox → Type 0
MakesAndReads called answer before calls n result after =
    MatchResult result (λ _. MakesUntilWoken called answer before calls after)
    (λ _. Makes called before (calls ++ reads n) after)

-- ---- a call that wakes a processor

-- what a call that returns with `result` does to a mailbox, whose address was looked for with the outcome `found`
pub record IsWakeup {Mailbox : Type 0} (open_answer : Mailbox → ℕ → Result (Unit {0}) AcpiError)
    (opened : Mailbox → Option ℕ) (writes : Mailbox → List MailboxWrite) (answer : Mailbox → ℕ → ℕ)
    (called : Mailbox → MailboxCall → Mailbox → Type 0) (found : Result ℕ AcpiError) (id vector most : ℕ)
    (before : Mailbox) (result : Result (Unit {0}) AcpiError) (after : Mailbox) : Type 0 where
  -- with none that opens nothing is done
  pub refused : (e : AcpiError) → opening (open_answer before) found ≡ Err e → (result ≡ Err e) × (after ≡ before)
  -- these calls are made of it, in this order, and no others
  pub made : (a : ℕ) → found ≡ Ok a
      → OnOk (open_answer before a)
      (MakesAndReads called (answer before) before (wakes_by a id vector) most result after)
  pub answers_kept : (a : ℕ) → open_answer after a ≡ open_answer before a
  pub is_open : (a : ℕ) → found ≡ Ok a → OnOk (open_answer before a) (opened after ≡ Some a)
  pub is_written : OnOk (opening (open_answer before) found) (writes after ≡ commands id vector)
  pub is_answered :
      OnOk (opening (open_answer before) found) (WakesOrWaits (answer before) most result (answer after))
