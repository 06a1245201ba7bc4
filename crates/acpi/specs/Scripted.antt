-- What a scripted mailbox shows besides what each mailbox means.
use Rattle.std.specs.Prelude.{◌≡◌, ◌++◌, ◌∷◌, ℕ, List, [], Option, length, nat_lt, slice_index_or, take, if◌then◌else◌}
use Rattle.acpi.specs.declared.platform.mailbox.MailboxCall.{MailboxCall}
use Rattle.acpi.specs.declared.platform.mailbox.MailboxCall.TheVariants.{Wrote}
use Rattle.acpi.specs.declared.platform.mailbox.MailboxWrite.{MailboxWrite}
use Rattle.acpi.specs.declared.platform.script.ScriptedMailbox.{ScriptedMailbox}

-- the address that was opened
abbrev pub opened_of : ScriptedMailbox → Option ℕ
opened_of s = s.opened

-- the writes since then
abbrev pub writes_of : ScriptedMailbox → List MailboxWrite
writes_of s = take s.written s.writes

-- the result of the i-th read from now: 1 if the script has ended
abbrev pub answer_of : ScriptedMailbox → ℕ → ℕ
answer_of s i = slice_index_or s.answers.now i 1

-- how many reads there were
abbrev pub reads_of : ScriptedMailbox → ℕ
reads_of s = s.reads

-- the calls so far, at most 32
abbrev pub calls_of : ScriptedMailbox → List MailboxCall
calls_of s = take s.called s.calls

-- a call is listed last, if there are fewer than 32
abbrev pub Lists : ScriptedMailbox → MailboxCall → ScriptedMailbox → Type 0
Lists before call after = calls_of after
    ≡ (if nat_lt (length (calls_of before)) 32 then calls_of before ++ call ∷ [] else calls_of before)

-- a write was put last, and nothing else changed but the list of calls
abbrev pub Puts : ScriptedMailbox → MailboxWrite → ScriptedMailbox → Type 0
Puts before write after = (writes_of after ≡ writes_of before ++ write ∷ [])
    × (opened_of after ≡ opened_of before) × ((i : ℕ) → answer_of after i ≡ answer_of before i)
    × (reads_of after ≡ reads_of before) × Lists before (Wrote write) after
