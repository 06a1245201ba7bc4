-- The commands of the wakeup mailbox (ACPI 6.4, section 5.2.12.19).
use Rattle.std.specs.Prelude.{ℕ, List, [], ◌∷◌, slice_get, Result, ok_or}
use Rattle.acpi_base.specs.Types.{MpProtectedModeWakeupCommand, Noop, Wakeup, Sleep, AcceptPages}

-- Command: the commands of the mailbox, from number 0 on
abbrev pub commands : List MpProtectedModeWakeupCommand
commands = Noop ∷ Wakeup ∷ Sleep ∷ AcceptPages ∷ []

-- the command of a number; a number that none has is returned
abbrev pub command_of : ℕ → Result MpProtectedModeWakeupCommand ℕ
command_of number = ok_or (slice_get commands number) number
