use Rattle.std.proofs.Common.{◌≡◌, ℕ}
use Rattle.acpi.specs.Words.{AfterReads, Makes, NoneBelow, reads}
use Rattle.acpi.proofs.platform.wakeup.wait.Given as goal

-- no answer so far was 0, and nothing was opened or written
abbrev pub invariant-loop-read : goal.invariant-loop-read
invariant-loop-read g l = record {
  moved : AfterReads (g.M.Mailbox.answer l.fn.mailbox) l._read (g.M.Mailbox.answer l.mailbox);
  made : Makes g.M.Mailbox.called l.fn.mailbox (reads l._read) l.mailbox;
  none : NoneBelow (g.M.Mailbox.answer l.fn.mailbox) l._read;
  opened : g.M.Mailbox.opened l.mailbox ≡ g.M.Mailbox.opened l.fn.mailbox;
  written : g.M.Mailbox.writes l.mailbox ≡ g.M.Mailbox.writes l.fn.mailbox;
  kept : (a : ℕ) → g.M.Mailbox.open_answer l.mailbox a ≡ g.M.Mailbox.open_answer l.fn.mailbox a;
}
