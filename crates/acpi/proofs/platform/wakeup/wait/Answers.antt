use Rattle.std.proofs.Common.{◌≡◌, arith}
use Rattle.acpi.proofs.Calls.{one_read, woken}
use Rattle.acpi.proofs.platform.wakeup.wait.Goals as goal

pub returns-then-read_command-clause-made : goal.returns-then-read_command-clause-made
returns-then-read_command-clause-made g c =
    let answer = g.M.Mailbox.answer c.args.mailbox.now in
    let here : answer c.loop-read._read ≡ 0 = grind (arith, c.loop-read.invariant.moved 0) in
    woken g.M.Mailbox.called answer _ _ _ _ c.loop-read.invariant.made c.read_command.ensures.made here
    c.loop-read.invariant.none

pub loop-read-preserved : goal.loop-read-preserved
loop-read-preserved g c = grind (arith, one_read)
