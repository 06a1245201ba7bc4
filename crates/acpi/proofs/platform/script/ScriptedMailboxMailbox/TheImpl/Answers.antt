use Rattle.std.proofs.Common.{rules}
use Rattle.acpi.proofs.platform.script.ScriptedMailboxMailbox.TheImpl.Goals as goal

-- it never refuses
pub open-tells : goal.open-tells
open-tells g c = rw c.ensures.answered (search rules)
