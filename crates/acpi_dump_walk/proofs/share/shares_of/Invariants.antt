use Rattle.std.proofs.Common.{length}
use Rattle.acpi_dump_walk.proofs.share.shares_of.Given as goal

-- each entry leaves fewer bytes
abbrev pub decreases-loop-others : goal.decreases-loop-others
decreases-loop-others l = length l.rest
