use Rattle.std.proofs.Common.{◌≡◌, ◌-◌, length}
use Rattle.acpi_pack_lib.specs.Words.{entries_left}
use Rattle.acpi_pack_lib.proofs.sources.FilesOfRoleIterator.next.Given as goal

-- what was passed over is not of the role
abbrev pub invariant-loop-self : goal.invariant-loop-self
invariant-loop-self l = entries_left l.self ≡ entries_left l.fn.self

abbrev pub decreases-loop-self : goal.decreases-loop-self
decreases-loop-self l = length l.self.files.now - l.self.index
