use Rattle.std.proofs.Common.{◌≡◌, length}
use Rattle.acpi_base.specs.Words.{lines_left}
use Rattle.acpi_base.proofs.model.nmi_lines.LocalNmiLinesIterator.next.Given as goal

-- what was passed over is not this processor's
abbrev pub invariant-loop-line : goal.invariant-loop-line
invariant-loop-line l = lines_left l.self ≡ lines_left l.fn.self

abbrev pub decreases-loop-line : goal.decreases-loop-line
decreases-loop-line l = length l.self.lines.now
