use Rattle.std.proofs.Common.{◌≡◌, length}
use Rattle.acpi_base.specs.Words.{items_left}
use Rattle.acpi_base.proofs.model.items.MadtItemsIterator.next.Given as goal

-- what was passed over says nothing
abbrev pub invariant-loop-entry : goal.invariant-loop-entry
invariant-loop-entry l = items_left l.self ≡ items_left l.fn.self

abbrev pub decreases-loop-entry : goal.decreases-loop-entry
decreases-loop-entry l = length l.self.rest.now
