use Rattle.std.proofs.Common.{◌≡◌, length}
use Rattle.acpi.specs.Words.{found_left, pointers_left}
use Rattle.acpi.proofs.matches.FoundTablesIterator.next.Given as goal

-- what was passed over gives no item
abbrev pub invariant-loop-address : goal.invariant-loop-address
invariant-loop-address g l =
    found_left g.H.Lender.memory g.T.AcpiTable.kind l.self ≡ found_left g.H.Lender.memory g.T.AcpiTable.kind l.fn.self

abbrev pub decreases-loop-address : goal.decreases-loop-address
decreases-loop-address g l = length (pointers_left l.self.pointers)
