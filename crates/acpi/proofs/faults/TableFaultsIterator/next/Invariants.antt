use Rattle.std.proofs.Common.{◌≡◌, length}
use Rattle.acpi.specs.Words.{pointers_left, faults_left}
use Rattle.acpi.proofs.faults.TableFaultsIterator.next.Given as goal

-- what was passed over gives no item
abbrev pub invariant-loop-address : goal.invariant-loop-address
invariant-loop-address g l =
    let m = g.H.Lender.memory in
    let k = g.T.AcpiTable.kind in
    faults_left m k l.self ≡ faults_left m k l.fn.self

abbrev pub decreases-loop-address : goal.decreases-loop-address
decreases-loop-address g l = length (pointers_left l.self.pointers)
