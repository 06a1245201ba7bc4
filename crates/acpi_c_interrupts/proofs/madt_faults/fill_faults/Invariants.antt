use Rattle.std.proofs.Common.{◌≡◌, ◌+◌, ◌≤◌, length}
use Rattle.acpi_c_lib.specs.Words.{put_from, fault_at, faults_from, rest_faults}
use Rattle.acpi_c_interrupts.specs.Words.{cut, madt_grammar, InvalidEntryLength, madt_fault, madt_faults_of, madt_refusal}
use Rattle.acpi_c_interrupts.proofs.madt_faults.fill_faults.Given as goal

-- what is written and what is left are the whole, the address is that of what is left, and no more are counted than
-- there were bytes
abbrev pub invariant-loop-entry : goal.invariant-loop-entry
invariant-loop-entry l =
    let left = cut madt_grammar l.rest in
    let faults = faults_from (fault_at madt_fault) (rest_faults (madt_refusal InvalidEntryLength) left.1) l.at left.0 in
    let all = madt_faults_of (l.address, l.table) in
    (put_from l.out l.count faults ≡ put_from l.initial.out 0 all)
    × (l.count + length faults ≡ length all)
    × (l.grammar ≡ madt_grammar)
    × (l.at + length l.rest ≡ l.address + length l.table)
    × (l.count + length l.rest ≤ length l.table)

abbrev pub decreases-loop-entry : goal.decreases-loop-entry
decreases-loop-entry l = length l.rest
