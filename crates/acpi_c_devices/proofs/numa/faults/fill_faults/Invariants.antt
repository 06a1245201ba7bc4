use Rattle.std.proofs.Common.{◌≡◌, ◌+◌, ◌≤◌, length}
use Rattle.acpi_c_lib.specs.Words.{put_from, fault_at, faults_from, rest_faults}
use Rattle.acpi_c_devices.specs.Words.{cut, revision_of, srat_grammar, srat_fault, srat_faults_of, InvalidSratEntryLength}
use Rattle.acpi_c_devices.proofs.numa.faults.fill_faults.Given as goal

-- what is written and what is left are the whole, the address is that of what is left, and no more are counted than
-- there were bytes
abbrev pub invariant-loop-entry : goal.invariant-loop-entry
invariant-loop-entry l =
    let left = cut srat_grammar l.rest in
    let rest = rest_faults InvalidSratEntryLength left.1 in
    let faults = faults_from (fault_at (srat_fault l.revision)) rest l.at left.0 in
    let all = srat_faults_of (l.address, l.table) in
    (put_from l.out l.count faults ≡ put_from l.initial.out 0 all)
    × (l.count + length faults ≡ length all)
    × (l.grammar ≡ srat_grammar)
    × (l.revision ≡ revision_of l.table)
    × (l.at + length l.rest ≡ l.address + length l.table)
    × (l.count + length l.rest ≤ length l.table)

abbrev pub decreases-loop-entry : goal.decreases-loop-entry
decreases-loop-entry l = length l.rest
