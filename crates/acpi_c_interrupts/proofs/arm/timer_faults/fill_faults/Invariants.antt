use Rattle.std.proofs.Common.{◌≡◌, ◌+◌, ◌-◌, ◌≤◌, length}
use Rattle.acpi_c_lib.specs.Words.{put_from, faults_from}
use Rattle.acpi_c_interrupts.specs.Words.{cut, timer_count, timers_grammar, gtdt_faults_of, last_faults, timer_fault, timers_cut}
use Rattle.acpi_c_interrupts.proofs.arm.timer_faults.fill_faults.Given as goal

-- what is written and what is left are the whole, the same number of structures is missing before the same rest, what
-- is left ends in the table, and no more are counted than there were bytes
abbrev pub invariant-loop-structure : goal.invariant-loop-structure
invariant-loop-structure l =
    let left = cut (timers_grammar l.left) l.rest in
    let faults = faults_from timer_fault (last_faults l.table) l.at left.0 in
    let all = gtdt_faults_of (l.address, l.table) in
    (put_from l.out l.count faults ≡ put_from l.initial.out 0 all)
    × (l.count + length faults ≡ length all)
    × (l.left - length left.0 ≡ timer_count l.table - length (timers_cut l.table).0)
    × (left.1 ≡ (timers_cut l.table).1)
    × (l.at + length l.rest ≤ l.address + length l.table)
    × (l.count + length l.rest ≤ length l.table)

abbrev pub decreases-loop-structure : goal.decreases-loop-structure
decreases-loop-structure l = length l.rest
