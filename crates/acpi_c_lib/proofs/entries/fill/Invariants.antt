use Rattle.std.proofs.Common.{◌≡◌, ◌+◌, ◌≤◌, length}
use Rattle.acpi_c_lib.specs.Words.{cut, put_from, entries_from, plain_grammar}
use Rattle.acpi_c_lib.proofs.entries.fill.Given as goal

-- what is written and what is left are the whole, the address is that of what is left, and no more are counted than
-- there were bytes
abbrev pub invariant-loop-entry : goal.invariant-loop-entry
invariant-loop-entry l =
    let left = cut (plain_grammar l.fn.layout) l.rest in
    let all = cut (plain_grammar l.fn.layout) l.bytes in
    (put_from l.out l.count (entries_from l.fn.layout l.at left.0) ≡ put_from l.initial.out 0
    (entries_from l.fn.layout l.address all.0))
    × (l.count + length (entries_from l.fn.layout l.at left.0) ≡ length (entries_from l.fn.layout l.address all.0))
    × (left.1 ≡ all.1)
    × (l.grammar ≡ plain_grammar l.fn.layout)
    × (l.at + length l.rest ≡ l.address + length l.bytes)
    × (l.count + length l.rest ≤ length l.bytes)

abbrev pub decreases-loop-entry : goal.decreases-loop-entry
decreases-loop-entry l = length l.rest
