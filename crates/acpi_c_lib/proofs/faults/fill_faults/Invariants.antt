use Rattle.std.proofs.Common.{◌≡◌, ◌+◌, ◌≤◌, length}
use Rattle.acpi.specs.Words.{pointers_left}
use Rattle.acpi_c_lib.specs.Words.{put_from, faults_among, kind_named}
use Rattle.acpi_c_lib.proofs.faults.fill_faults.Given as goal

-- what is written and what is left are the whole, and the count has capacity for what is left
abbrev pub invariant-loop-address : goal.invariant-loop-address
invariant-loop-address g l =
    let found = faults_among l.accept (g.H.AcpiHandler.memory l.handler)
    (kind_named l.signature) in
    let left = found (pointers_left l.address-iterator) in
    let all = found (pointers_left l.initial.address-iterator) in
    (put_from l.out l.count left ≡ put_from l.initial.out 0 all)
    × (l.count + length left ≡ length all)
    × (l.count + length (pointers_left l.address-iterator) ≤ length (pointers_left l.initial.address-iterator))
