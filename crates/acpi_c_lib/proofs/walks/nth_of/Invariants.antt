use Rattle.std.proofs.Common.{◌≡◌}
use Rattle.acpi.specs.Words.{accept_of, memory_of, pointers_left, pointers_of}
use Rattle.acpi_c_lib.specs.Words.{nth_in}
use Rattle.acpi_c_lib.proofs.walks.nth_of.Given as goal

-- the table is at the index `before` among what is left
abbrev pub invariant-loop-address : goal.invariant-loop-address
invariant-loop-address g l =
    let t = l.tables in
    nth_in (accept_of t) (memory_of t) l.signature l.before (pointers_left l.address-iterator)
    ≡ nth_in (accept_of t) (memory_of t) l.signature l.initial.before (pointers_of t)
