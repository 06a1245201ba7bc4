use Rattle.std.proofs.Common.{◌≡◌}
use Rattle.acpi.specs.Types.{SSDT}
use Rattle.acpi.specs.Words.{accept_of, accepted_by, memory_of, pointers_left, pointers_of, tables_found}
use Rattle.acpi_base.specs.Words.{plain_kind}
use Rattle.acpi_sleep.proofs.Answering.{with_left}
use Rattle.acpi_c_devices.specs.Words.{accepted_answer}
use Rattle.acpi_c_devices.proofs.power.tables_answer.Given as goal

-- the result so far and the SSDTs that are left make the result of all
abbrev pub invariant-loop-address : goal.invariant-loop-address
invariant-loop-address g l =
    let t = l.tables in
    with_left l.state l.answer
    (tables_found (memory_of t) (accepted_by t (plain_kind SSDT)) (pointers_left l.address-iterator))
    ≡ accepted_answer (accept_of t) l.state (memory_of t) (pointers_of t)
