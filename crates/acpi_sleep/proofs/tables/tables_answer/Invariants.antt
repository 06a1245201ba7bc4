use Rattle.std.proofs.Common.{◌≡◌}
use Rattle.acpi.specs.Types.{SSDT}
use Rattle.acpi.specs.Words.{found_left, of_tables}
use Rattle.acpi_base.specs.Words.{plain_kind}
use Rattle.acpi_sleep.proofs.Answering.{with_left}
use Rattle.acpi_sleep.specs.Words.{tables_answer}
use Rattle.acpi_sleep.proofs.tables.tables_answer.Given as goal

-- the answer so far and the SSDTs that are left come to the answer of all
abbrev pub invariant-loop-ssdt : goal.invariant-loop-ssdt
invariant-loop-ssdt g l =
    with_left l.state l.answer (found_left g.H.Lender.memory (plain_kind SSDT) l.ssdt-iterator)
    ≡ of_tables l.tables (tables_answer l.state)
