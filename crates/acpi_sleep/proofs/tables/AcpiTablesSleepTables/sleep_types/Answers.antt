use Rattle.std.proofs.Common.{Ok, ap, sym, ◌∙◌}
use Rattle.acpi.proofs.Agreed.{from_tables}
use Rattle.acpi_sleep.proofs.Answering.{same_answer_in_ok}
use Rattle.acpi_sleep.proofs.tables.AcpiTablesSleepTables.sleep_types.Goals as goal

pub returns : goal.returns
returns g c =
    let t = c.args.self.now in
    let exact = c.tables_answer.ensures in
    (exact, λ n h. from_tables t _ _ (same_answer_in_ok c.args.state) t.valid n h ∙ ap Ok (sym exact))
