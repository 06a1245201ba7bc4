use Rattle.std.proofs.Common.{map, option_copied}
use Rattle.acpi_view_lib.proofs.Reports.{front_kept, front_none, some_report, stopped}
use Rattle.acpi_view_lib.proofs.run.run.Goals as goal

pub returns-in_default : goal.returns-in_default
returns-in_default g c =
    let some = some_report c.parse_command.result (option_copied c.args.image) in
    stopped (map (λ w. w.now) c.args.words.now) _ (option_copied c.args.image) _ _ _ _ _ _ _
    c.parse_command.ensures some.1
    (front_none _ _) (front_none _ _)

pub returns : goal.returns
returns g c =
    stopped (map (λ w. w.now) c.args.words.now) _ (option_copied c.args.image) _ _ _ _ _ _ _ c.parse_command.ensures
    c.in-Ok.ensures
    (front_kept _ _ _ _ c.write_report-is_printed.ensures.front c.flush.ensures.bytes)
    (front_kept _ _ _ _ c.write_report-is_printed.ensures.err_front c.flush-2.ensures.bytes)
