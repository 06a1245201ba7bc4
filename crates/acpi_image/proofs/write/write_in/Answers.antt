use Rattle.std.proofs.Common.{◌∙◌, sym}
use Rattle.acpi_image.proofs.Checks.{handed_on, root_short, tables_long}
use Rattle.acpi_image.proofs.write.write_in.Goals as goal

pub returns-in_err-check_plan-clause-exact : goal.returns-in_err-check_plan-clause-exact
returns-in_err-check_plan-clause-exact g c =
    handed_on _ _ _ _ c.from_residual.ensures.1 c.in_err-check_plan.ensures.named
    (sym c.check_plan.ensures.exact ∙ c.in_err-check_plan.was)

pub put_records-requires-clause-short : goal.put_records-requires-clause-short
put_records-requires-clause-short g c = root_short _ _ _ _ _ (sym c.check_plan.ensures.exact ∙ c.in_ok-check_plan.was)

pub put_records-requires-clause-long : goal.put_records-requires-clause-long
put_records-requires-clause-long g c = tables_long _ _ _ _ _ (sym c.check_plan.ensures.exact ∙ c.in_ok-check_plan.was)
