use Rattle.std.proofs.Common.{◌≡◌, ◌∙◌, ◌==◌, false, Ok, sym, refl, arith, ne_eqb}
use Rattle.acpi_base.proofs.FromStd.{common_steps}
use Rattle.acpi_image.proofs.Checks.{places_left}
use Rattle.acpi_image.specs.WriteChecks as checks
use Rattle.acpi_image.specs.Words.{placed}
use Rattle.acpi_image.proofs.write.checks.check_plan.Goals as goal

pub returns-clause-exact : goal.returns-clause-exact
returns-clause-exact g c =
    let some : (c.args.root_address == 0) ≡ false = ne_eqb _ _ c.if-root_address-eq0.false in
    let are : checks.check_tables 0 (placed c.args.tables.now) ≡ Ok tt = grind (arith, common_steps) in
    c.check_places.ensures.exact
    ∙ places_left (record { address = c.args.rsdp_address; length = 36 })
    (record { address = c.args.root_address; length = c.root_length.result }) c.args.revision c.args.tables.now
    refl c.root_length.ensures some are (sym c.is_short.ensures ∙ c.if-not-is_short.false)
    (sym c.pointers_fit.ensures ∙ c.if-not-pointers_fit.false)
