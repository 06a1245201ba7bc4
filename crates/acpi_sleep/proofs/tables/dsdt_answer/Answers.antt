use Rattle.std.proofs.Common.{ap, subst, sym, ◌∙◌}
use Rattle.acpi.proofs.Asked.{asked_dsdt, asked_fadt}
use Rattle.acpi.specs.Types.{DSDT}
use Rattle.acpi.specs.Words.{dsdt_place_ranges, may_of, memory_of, pointers_of}
use Rattle.acpi_base.specs.Words.{Allows, plain_kind, table_ranges}
use Rattle.acpi_fixed.specs.Words.{dsdt_address_of}
use Rattle.acpi_sleep.proofs.tables.dsdt_answer.Goals as goal

pub find_table-requires : goal.find_table-requires
find_table-requires g c =
    let t = c.args.tables.now in
    asked_fadt (may_of t) 0 dsdt_place_ranges (memory_of t) (pointers_of t) c.requires.asked

pub map_sdt-requires : goal.map_sdt-requires
map_sdt-requires g c =
    let t = c.args.tables.now in
    subst (λ h. Allows (g.H.Lender.may h)
    (table_ranges (g.H.Lender.memory h) (plain_kind DSDT) c.in_ok-dsdt_address.field-0))
    (sym (c.handler.ensures ∙ c.in_ok-fadt.ensures.handler))
    (asked_dsdt (may_of t) 0 (memory_of t) (pointers_of t) _ _ c.requires.asked c.in_ok-fadt.ensures.exact
    (ap dsdt_address_of (sym c.deref.ensures) ∙ sym c.in_ok-dsdt_address.ensures))
