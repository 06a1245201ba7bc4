use Rattle.std.proofs.Common.{subst, sym}
use Rattle.acpi_base.specs.Words.{Allows, accepted, table_ranges, plain_kind}
use Rattle.acpi.specs.Types.{DSDT}
use Rattle.acpi.proofs.Asked.{asked_dsdt, asked_fadt}
use Rattle.acpi_fixed.specs.Words.{dsdt_address_of}
use Rattle.acpi_base.specs.Ranges as ranges
use Rattle.acpi.specs.Words.{accept_of, accepted_by, may_of, memory_of, pointers_of}
use Rattle.acpi.proofs.tables.AcpiTables.dsdt.Goals as goal

pub find_fadt-requires : goal.find_fadt-requires
find_fadt-requires g c =
    let t = c.args.self.now in
    asked_fadt (may_of t) (accept_of t)
    (λ o f. ranges.◌>>=◌ (dsdt_address_of f) (table_ranges o (accepted_by t (plain_kind DSDT)))) (memory_of t)
    (pointers_of t) c.requires

pub stream_at-requires : goal.stream_at-requires
stream_at-requires g c =
    let t = c.args.self.now in
    subst (λ a. Allows (g.H.Lender.may c.handler.result.now)
    (table_ranges (g.H.Lender.memory c.handler.result.now) (accepted a (plain_kind DSDT))
    c.in_ok-dsdt_address.field-0)) (sym c.bits-accept.ensures)
    (subst (λ h. Allows (g.H.Lender.may h)
    (table_ranges (g.H.Lender.memory h) (accepted_by t (plain_kind DSDT)) c.in_ok-dsdt_address.field-0))
    (sym c.handler.ensures)
    (asked_dsdt (may_of t) (accept_of t) (memory_of t) (pointers_of t) _ _ c.requires c.in_ok-fadt.ensures.exact
    (sym c.in_ok-dsdt_address.ensures)))
