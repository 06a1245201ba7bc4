use Rattle.std.proofs.Common.{◌≡◌, Ok, subst, sym}
use Rattle.acpi_base.specs.Words.{Allows, Gives}
use Rattle.acpi.specs.Words.{accepted_found_rsdp, accepted_search_ranges, opened_of, placed}
use Rattle.acpi.proofs.Asked.{asked_found, asked_search}
use Rattle.acpi.proofs.Agreed.{by_search, same_opened_by_search}
use Rattle.acpi.proofs.tables.AcpiTables.search_for_rsdp_bios_accepting.Goals as goal

pub search_for_on_bios_accepting-requires : goal.search_for_on_bios_accepting-requires
search_for_on_bios_accepting-requires g c =
    let h = c.args.handler.now in
    let m = g.H.Lender.memory h in
    subst (λ b. Allows (g.H.Lender.may h) (accepted_search_ranges b m)) (sym c.bits.ensures)
    (asked_search (g.H.Lender.may h) (g.P.Policy.bits c.args.policy) m c.requires)

pub open_read-requires : goal.open_read-requires
open_read-requires g c =
    let h = c.args.handler.now in
    let m = g.H.Lender.memory h in
    let there = subst (λ bits. accepted_found_rsdp bits m ≡ Ok (placed c.in_ok-rsdp.rsdp)) c.bits.ensures
    c.in_ok-rsdp.ensures.exact in
    asked_found (g.H.Lender.may h) (g.P.Policy.bits c.args.policy) m (placed c.in_ok-rsdp.rsdp) c.requires there

pub returns-clause-exact : goal.returns-clause-exact
returns-clause-exact g c =
    let m = g.H.Lender.memory c.args.handler.now in
    let there = subst (λ bits. accepted_found_rsdp bits m ≡ Ok (placed c.in_ok-rsdp.rsdp)) c.bits.ensures
    c.in_ok-rsdp.ensures.exact in
    by_search (λ t. opened_of t) (g.P.Policy.bits c.args.policy) m c.open_read.result (placed c.in_ok-rsdp.rsdp) there
    c.open_read.ensures.exact

pub returns-clause-footprint : goal.returns-clause-footprint
returns-clause-footprint g c n h =
    subst (λ o. Gives (λ t. opened_of t) c.open_read.result o)
    (sym (same_opened_by_search (g.P.Policy.bits c.args.policy) (g.H.Lender.memory c.args.handler.now) n h))
    (returns-clause-exact g c)
