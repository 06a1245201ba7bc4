use Rattle.std.proofs.Common.{◌≡◌, Ok, subst, sym}
use Rattle.acpi_base.specs.Words.{Allows, Gives}
use Rattle.acpi.specs.Words.{accepted_in_areas, areas_ranges, opened_of, placed}
use Rattle.acpi.proofs.Among.{asked_found_in, asked_search_in}
use Rattle.acpi.proofs.Agreed.{by_areas, same_opened_in_areas}
use Rattle.acpi.proofs.tables.AcpiTables.search_in_accepting.Goals as goal

pub search_in_accepting-requires : goal.search_in_accepting-requires
search_in_accepting-requires g c =
    let h = c.args.handler.now in
    let m = g.H.Lender.memory h in
    subst (λ b. Allows (g.H.Lender.may h) (areas_ranges b m c.args.areas.now)) (sym c.bits.ensures)
    (asked_search_in (g.H.Lender.may h) (g.P.Policy.bits c.args.policy) m c.args.areas.now c.requires)

pub open_read-requires : goal.open_read-requires
open_read-requires g c =
    let h = c.args.handler.now in
    let m = g.H.Lender.memory h in
    let there = subst (λ bits. accepted_in_areas bits m c.args.areas.now ≡ Ok (placed c.in_ok-rsdp.rsdp)) c.bits.ensures
    c.in_ok-rsdp.ensures.exact in
    asked_found_in (g.H.Lender.may h) (g.P.Policy.bits c.args.policy) m c.args.areas.now
    (placed c.in_ok-rsdp.rsdp) c.requires there

pub returns-clause-exact : goal.returns-clause-exact
returns-clause-exact g c =
    let m = g.H.Lender.memory c.args.handler.now in
    let there = subst (λ bits. accepted_in_areas bits m c.args.areas.now ≡ Ok (placed c.in_ok-rsdp.rsdp)) c.bits.ensures
    c.in_ok-rsdp.ensures.exact in
    by_areas (λ t. opened_of t) (g.P.Policy.bits c.args.policy) m c.open_read.result c.args.areas.now
    (placed c.in_ok-rsdp.rsdp) there
    c.open_read.ensures.exact

pub returns-clause-footprint : goal.returns-clause-footprint
returns-clause-footprint g c n h =
    subst (λ o. Gives (λ t. opened_of t) c.open_read.result o)
    (sym (same_opened_in_areas (g.P.Policy.bits c.args.policy)
    (g.H.Lender.memory c.args.handler.now) n c.args.areas.now h))
    (returns-clause-exact g c)
