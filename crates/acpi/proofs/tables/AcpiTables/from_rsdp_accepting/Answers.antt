use Rattle.std.proofs.Common.{◌≡◌, Ok, subst, sym}
use Rattle.acpi_base.specs.Words.{Allows, Gives, bytes_of, start_of}
use Rattle.acpi.specs.Words.{accepted_opened, accepted_root, accepted_rsdp_at, accepted_rsdp_ranges, opened_of, root_ranges_of}
use Rattle.acpi.proofs.Asked.{asked_first, asked_root}
use Rattle.acpi.proofs.Agreed.{by_rsdp, same_opened_by_rsdp}
use Rattle.acpi.proofs.tables.AcpiTables.from_rsdp_accepting.Goals as goal

pub map_accepted_rsdp-requires : goal.map_accepted_rsdp-requires
map_accepted_rsdp-requires g c =
    let h = c.args.handler.now in
    let m = g.H.Lender.memory h in
    subst (λ b. Allows (g.H.Lender.may h) (accepted_rsdp_ranges b m c.args.address)) (sym c.bits.ensures)
    (asked_first (g.H.Lender.may h) (g.P.Policy.bits c.args.policy) m c.args.address c.requires)

pub open_read-requires : goal.open_read-requires
open_read-requires g c =
    let h = c.args.handler.now in
    let m = g.H.Lender.memory h in
    let bits = g.P.Policy.bits c.args.policy in
    let b = bytes_of c.in_ok-rsdp.rsdp in
    let there = subst (λ bits. accepted_rsdp_at bits m c.args.address ≡ Ok b) c.bits.ensures
    c.in_ok-rsdp.ensures.rsdp in
    subst (λ a. Allows (g.H.Lender.may h) (root_ranges_of bits m (a, b))) (sym c.in_ok-rsdp.ensures.place)
    (asked_root (g.H.Lender.may h) bits m c.args.address b c.requires there)

pub returns-clause-exact : goal.returns-clause-exact
returns-clause-exact g c =
    let m = g.H.Lender.memory c.args.handler.now in
    let bits = g.P.Policy.bits c.args.policy in
    let b = bytes_of c.in_ok-rsdp.rsdp in
    let there = subst (λ bits. accepted_rsdp_at bits m c.args.address ≡ Ok b) c.bits.ensures
    c.in_ok-rsdp.ensures.rsdp in
    by_rsdp (λ t. opened_of t) bits m c.open_read.result c.args.address b there
    (subst (λ a. Gives (λ t. opened_of t) c.open_read.result (accepted_opened bits m (accepted_root bits m (a, b))))
    c.in_ok-rsdp.ensures.place c.open_read.ensures.exact)

pub returns-clause-footprint : goal.returns-clause-footprint
returns-clause-footprint g c n h =
    subst (λ o. Gives (λ t. opened_of t) c.open_read.result o)
    (sym (same_opened_by_rsdp (g.P.Policy.bits c.args.policy)
    (g.H.Lender.memory c.args.handler.now) n c.args.address h))
    (returns-clause-exact g c)
