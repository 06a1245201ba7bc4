use Rattle.std.proofs.Common.{◌≡◌, ℕ, List, ap, subst, sym, ◌∙◌}
use Rattle.acpi_base.proofs.Words.{all_back, all_front}
use Rattle.acpi_base.specs.Words.{Allows, bytes_of, start_of}
use Rattle.acpi.specs.Rsdp.{root_of}
use Rattle.acpi.specs.Words.{accepted_opened_ranges, accepted_rsdp, reading_ranges}
use Rattle.acpi.proofs.tables.AcpiTables.open_read.Goals as goal

pub read_accepted-requires : goal.read_accepted-requires
read_accepted-requires g c =
    let h = c.args.handler.now in
    let found : ℕ × List ℕ = (start_of c.args.rsdp, bytes_of c.args.rsdp) in
    subst (λ bits. Allows (g.H.Lender.may h) (reading_ranges bits found)) (sym c.bits.ensures)
    (all_front (g.H.Lender.may h) (reading_ranges (g.P.Policy.bits c.args.policy) found) _ c.requires)

pub open_accepting-requires : goal.open_accepting-requires
open_accepting-requires g c =
    let h = c.args.handler.now in
    let m = g.H.Lender.memory h in
    let bits = g.P.Policy.bits c.args.policy in
    let found : ℕ × List ℕ = (start_of c.args.rsdp, bytes_of c.args.rsdp) in
    let read = subst (λ b. c.read_accepted.result ≡ accepted_rsdp b m found) c.bits.ensures c.read_accepted.ensures in
    subst (λ place. Allows (g.H.Lender.may h) (accepted_opened_ranges bits m place))
    (sym (c.root-root_pointer.ensures ∙ ap root_of read))
    (all_back (g.H.Lender.may h) (reading_ranges bits found) _ c.requires)
