use Rattle.std.proofs.Common.{◌≡◌, ◌*◌, false, length, rules, Some, subst, sym, true}
use Rattle.acpi_base.proofs.FromStd.{first_from_Range}
use Rattle.acpi_base.specs.Words.{at}
use Rattle.acpi.proofs.Among.{before_other, front_refused, only_this, unmapped_refused}
use Rattle.acpi.specs.Words.{is_refused_in}
use Rattle.acpi.proofs.rsdp.areas.candidate_at.Goals as goal

pub returns-in-Ok-clause-refused : goal.returns-in-Ok-clause-refused
returns-in-Ok-clause-refused g c =
    let m = g.H.Lender.memory c.args.handler.now in
    let b = c.lent_bytes-bytes.result.now in
    let there = subst (λ b. at m c.args.address (length b) ≡ Some b) (sym c.lent_bytes-bytes.ensures)
    c.in-Ok.ensures.lent in
    let others = first_from_Range _ _ _ c.find-other.result (λ k. is_refused_in c.args.accept b (16 * k) ≡ false)
    (λ k. is_refused_in c.args.accept b (16 * k) ≡ true) c.find-other.ensures.ran (λ x q k. search rules)
    (λ x q k. search rules) in
    front_refused c.args.accept m c.args.address _ b (g.met.H.Lender.regions c.args.handler.now) there
    (c.in-Err-check_mapped.field-0, rw c.in-Ok.ensures.start at c.in-Err-check_mapped.ensures)
    (λ i some less. before_other (λ k. is_refused_in c.args.accept b (16 * k) ≡ false)
    (λ k. is_refused_in c.args.accept b (16 * k) ≡ true)
    c.args.left c.find-other.result others i some (rw c.unwrap_or.ensures at less))

pub returns-clause-refused : goal.returns-clause-refused
returns-clause-refused g c = only_this c.args.accept _ _ (unmapped_refused c.args.accept _ _ _ c.in-Err.ensures.bytes)
