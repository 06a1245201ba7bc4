use Rattle.std.proofs.Common.{◌≡◌, ◌∙◌, ℕ, Result, Ok, Err, IfErr, ap, arith, false, refl, subst, sym, bytes_eq}
use Rattle.acpi_base.specs.Words.{AcpiError, Kind, Memory, Signature, accepted, check_names, lent, part, table_at}
use Rattle.acpi_base.proofs.Accepted.{another_accepted, no_accepted}
use Rattle.acpi_base.proofs.FromStd.{common_steps}
use Rattle.acpi_base.proofs.OwnTable.{is_signature}
use Rattle.acpi_base.proofs.table.lookup.claim_header.Goals as goal

-- without a header no table is accepted for any kind
unmapped : {X : Type 0} (m : Memory) (s : Signature) (p : ℕ) (r : Result X AcpiError)
    → ((e : AcpiError) → r ≡ Err e → lent m p 36 ≡ Err e)
    → IfErr r (λ e. (accept : ℕ) (k : Kind) → k.signature ≡ s → k.names ≡ check_names s
    → table_at m (accepted accept k) p ≡ Err e)
unmapped m s p (Ok claim) refused = tt
unmapped m s p (Err e) refused = λ accept k same names. no_accepted accept m k p e (refused e refl)

pub returns-clause-signature : goal.returns-clause-signature
returns-clause-signature g c = is_signature c.args.signature c.leading.result _
    (c.leading.ensures ∙ ap (λ b. part b 0 4) c.shown.ensures) (sym c.is.ensures ∙ c.if-not-is.false)

pub returns-in_err-head-clause-unaccepted : goal.returns-in_err-head-clause-unaccepted
returns-in_err-head-clause-unaccepted g c =
    unmapped (g.H.Lender.memory c.args.handler.now) c.args.signature c.args.address c.from_residual.result
    (λ e refused. grind (arith, common_steps))

pub returns-then-not-is-clause-unaccepted : goal.returns-then-not-is-clause-unaccepted
returns-then-not-is-clause-unaccepted g c = λ accept k same names.
    another_accepted accept _ k c.args.signature c.args.address _ same names c.in_ok-head.ensures.shown
    (subst (λ letters. bytes_eq letters c.args.signature.0 ≡ false)
    (c.leading.ensures ∙ ap (λ b. part b 0 4) c.shown.ensures) (sym c.is.ensures ∙ c.if-not-is.true))
