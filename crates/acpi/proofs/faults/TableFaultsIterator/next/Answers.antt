use Rattle.std.proofs.Common.{sym, refl, ◌∙◌}
use Rattle.acpi_base.specs.Words.{accepted, table_at}
use Rattle.acpi.proofs.Asked.{asked_passed, asked_peeked, faults_peeked, no_faults, valid_last}
use Rattle.acpi.specs.Words.{pointers_left}
use Rattle.acpi.proofs.faults.TableFaultsIterator.next.Goals as goal

pub refusal_at-requires : goal.refusal_at-requires
refusal_at-requires g c =
    let s = c.loop-address.self in
    asked_peeked (g.H.Lender.may s.handler.now) (g.H.Lender.memory s.handler.now) (accepted s.accept g.T.AcpiTable.kind)
    c.in-Some.address (pointers_left s.pointers) c.in-Some.ensures s.asked

pub invariant_of-self-in-Some-SdtInvalidSignature :
    goal.invariant_of-self-in-Some-SdtInvalidSignature
invariant_of-self-in-Some-SdtInvalidSignature g c =
    let s = c.loop-address.self in
    record {
      asked = asked_passed (g.H.Lender.may s.handler.now) (g.H.Lender.memory s.handler.now) (accepted s.accept g.T.AcpiTable.kind)
          c.in-Some.address (pointers_left s.pointers) _ _ c.in-Some.ensures c.pass.ensures
          c.in-Some-SdtInvalidSignature.ensures s.asked;
    }

pub invariant_of-self-in-Some-refusal_at : goal.invariant_of-self-in-Some-refusal_at
invariant_of-self-in-Some-refusal_at g c =
    let s = c.loop-address.self in
    record {
      asked = asked_passed (g.H.Lender.may s.handler.now) (g.H.Lender.memory s.handler.now) (accepted s.accept g.T.AcpiTable.kind)
          c.in-Some.address (pointers_left s.pointers) _ _ c.in-Some.ensures c.pass-in-Some-refusal_at.ensures
          c.in-Some-refusal_at.ensures s.asked;
    }

pub returns-in-None-clause-steps : goal.returns-in-None-clause-steps
returns-in-None-clause-steps g c =
    let s = c.loop-address.self in
    let here = faults_peeked (g.H.Lender.memory s.handler.now) (accepted s.accept g.T.AcpiTable.kind)
    c.in-Some.address (pointers_left s.pointers) _ c.in-Some.ensures refl in (
      sym c.loop-address.invariant ∙ here ∙ valid_last c.in-Some.address
          (table_at (g.H.Lender.memory s.handler.now) (accepted s.accept g.T.AcpiTable.kind) c.in-Some.address) _ c.in-None.ensures,
      rw c.end.ensures refl,
    )

pub returns-clause-steps : goal.returns-clause-steps
returns-clause-steps g c =
    let s = c.loop-address.self in
    let none = no_faults (g.H.Lender.memory s.handler.now) (accepted s.accept g.T.AcpiTable.kind)
    (pointers_left s.pointers) c.in_default.ensures in
    (sym c.loop-address.invariant ∙ none, none)
