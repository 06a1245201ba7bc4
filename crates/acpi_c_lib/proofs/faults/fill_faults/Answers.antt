use Rattle.std.proofs.Common.{◌≡◌, ◌∙◌, ◌+◌, ℕ, List, ◌∷◌, length, rules, slice_set, true, false, Option, Some, None, Result, Ok, Err, ap, arith, refl, sym}
use Rattle.acpi_base.specs.FromStd.{cons_option}
use Rattle.acpi_base.specs.Words.{Kind, Memory, accepted, table_at}
use Rattle.acpi.specs.Types.{AcpiError}
use Rattle.acpi.specs.Words.{pointers_left}
use Rattle.acpi_c_lib.specs.Faults.{fault_before, with_fault}
use Rattle.acpi_c_lib.specs.Types.{Fault}
use Rattle.acpi_c_lib.specs.Words.{faults_among, kind_named, put_from, result_map}
use Rattle.acpi_c_lib.proofs.faults.fill_faults.Goals as goal
use Rattle.acpi_c_lib.proofs.faults.fill_faults.Goals.{in-Ok, in-Err-SdtInvalidSignature, in-Err, in-Some-fault, in_default}

never : true ≡ false → ⊥
never e = cc

-- the fault of a table that isn't accepted is that of its error
by_error : (m : Memory) (k : Kind) (p : ℕ) (rest : List Fault) (r : Result (List ℕ) AcpiError)
    (looked : Result (Unit {0}) AcpiError) (e : AcpiError) (o : Option Fault) → looked ≡ result_map (λ _. tt) r
    → looked ≡ Err e → with_fault p e rest ≡ cons_option o rest → fault_before m k p r rest ≡ cons_option o rest
by_error m k p rest (Ok table) looked e o given is found = absurd cc
by_error m k p rest (Err d) looked e o given is found =
    let same : d ≡ e = cc in
    rw same found

-- a fault is written, or there is none
put_some : (old out new : List Fault) (n k : ℕ) (o : Option Fault) (f : Fault) (before rest all : List Fault)
    → before ≡ cons_option o rest → o ≡ Some f → new ≡ slice_set out n f → k ≡ n + 1
    → put_from out n before ≡ put_from old 0 all → n + length before ≡ length all
    → (put_from new k rest ≡ put_from old 0 all) × (k + length rest ≡ length all)
put_some old out new n k o f before rest all front is put count written counted =
    let here : before ≡ f ∷ rest = front ∙ ap (λ x. cons_option x rest) is in
    (rw (put, count) (rw here at written), omega (arith, count, counted, ap length here))

put_none : (old out new : List Fault) (n k : ℕ) (o : Option Fault) (before rest all : List Fault)
    → before ≡ cons_option o rest → o ≡ None → new ≡ out → k ≡ n
    → put_from out n before ≡ put_from old 0 all → n + length before ≡ length all
    → (put_from new k rest ≡ put_from old 0 all) × (k + length rest ≡ length all)
put_none old out new n k o before rest all front is same count written counted =
    let here : before ≡ rest = front ∙ ap (λ x. cons_option x rest) is in
    (rw (same, count) (rw here at written), omega (arith, count, counted, ap length here))

pub loop-address-preserved : goal.loop-address-preserved
loop-address-preserved g c =
    let l = c.args in
    let m = g.H.AcpiHandler.memory l.handler.now in
    let k = kind_named c.args.signature in
    let p = c.in-Some.address in
    let rest = faults_among l.accept m k (pointers_left c.next.new.self) in
    let r = table_at m (accepted l.accept k) p in
    let inv = c.loop-address.invariant in
    let this : fault_before m k p r rest ≡ cons_option c.match-looked_at.fault.0 rest = (elim c.match-looked_at.branch [
      | in-Ok w ↦ absurd (never (sym (ap (λ x. x.1) w.fault-is) ∙ c.if-ends.false))
      | in-Err-SdtInvalidSignature w ↦ by_error m k p rest r _ _ _ c.looked_at.ensures w.in-Err-SdtInvalidSignature.is
          (rw (w.in-Err-SdtInvalidSignature.field-0-is, w.fault-is) refl)
      | in-Err w ↦ by_error m k p rest r _ _ _ c.looked_at.ensures w.in-Err.is
          (rw (w.fault-is, w.fault_record.ensures) (search rules))
    ]) in
    let front : faults_among l.accept m k (pointers_left c.loop-address.address-iterator)
    ≡ cons_option c.match-looked_at.fault.0 rest = ap (faults_among l.accept m k) c.in-Some.ensures.steps ∙ this in
    let fewer = ap length c.in-Some.ensures.steps in (elim c.match-fault.branch [
      | in-Some-fault w ↦
          let both = put_some _ _ _ _ _ _ _ _ _ _ front w.in-Some-fault.is (w.out-is ∙ w.put.ensures) w.count-is
          inv.0 inv.1 in
          (both.0, both.1, omega (arith, w.count-is, fewer, inv.2))
      | in_default w ↦
          let both = put_none _ _ _ _ _ _ _ _ _ front w.in_default.is w.out-is w.count-is inv.0 inv.1 in
          (both.0, both.1, omega (arith, w.count-is, fewer, inv.2))
    ])
