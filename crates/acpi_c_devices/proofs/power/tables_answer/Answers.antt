use Rattle.std.proofs.Common.{◌≡◌, ◌∙◌, ℕ, List, ◌∷◌, Ok, Err, ap, refl, sym}
use Rattle.acpi.specs.Types.{AcpiError, SSDT}
use Rattle.acpi.specs.Words.{accept_of, found_at, memory_of, pointers_left, tables_found}
use Rattle.acpi_base.specs.Words.{Kind, Memory, accepted, plain_kind, table_at}
use Rattle.acpi_sleep.proofs.Answering.{one_block, with_left}
use Rattle.acpi_sleep.specs.Words.{block_answer}
use Rattle.acpi_c_devices.proofs.power.tables_answer.Goals as goal

-- a member that is accepted is the first of what is left
first_accepted : (accept : ℕ) (m : Memory) (k : Kind) (p : ℕ) (ps qs table : List ℕ) → qs ≡ p ∷ ps
    → table_at m (accepted accept k) p ≡ Ok table
    → tables_found m (accepted accept k) qs ≡ (p, table) ∷ tables_found m (accepted accept k) ps
unfolding found_at
first_accepted accept m k p ps qs table first found = rw (first, found) refl

-- one that isn't is skipped
none_accepted : (accept : ℕ) (m : Memory) (k : Kind) (p : ℕ) (ps qs : List ℕ) (e : AcpiError) → qs ≡ p ∷ ps
    → table_at m (accepted accept k) p ≡ Err e
    → tables_found m (accepted accept k) qs ≡ tables_found m (accepted accept k) ps
unfolding found_at
none_accepted accept m k p ps qs e first refused = rw (first, refused) refl

pub loop-address-preserved-in-Ok : goal.loop-address-preserved-in-Ok
loop-address-preserved-in-Ok g c =
    let t = c.args.tables.now in
    one_block c.args.state _ _ _ _ _ _ _ c.loop-address.invariant
    (first_accepted (accept_of t) (memory_of t) (plain_kind SSDT) c.in-Some.address (pointers_left c.next.new.self) _ _
    c.in-Some.ensures.steps c.in-Ok.ensures.table)
    (c.block_answer.ensures ∙ ap (block_answer SSDT c.args.state) c.bytes.ensures.value) c.or_after-answer.ensures

pub loop-address-preserved : goal.loop-address-preserved
loop-address-preserved g c =
    let t = c.args.tables.now in
    ap (with_left c.args.state c.loop-address.answer) (sym (none_accepted (accept_of t) (memory_of t) (plain_kind SSDT)
    c.in-Some.address (pointers_left c.next.new.self) _ _ c.in-Some.ensures.steps c.in_default-sdt_at.ensures.table))
    ∙ c.loop-address.invariant
