-- The answer of all tables: a block's after the answer of those before it, and that it depends on its ranges.
use Rattle.std.proofs.Common.{◌≡◌, ℕ, ◌≤◌, List, [], ◌∷◌, Result, Ok, Err, refl, sym, ap, ◌∙◌}
use Rattle.std.proofs.lemmas.Bool.{le-leb}
use Rattle.acpi_base.proofs.Words.{each_back, each_front, same_table}
use Rattle.acpi_base.specs.Ranges as ranges
use Rattle.acpi_base.specs.Words.{AgreesOn, DependsOn, Memory, Ranges, plain_kind, table_ranges, ◌>>=◌}
use Rattle.acpi.proofs.Agreed.{done, in_ok, same_found, same_lookup}
use Rattle.acpi.specs.Types.{AcpiError, DSDT, Fadt, SSDT}
use Rattle.acpi.specs.Words.{dsdt_place_ranges, dsdt_ranges, fadt_kind, lookup, lookup_ranges, tables_found}
use Rattle.acpi_fixed.specs.Words.{dsdt_address_of, fadt_at}
use Rattle.acpi_sleep.specs.Words.{Absent, Answer, NotSeen, SleepTypes, Types, answer_ranges, block_answer, dsdt_answer, dsdt_said, first_answer, joined, or_after, ssdt_answers, tables_answer}

-- ---- one block after others

or_after_more : (a b c : Answer) → or_after (or_after a b) c ≡ or_after a (or_after b c)
or_after_more (Ok (Types t)) b c = refl
or_after_more (Ok Absent) b c = refl
or_after_more (Ok (NotSeen i)) (Ok (Types t)) c = refl
or_after_more (Ok (NotSeen i)) (Ok Absent) c = refl
or_after_more (Ok (NotSeen i)) (Ok (NotSeen j)) (Ok (Types t)) = refl
or_after_more (Ok (NotSeen i)) (Ok (NotSeen j)) (Ok Absent) = refl
or_after_more (Ok (NotSeen i)) (Ok (NotSeen j)) (Ok (NotSeen k)) = refl
or_after_more (Ok (NotSeen i)) (Ok (NotSeen j)) (Err e) = refl
or_after_more (Ok (NotSeen i)) (Err d) (Ok (Types t)) = refl
or_after_more (Ok (NotSeen i)) (Err d) (Ok Absent) = refl
or_after_more (Ok (NotSeen i)) (Err d) (Ok (NotSeen k)) = refl
or_after_more (Ok (NotSeen i)) (Err d) (Err e) = refl
or_after_more (Err x) (Ok (Types t)) c = refl
or_after_more (Err x) (Ok Absent) c = refl
or_after_more (Err x) (Ok (NotSeen j)) (Ok (Types t)) = refl
or_after_more (Err x) (Ok (NotSeen j)) (Ok Absent) = refl
or_after_more (Err x) (Ok (NotSeen j)) (Ok (NotSeen k)) = refl
or_after_more (Err x) (Ok (NotSeen j)) (Err e) = refl
or_after_more (Err x) (Err d) (Ok (Types t)) = refl
or_after_more (Err x) (Err d) (Ok Absent) = refl
or_after_more (Err x) (Err d) (Ok (NotSeen k)) = refl
or_after_more (Err x) (Err d) (Err e) = refl

or_after_none : (a : Answer) → or_after a (Ok Absent) ≡ a
or_after_none (Ok (Types t)) = refl
or_after_none (Ok Absent) = refl
or_after_none (Ok (NotSeen i)) = refl
or_after_none (Err e) = refl

-- ---- the loop

-- what the answer so far and the blocks that are left come to
abbrev pub with_left : ℕ → Answer → List (ℕ × List ℕ) → Answer
with_left state answer left = or_after answer (first_answer (ssdt_answers state left))

pub begun : (state : ℕ) (m : Memory) (ps : List ℕ) (answer : Answer) (left : List (ℕ × List ℕ)) → state ≤ 5
    → answer ≡ dsdt_answer state m ps → left ≡ tables_found m (plain_kind SSDT) ps
    → with_left state answer left ≡ tables_answer state m ps
begun state m ps answer left low is all = rw (is, all, le-leb state 5 low) refl

pub one_block : (state : ℕ) (answer block after expected : Answer) (left rest : List (ℕ × List ℕ)) (found : ℕ × List ℕ)
    → with_left state answer left ≡ expected → left ≡ found ∷ rest → block ≡ block_answer SSDT state found.1
    → after ≡ or_after answer block → with_left state after rest ≡ expected
one_block state answer block after expected left rest found is first here after_is =
    rw (after_is, here)
    (or_after_more answer (block_answer SSDT state found.1) (first_answer (ssdt_answers state rest)))
    ∙ ap (with_left state answer) (sym first) ∙ is

pub types_found : (state : ℕ) (answer expected : Answer) (left : List (ℕ × List ℕ)) (types : SleepTypes)
    → with_left state answer left ≡ expected → answer ≡ Ok (Types types) → answer ≡ expected
types_found state answer expected left types is found = found ∙ (rw found at is)

pub none_left : (state : ℕ) (answer expected : Answer) (left : List (ℕ × List ℕ)) → with_left state answer left
    ≡ expected
    → left ≡ [] → answer ≡ expected
none_left state answer expected left is none = sym (or_after_none answer) ∙ (rw none at is)

-- ---- the ranges

then_same : {A B : Type 0} (m n : Memory) (of : A → Ranges) (f g : A → Result B AcpiError)
    → ((x : A) → AgreesOn m n (of x) → f x ≡ g x) → (r : Result A AcpiError) → AgreesOn m n (ranges.◌>>=◌ r of)
    → (r >>= f) ≡ (r >>= g)
then_same m n of f g each (Ok x) h = each x h
then_same m n of f g each (Err e) h = refl

same_dsdt_said : (state : ℕ) (m n : Memory) (f : Fadt) → AgreesOn m n (dsdt_place_ranges m f)
    → dsdt_said state n f ≡ dsdt_said state m f
same_dsdt_said state m n f = then_same m n (table_ranges m (plain_kind DSDT)) _ _
    (λ a here. ap (λ r. r >>= λ table. Ok (block_answer DSDT state table)) (same_table (plain_kind DSDT) m n a here))
    (dsdt_address_of f)

same_dsdt_answer : (state : ℕ) → DependsOn dsdt_ranges (dsdt_answer state)
unfolding dsdt_answer
same_dsdt_answer state m n ps h =
    let front = same_lookup fadt_kind m n ps (each_front _ (lookup_ranges m fadt_kind ps) _ h) in
    rw front (ap joined (then_same m n (λ found. dsdt_place_ranges m (fadt_at found.1)) _ _
    (λ found. same_dsdt_said state m n (fadt_at found.1)) (lookup m fadt_kind ps)
    (each_back _ (lookup_ranges m fadt_kind ps) _ h)))

same_answer : (state : ℕ) → DependsOn answer_ranges (tables_answer state)
same_answer state m n ps h =
    let dsdt = same_dsdt_answer state m n ps (each_front _ (dsdt_ranges m ps) _ h) in
    let ssdts = same_found (plain_kind SSDT) m n ps (each_back _ (dsdt_ranges m ps) _ h) in
    rw (dsdt, ssdts) refl

pub same_answer_in_ok : (state : ℕ) → DependsOn answer_ranges (λ m ps. done (tables_answer state m ps))
same_answer_in_ok state = in_ok answer_ranges (tables_answer state) (same_answer state)
