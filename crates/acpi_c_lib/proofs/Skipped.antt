-- What is listed of tables and of candidates that are skipped is theirs.
use Rattle.std.proofs.Common.{◌≡◌, ◌∙◌, ℕ, zero, suc, ◌+◌, ◌*◌, List, [], ◌∷◌, ◌++◌, filter_map, true, false, Option, Some, None, Result, Ok, Err, ap, arith, refl, subst}
use Rattle.acpi_base.specs.FromStd.{cons_option, is_ok}
use Rattle.acpi_base.specs.Words.{Kind, Memory, accepted, table_at}
use Rattle.acpi_base.proofs.FromStd.{All-head, All-tail}
use Rattle.acpi.specs.Types.{AcpiError}
use Rattle.acpi.specs.Words.{accepted_rsdp_at, or_later}
use Rattle.acpi_c_lib.specs.Faults.{accepted_fault, fault_before, with_fault}
use Rattle.acpi_c_lib.specs.Types.{Fault}
use Rattle.acpi_c_lib.specs.Words.{FaultsAreTheirs, IsNoRsdp, IsSkipped, RangesAreTheirs, RsdpEndsRanges, TakenEndsFaults, candidate_missing_range, candidates_from, faults_among, skipped, skipped_by, walk_missing_ranges}

-- ---- of tables

with_its : (p : ℕ) (e : AcpiError) (faults : List Fault)
    → with_fault p e faults ≡ cons_option (skipped_by p (Err e)) faults
with_its p e faults = grind arith

one_skipped : (m : Memory) (k : Kind) (p : ℕ) (r : Result (List ℕ) AcpiError) (faults : List Fault) → is_ok r ≡ false
    → fault_before m k p r faults ≡ cons_option (skipped_by p r) faults
one_skipped m k p (Ok table) faults is = cc
one_skipped m k p (Err e) faults is = with_its p e faults

pub faults_are_theirs : FaultsAreTheirs
faults_are_theirs accept m k [] all = refl
faults_are_theirs accept m k (p ∷ ps) all =
    one_skipped m k p (table_at m (accepted accept k) p) (faults_among accept m k ps)
    (All-head (IsSkipped accept m k) p ps all)
    ∙ ap (cons_option (skipped accept m k p)) (faults_are_theirs accept m k ps
    (All-tail (IsSkipped accept m k) p ps all))

taken_last : (m : Memory) (k : Kind) (p : ℕ) (r : Result (List ℕ) AcpiError) (faults : List Fault) → is_ok r ≡ true
    → fault_before m k p r faults ≡ accepted_fault p (table_at m k p)
taken_last m k p (Ok table) faults is = refl
taken_last m k p (Err e) faults is = cc

cons_before : (o : Option Fault) (xs ys : List Fault) → cons_option o (xs ++ ys) ≡ cons_option o xs ++ ys
cons_before None xs ys = refl
cons_before (Some x) xs ys = refl

pub taken_ends : TakenEndsFaults
taken_ends accept m k [] p back all is =
    taken_last m k p (table_at m (accepted accept k) p) (faults_among accept m k back) is
taken_ends accept m k (q ∷ front) p back all is =
    one_skipped m k q (table_at m (accepted accept k) q) (faults_among accept m k (front ++ p ∷ back))
    (All-head (IsSkipped accept m k) q front all)
    ∙ ap (cons_option (skipped accept m k q)) (taken_ends accept m k front p back
    (All-tail (IsSkipped accept m k) q front all) is)
    ∙ cons_before (skipped accept m k q) (filter_map (skipped accept m k) front) (accepted_fault p (table_at m k p))

-- ---- of candidates

later_is : {A B E : Type 0} (found : A → B) (r : Result A E) (later : B) → is_ok r ≡ false
    → or_later found r later ≡ later
later_is found (Ok x) later is = cc
later_is found (Err e) later is = refl

found_none : {A B E : Type 0} (r : Result A E) (later : List B) → is_ok r ≡ true → or_later (λ x. []) r later ≡ []
found_none (Ok x) later is = refl
found_none (Err e) later is = cc

pub ranges_are_theirs : RangesAreTheirs
unfolding walk_missing_ranges
ranges_are_theirs accept m zero a all = refl
ranges_are_theirs accept m (suc n) a all =
    later_is (λ b. []) (accepted_rsdp_at accept m a) _ (All-head (IsNoRsdp accept m) a (candidates_from n (a + 16)) all)
    ∙ ap (cons_option (candidate_missing_range accept m a)) (ranges_are_theirs accept m n (a + 16)
    (All-tail (IsNoRsdp accept m) a (candidates_from n (a + 16)) all))

pub rsdp_ends_ranges : RsdpEndsRanges
unfolding walk_missing_ranges
rsdp_ends_ranges accept m n zero a inside all is = absurd (omega (arith, inside))
rsdp_ends_ranges accept m zero (suc more) a inside all is =
    let here : a + 16 * 0 ≡ a = omega arith in
    found_none (accepted_rsdp_at accept m a) _ (subst (λ b. is_ok (accepted_rsdp_at accept m b) ≡ true) here is)
rsdp_ends_ranges accept m (suc n) (suc more) a inside all is =
    let there : a + 16 * suc n ≡ a + 16 + 16 * n = omega arith in
    later_is (λ b. []) (accepted_rsdp_at accept m a) _ (All-head (IsNoRsdp accept m) a (candidates_from n (a + 16)) all)
    ∙ ap (cons_option (candidate_missing_range accept m a))
    (rsdp_ends_ranges accept m n more (a + 16) (omega (arith, inside))
    (All-tail (IsNoRsdp accept m) a (candidates_from n (a + 16)) all)
    (subst (λ b. is_ok (accepted_rsdp_at accept m b) ≡ true) there is))
