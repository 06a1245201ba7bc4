-- What is listed of the tables that a lookup skips, and of the RSDPs that a search comes to: each item is of one of
-- them, in their order, each that has an item is listed, and the first that is taken ends the list.
use Rattle.std.specs.Prelude.{◌≡◌, ℕ, zero, suc, ◌+◌, ◌*◌, ◌<◌, List, [], ◌∷◌, ◌++◌, All, filter_map, true, false, Option, Some, None, Result, Ok, Err}
use Rattle.acpi_base.specs.FromStd.{is_ok}
use Rattle.acpi_base.specs.Words.{Kind, Memory, accepted, table_at}
use Rattle.acpi.specs.Types.{SdtInvalidSignature}
use Rattle.acpi.specs.Words.{accepted_rsdp_at}
use Rattle.acpi_c_lib.specs.Below.{AcpiError}
use Rattle.acpi_c_lib.specs.Faults.{accepted_fault, fault_record, faults_among}
use Rattle.acpi_c_lib.specs.Missing.{candidate_missing_range, walk_missing_ranges}
use Rattle.acpi_c_lib.specs.Types.{Fault}

-- ---- the tables that a lookup skips

-- why a table is skipped; another signature is no fault
abbrev pub skipped_by : ℕ → Result (List ℕ) AcpiError → Option Fault
skipped_by p (Ok table) = None
skipped_by p (Err (SdtInvalidSignature s)) = None
skipped_by p (Err e) = Some (fault_record 0 p e)

abbrev pub skipped : ℕ → Memory → Kind → ℕ → Option Fault
skipped accept m k p = skipped_by p (table_at m (accepted accept k) p)

abbrev pub IsSkipped : ℕ → Memory → Kind → ℕ → Type 0
IsSkipped accept m k p = is_ok (table_at m (accepted accept k) p) ≡ false

abbrev pub FaultsAreTheirs : Type 0
FaultsAreTheirs = (accept : ℕ) (m : Memory) (k : Kind) (ps : List ℕ) → All (IsSkipped accept m k) ps
    → faults_among accept m k ps ≡ filter_map (skipped accept m k) ps

-- the first that is taken has the last fault, if it isn't valid
abbrev pub TakenEndsFaults : Type 0
TakenEndsFaults = (accept : ℕ) (m : Memory) (k : Kind) (front : List ℕ) (p : ℕ) (back : List ℕ)
    → All (IsSkipped accept m k) front → is_ok (table_at m (accepted accept k) p) ≡ true
    → faults_among accept m k (front ++ p ∷ back)
    ≡ filter_map (skipped accept m k) front ++ accepted_fault p (table_at m k p)

-- ---- the RSDPs that a search comes to (section 5.2.5.1)

-- the addresses of this many candidates, 16 bytes apart
abbrev pub candidates_from : ℕ → ℕ → List ℕ
candidates_from zero a = []
candidates_from (suc n) a = a ∷ candidates_from n (a + 16)

abbrev pub IsNoRsdp : ℕ → Memory → ℕ → Type 0
IsNoRsdp accept m a = is_ok (accepted_rsdp_at accept m a) ≡ false

abbrev pub RangesAreTheirs : Type 0
RangesAreTheirs = (accept : ℕ) (m : Memory) (n a : ℕ) → All (IsNoRsdp accept m) (candidates_from n a)
    → walk_missing_ranges accept m n a ≡ filter_map (candidate_missing_range accept m) (candidates_from n a)

-- nothing is listed of the first that is valid, nor of those after it
abbrev pub RsdpEndsRanges : Type 0
RsdpEndsRanges = (accept : ℕ) (m : Memory) (n all a : ℕ) → n < all → All (IsNoRsdp accept m) (candidates_from n a)
    → is_ok (accepted_rsdp_at accept m (a + 16 * n)) ≡ true
    → walk_missing_ranges accept m all a ≡ filter_map (candidate_missing_range accept m) (candidates_from n a)
