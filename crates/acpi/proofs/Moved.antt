-- What is found in valid tables doesn't depend on where they lie.
use Rattle.std.proofs.Common.{◌≡◌, ℕ, ◌≤◌, Bool, true, false, List, [], ◌∷◌, drop, map, Option, Some, None, Result, Ok, Err, refl, ap, sym, ◌∙◌, if◌then◌else◌, lit≤}
use Rattle.acpi_base.specs.FromStd.{cons_option, result_ok}
use Rattle.acpi_base.proofs.Words.{own_table_is, served, serves}
use Rattle.acpi_base.specs.Words.{check_table, header_at, mcfg_entries_of, Memory, ◌>>=◌, kind, own_table_at, table_at, sdt_kind}
use Rattle.acpi_base.specs.Model as model
use Rattle.acpi.specs.Types.{AcpiError, TableMissing, Unknown, SdtHeader, Signature, FADT, HPET, MADT, MCFG}
use Rattle.acpi.proofs.First.{here}
use Rattle.acpi.specs.Words.{below, hpet_at, info_of, hpet_of, or_later, fadt_kind, own_header_at, valid_headers, valid_tables, lookup, madt_kind, model_in, platform_of, FollowsTables, bytes_found, pointers, accepted_root_at, width_of, memory_of, pointers_of, RootKind, AcpiTables, found_regions}

abbrev done : {A : Type 0} → A → Result A AcpiError
done x = Ok x

same_ok : {A : Type 0} (x y : A) → done x ≡ done y → x ≡ y
same_ok x y e = cc

-- ---- headers

one_header : (r : Result (List ℕ) AcpiError) (hs : List SdtHeader) (ts : List (List ℕ)) → hs ≡ map header_at ts
    → cons_option (result_ok (r >>= λ t. done (header_at t))) hs ≡ map header_at (cons_option (result_ok r) ts)
one_header (Ok t) hs ts e = rw e refl
one_header (Err d) hs ts e = e

headers_are : (m : Memory) (ps : List ℕ) → valid_headers m ps ≡ map header_at (valid_tables m ps)
unfolding own_header_at
headers_are m [] = refl
headers_are m (p ∷ ps) = one_header (own_table_at m p) _ _ (headers_are m ps)

pub headers_follow : FollowsTables valid_headers
headers_follow m n ps qs same = headers_are n qs ∙ ap (map header_at) same ∙ sym (headers_are m ps)

-- ---- lookups

unfoldable pub first_of : Signature → ℕ → List (List ℕ) → Result (List ℕ) AcpiError
first_of s least [] = Err (TableMissing s)
first_of s least (t ∷ ts) = if serves s least t then Ok t else first_of s least ts

found_by : (b : Bool) (p : ℕ) (t : List ℕ) (r : Result (List ℕ) AcpiError) (later : Result (ℕ × List ℕ) AcpiError)
    (others : Result (List ℕ) AcpiError)
    → result_ok r ≡ (if b then Some t else None) → bytes_found later ≡ others
    → bytes_found (or_later (here p) r later) ≡ (if b then Ok t else others)
found_by true p t (Ok found) later others e f = cc
found_by true p t (Err d) later others e f = absurd cc
found_by false p t (Ok found) later others e f = absurd cc
found_by false p t (Err d) later others e f = f

found_step : (s : Signature) (least p : ℕ) (o : Option (List ℕ)) (r : Result (List ℕ) AcpiError)
    (later : Result (ℕ × List ℕ) AcpiError) (ts : List (List ℕ))
    → result_ok r ≡ served s least o → bytes_found later ≡ first_of s least ts
    → bytes_found (or_later (here p) r later) ≡ first_of s least (cons_option o ts)
unfolding first_of
found_step s least p None (Ok t) later ts e f = absurd cc
found_step s least p None (Err d) later ts e f = f
found_step s least p (Some t) r later ts e f = found_by (serves s least t) p t r later (first_of s least ts) e f

pub lookup_is : (m : Memory) (s : Signature) (least : ℕ) (ps : List ℕ) → 36 ≤ least
    → bytes_found (lookup m (kind s least (check_table s)) ps) ≡ first_of s least (valid_tables m ps)
unfolding first_of
lookup_is m s least [] enough = refl
lookup_is m s least (p ∷ ps) enough =
    found_step s least p (result_ok (own_table_at m p)) (table_at m (kind s least (check_table s)) p)
    (lookup m (kind s least (check_table s)) ps) (valid_tables m ps)
    (own_table_is m s least p enough) (lookup_is m s least ps enough)

pub lookup_follows : (s : Signature) (least : ℕ) → 36 ≤ least
    → FollowsTables (λ m ps. bytes_found (lookup m (sdt_kind s least) ps))
lookup_follows s least enough m n ps qs same =
    lookup_is n s least qs enough ∙ ap (first_of s least) same ∙ sym (lookup_is m s least ps enough)

-- ---- summaries

by_bytes : {A : Type 0} (r : Result (ℕ × List ℕ) AcpiError) (meaning : List ℕ → Result A AcpiError)
    → (r >>= λ f. meaning f.1) ≡ (bytes_found r >>= meaning)
by_bytes (Ok found) meaning = refl
by_bytes (Err e) meaning = refl

pub meaning_follows : {A : Type 0} (s : Signature) (least : ℕ) (meaning : List ℕ → Result A AcpiError) → 36 ≤ least
    → FollowsTables (λ m ps. lookup m (kind s least (check_table s)) ps >>= λ f. meaning f.1)
meaning_follows s least meaning enough m n ps qs same =
    by_bytes _ meaning ∙ ap (λ r. r >>= meaning) (lookup_follows s least enough m n ps qs same)
    ∙ sym (by_bytes _ meaning)

pub hpet_follows : FollowsTables hpet_of
hpet_follows = meaning_follows HPET 56 (λ b. info_of (hpet_at b)) (lit≤ tt)

pub regions_follow : FollowsTables found_regions
regions_follow = meaning_follows MCFG 44 (λ b. Ok (mcfg_entries_of b)) (lit≤ tt)

later_by_bytes : {B : Type 0} (r : Result (ℕ × List ℕ) AcpiError) (meaning : List ℕ → B) (later : B)
    → or_later (λ f. meaning f.1) r later ≡ or_later meaning (bytes_found r) later
later_by_bytes (Ok found) meaning later = refl
later_by_bytes (Err e) meaning later = refl

pub platform_follows : {A : Type 0} → FollowsTables (λ m ps. platform_of {A = A} m ps)
platform_follows {A = A} m n ps qs same =
    let fadts = lookup_follows FADT 116 (lit≤ tt) m n ps qs same in
    let madts = lookup_follows MADT 44 (lit≤ tt) m n ps qs same in
    let unknown : Result (model.Model A) AcpiError = Ok (Unknown, None) in
    let models : model_in {A = A} n qs ≡ model_in {A = A} m ps =
    later_by_bytes (lookup n madt_kind qs) model.model_of unknown ∙ ap (λ r. or_later model.model_of r unknown) madts
    ∙ sym (later_by_bytes (lookup m madt_kind ps) model.model_of unknown) in
    by_bytes (lookup n fadt_kind qs) _ ∙ rw (fadts, models) refl ∙ sym (by_bytes (lookup m fadt_kind ps) _)

-- ---- from a root table

moved_by : {A : Type 0} (n : Memory) (r : Result (List ℕ) AcpiError) (pointers_in : List ℕ
    → List ℕ) (ts : List (List ℕ))
    (defined : Memory → List ℕ → Result A AcpiError) (meaning : Result A AcpiError)
    → ((qs : List ℕ) → valid_tables n qs ≡ ts → defined n qs ≡ meaning)
    → (r >>= λ root. done (valid_tables n (pointers_in root))) ≡ Ok ts
    → (r >>= λ root. defined n (pointers_in root)) ≡ meaning
moved_by n (Ok root) pointers_in ts defined meaning each e = each (pointers_in root) (same_ok _ _ e)
moved_by n (Err d) pointers_in ts defined meaning each e = absurd cc

-- a definition over the pointers of tables, over a memory that has the same valid tables
pub moved_tables : {A : Type 0} {H P h p : _} (t : AcpiTables H P h p) (defined : Memory → List ℕ → Result A AcpiError)
    → FollowsTables defined → (n : Memory) (kind : RootKind) (address : ℕ)
    → below n kind address (λ ps. done (valid_tables n ps)) ≡ Ok (valid_tables (memory_of t) (pointers_of t))
    → below n kind address (defined n) ≡ defined (memory_of t) (pointers_of t)
moved_tables t defined follows n kind address same =
    moved_by n (accepted_root_at 0 n kind address) (λ root. pointers (width_of kind) (drop 36 root))
    (valid_tables (memory_of t) (pointers_of t)) defined _
    (λ qs e. follows (memory_of t) n (pointers_of t) qs e) same

pub in_ok_follows : {A : Type 0} (defined : Memory → List ℕ → A) → FollowsTables defined
    → FollowsTables (λ m ps. done (defined m ps))
in_ok_follows defined follows m n ps qs e = ap done (follows m n ps qs e)
