-- The checks of what is to be written. Whether records can lie where they are placed depends on starts and lengths
-- alone, and is decided place by place.
use Rattle.std.proofs.Common.{◌≡◌, ◌≢◌, ℕ, ◌^◌, ◌==◌, nat_lt, true, false, Ok, List, [], ◌∷◌, length, map, refl, sym, ap, ◌∙◌, zero, suc, ◌+◌, ◌<◌, ◌≤◌, ◌++◌, take, drop, get_or, subst, arith, inl, inr, add-one, append_assoc, replicate, slice_index_or, Result, Err, ◌||◌, IsErrAnd, not}
use Rattle.acpi_base.specs.FromStd.{list_all, list_any, AllByRecursion, BTreeMap}
use Rattle.acpi_base.proofs.FromStd.{length-replicate, length-map, map-append, take_all, take_more, take-append-drop, ltb-true, or_cases, or_from, or_left, or_right, drop-cons, nat_tests}
use Rattle.acpi_base.specs.Words.{Memory, Region, end_of, range_fits}
use Rattle.acpi_image_reader.specs.Words.{share, shares_any, region_in, AreAllApart}
use Rattle.acpi_image.specs.Words.{IsPlaced, place_of, places_of, check_places, check_plan, check_tables, pointers_fit, some_share, WritesOrRunsOut, is_table, written, placed, placed_region, plan, records_of, root_length, starts_of, summed, Plan, kind_of, pointers_of, PlacedTable, WriteError}
use Rattle.acpi_image_reader.proofs.Sharing.{SamePlace, ranges_share, same_share, shares_none}
use Rattle.acpi_image.proofs.Written.{length-rsdp_to, length-with_sum, root_long, table_is}
use Rattle.std.proofs.lemmas.Bool.{both_ways, false≢true, true_from_ne_false}
use Rattle.std.proofs.lemmas.List.Folds.{list_all_at}
use Rattle.acpi.specs.Types.{AddressRange}
use Rattle.acpi.specs.Words.{kind_of_revision}
use Rattle.acpi_image_reader.proofs.Listing.{flipped, starts_none}
use Rattle.acpi_base.proofs.Words.{bind_ok, holds_ok}
use Rattle.acpi_image.specs.declared.error.WriteError.TheVariants as refusal

-- a region that lies there too, of zeros
abbrev emptied : Region → Region
emptied r = record { start = r.start; bytes = replicate (length r.bytes) 0 }

same_place : (r : Region) → SamePlace (emptied r) r
same_place r = record { start = refl; count = length-replicate (length r.bytes) 0 }

same_shares : (m : Memory) (r : Region) → shares_any (map emptied m) (emptied r) ≡ shares_any m r
same_shares [] r = refl
same_shares (s ∷ m) r = rw (same_share (emptied s) s (emptied r) r (same_place s) (same_place r), same_shares m r) refl

same_some : (m : Memory) → some_share (map emptied m) ≡ some_share m
same_some [] = refl
same_some (r ∷ m) = rw (same_shares m r, same_some m) refl

same_ends : (m : Memory)
    → list_all (λ r. nat_lt (end_of r) (2 ^ 64)) (map emptied m) ≡ list_all (λ r. nat_lt (end_of r) (2 ^ 64)) m
same_ends [] = refl
same_ends (r ∷ m) = rw ((same_place r).count, same_ends m) refl

same_places : (m : Memory) → check_places (map emptied m) ≡ check_places m
unfolding check_places
same_places m = rw (same_ends m, same_some m) refl

tables_there : (tables : List PlacedTable) → places_of tables ≡ map emptied (map summed (placed tables))
tables_there [] = refl
tables_there (t ∷ ts) = rw (length-with_sum 9 t.bytes.now, tables_there ts) refl

-- the records lie where they were looked for
planned_places : (rsdp root : AddressRange) (revision : ℕ) (tables : List PlacedTable)
    → rsdp.length ≡ 36 → root.length ≡ root_length (kind_of_revision revision) (length tables)
    → check_places (region_in rsdp ∷ region_in root ∷ places_of tables)
    ≡ check_places (records_of (plan rsdp.address root.address revision tables))
planned_places rsdp root revision tables few many =
    let rsdp_long = length-rsdp_to (replicate 6 32) revision root.address refl in
    let same : region_in rsdp ∷ region_in root ∷ places_of tables
    ≡ map emptied (records_of (plan rsdp.address root.address revision tables)) =
    rw (few, many, rsdp_long, root_long (kind_of_revision revision) tables, tables_there tables) refl in
    ap check_places same ∙ same_places (records_of (plan rsdp.address root.address revision tables))

-- what is left to check once the other checks hold
pub places_left : (rsdp root : AddressRange) (revision : ℕ) (tables : List PlacedTable) → rsdp.length ≡ 36
    → root.length ≡ root_length (kind_of_revision revision) (length tables)
    → (root.address == 0) ≡ false → check_tables 0 (placed tables) ≡ Ok tt
    → nat_lt (root_length (kind_of_revision revision) (length tables)) (2 ^ 32) ≡ true
    → pointers_fit revision (root.address ∷ starts_of (placed tables)) ≡ true
    → check_places (region_in rsdp ∷ region_in root ∷ places_of tables)
    ≡ check_plan (plan rsdp.address root.address revision tables)
unfolding check_plan
places_left rsdp root revision tables few many some are short fit =
    planned_places rsdp root revision tables few many ∙ rw (some, are, length-map tables placed_region, short, fit) refl

-- two tables share a byte exactly if their ranges do
pub tables_share : (p q : AddressRange) (t u : PlacedTable) → p.address ≡ t.address → p.length ≡ length t.bytes.now
    → q.address ≡ u.address → q.length ≡ length u.bytes.now
    → share (region_in p) (region_in q) ≡ share (placed_region t) (placed_region u)
tables_share p q t u p_start p_count q_start q_count =
    ranges_share p q (placed_region t) (placed_region u) p_start p_count q_start q_count

-- ---- decided place by place

share_back : (r s : Region) → share r s ≡ true → share s r ≡ true
unfolding share
share_back r s e = grind (arith, nat_tests)

shares_within : (m : Memory) (r s : Region) (rest : Memory) → share r s ≡ true → shares_any (m ++ (r ∷ rest)) s ≡ true
shares_within [] r s rest e = or_left _ _ e
shares_within (t ∷ m) r s rest e = or_right _ _ (shares_within m r s rest e)

-- one that shares a byte with one before it
pub some_found : (m : Memory) (r : Region) (rest : Memory) → shares_any m r ≡ true → some_share (m ++ (r ∷ rest)) ≡ true
some_found [] r rest e = absurd (false≢true e)
some_found (s ∷ m) r rest e =
    elim (or_cases (share s r) (shares_any m r) e) [
      | inl first ↦ or_left _ _ (shares_within m r s rest (share_back s r first))
      | inr more ↦ or_right _ _ (some_found m r rest more)
    ]

pub each_also : {X : Type 0} (P Q : X → Type 0) → ((x : X) → P x → Q x) → (xs : List X) → AllByRecursion P xs
    → AllByRecursion Q xs
each_also P Q also [] h = tt
each_also P Q also (x ∷ xs) h = (also x h.0, each_also P Q also xs h.1)

-- places that are apart
pub none_found : (m : Memory) → AreAllApart m → some_share m ≡ false
none_found [] h = refl
none_found (r ∷ m) h = or_from _ _ (shares_none m r (each_also _ _ (λ s. flipped r s) m h.0)) (none_found m h.1)

-- ---- the table in turn

is_of : (p : AddressRange) (t : PlacedTable) → p.address ≡ t.address → p.length ≡ length t.bytes.now
    → region_in p ≡ place_of t
is_of p t start count = rw (start, count) refl

module _ (m : Memory) (tables : List PlacedTable) (i : ℕ) (d : PlacedTable) (less : i < length tables)
    (p : AddressRange) (start : p.address ≡ (get_or tables i d).address)
    (count : p.length ≡ length (get_or tables i d).bytes.now) where
  abbrev before : Memory
  before = m ++ places_of (take i tables)

  one_more : before ++ (region_in p ∷ []) ≡ m ++ places_of (take (i + 1) tables)
  one_more =
      rw (is_of p (get_or tables i d) start count, take_more tables i d less) (simp (map-append, append_assoc))

  all_of : before ++ (region_in p ∷ places_of (drop (i + 1) tables)) ≡ m ++ places_of tables
  all_of =
      let rest : drop i tables ≡ get_or tables i d ∷ drop (i + 1) tables = rw add-one (drop-cons tables i d less) in
      let parts : places_of tables ≡ places_of (take i tables) ++ places_of (drop i tables) =
      ap places_of (sym (take-append-drop i tables)) ∙ map-append place_of (take i tables) (drop i tables) in
      rw (is_of p (get_or tables i d) start count, parts, rest)
      (append_assoc m (places_of (take i tables)) (place_of (get_or tables i d) ∷ places_of (drop (i + 1) tables)))

  -- it shares a byte
  pub table_shares : true ≡ shares_any before (region_in p) → true ≡ some_share (m ++ places_of tables)
  table_shares e =
      sym (some_found before (region_in p) (places_of (drop (i + 1) tables)) (sym e)) ∙ ap some_share all_of

  -- it is listed
  pub table_added : (starts : BTreeMap ℕ ℕ) → IsPlaced starts (before ++ (region_in p ∷ []))
      → IsPlaced starts (m ++ places_of (take (i + 1) tables))
  table_added starts h = subst (λ (n : Memory). IsPlaced starts n) one_more h

pub all_fit : (tables : List PlacedTable)
    → list_all (λ r. nat_lt (end_of r) (2 ^ 64)) (places_of tables)
    ≡ list_all (λ t. range_fits t.address (length t.bytes.now)) tables
all_fit [] = refl
all_fit (t ∷ tables) = rw (length-replicate {A = ℕ} (length t.bytes.now) 0, all_fit tables) refl

-- it ends below 2^64
pub table_fits : (tables : List PlacedTable) (i : ℕ) (d : PlacedTable) (p : AddressRange) → i < length tables
    → p.address ≡ (get_or tables i d).address → p.length ≡ length (get_or tables i d).bytes.now
    → list_all (λ r. nat_lt (end_of r) (2 ^ 64)) (places_of tables) ≡ true → end_of (region_in p) < 2 ^ 64
table_fits tables i d p less start count h =
    let fits = true_from_ne_false _ (λ e. both_ways _
    (list_all_at (λ t. range_fits t.address (length t.bytes.now)) tables i d less e) (sym (all_fit tables) ∙ h)) in
    let low = ltb-true _ _ fits in
    omega (arith, low, start, count, length-replicate {A = ℕ} p.length 0)

-- no table is left
pub tables_end : (m : Memory) (tables : List PlacedTable) (i : ℕ) (starts : BTreeMap ℕ ℕ) → length tables ≤ i
    → IsPlaced starts (m ++ places_of (take i tables)) → false ≡ some_share (m ++ places_of tables)
tables_end m tables i starts past h =
    let all : take i tables ≡ tables = take_all i tables past in
    sym (none_found (m ++ places_of tables) (rw all at h).0)

-- ---- the first two places

pub none_placed : (starts : BTreeMap ℕ ℕ) → starts.entries ≡ [] → IsPlaced starts []
none_placed starts empty = (tt, starts_none (λ n. replicate n 0) starts [] empty refl)

pub two_placed : (r s : Region) (starts more all : BTreeMap ℕ ℕ) → starts.entries ≡ [] → false ≡ share r s
    → ((m : Memory) → shares_any m r ≡ false → IsPlaced starts m → IsPlaced more (m ++ (r ∷ [])))
    → ((m : Memory) → shares_any m s ≡ false → IsPlaced more m → IsPlaced all (m ++ (s ∷ [])))
    → IsPlaced all (r ∷ s ∷ [])
two_placed r s starts more all empty apart first second =
    second (r ∷ []) (or_from _ _ (sym apart) refl) (first [] refl (none_placed starts empty))

-- what the tables are asked by their places

pub any_shares : (tables : List PlacedTable) (r : Region)
    → shares_any (places_of tables) r ≡ list_any (λ t. share (place_of t) r) tables
any_shares [] r = refl
any_shares (t ∷ tables) r = ap (λ b. share (place_of t) r || b) (any_shares tables r)

pub region_fits : (r : AddressRange) → nat_lt (end_of (region_in r)) (2 ^ 64) ≡ range_fits r.address r.length
region_fits r = rw (length-replicate {A = ℕ} r.length 0) refl

pub all_low : (tables : List PlacedTable)
    → list_all (λ a. nat_lt a (2 ^ 32)) (starts_of (placed tables)) ≡ list_all (λ t. nat_lt t.address (2 ^ 32)) tables
all_low [] = refl
all_low (t ∷ tables) = rw (all_low tables) refl

pub two_share : (r s : Region) (rest : Memory) → true ≡ share r s → true ≡ some_share (r ∷ s ∷ rest)
two_share r s rest e = sym (some_found (r ∷ []) s rest (or_left _ _ (sym e)))

-- ---- what passed all checks, and what a refusal is

-- a refusal of the checks is the one that is defined
refused : {X : Type 0} (view : X → List ℕ) (p : Plan) (e : WriteError) → e ≢ refusal.OutOfMemory → check_plan p ≡ Err e
    → WritesOrRunsOut view (Err e) (written p)
unfolding written
refused view p refusal.OutOfMemory other h = absurd (other refl)
refused view p refusal.ZeroRoot other h = rw h refl
refused view p (refusal.BadTable n) other h = rw h refl
refused view p refusal.TooMany other h = rw h refl
refused view p refusal.PointerTooLarge other h = rw h refl
refused view p refusal.EndTooLarge other h = rw h refl
refused view p refusal.Overlap other h = rw h refl

-- an answer that hands a refusal on
pub handed_on : {X : Type 0} (view : X → List ℕ) (r : Result X WriteError) (e : WriteError) (p : Plan)
    → IsErrAnd r (λ x. x ≡ e) → e ≢ refusal.OutOfMemory → check_plan p ≡ Err e → WritesOrRunsOut view r (written p)
handed_on view (Ok x) e p h other k = absurd h
handed_on view (Err x) e p h other k = rw h (refused view p e other k)

-- what passed

-- the checks that passed, apart
pub record Passed (p : Plan) : Type 0 where
  pub some : not (p.root == 0) ≡ true
  pub tables : check_tables 0 p.tables ≡ Ok tt
  pub short : nat_lt (root_length (kind_of p) (length p.tables)) (2 ^ 32) ≡ true
  pub fit : pointers_fit p.revision (p.root ∷ pointers_of p) ≡ true
  pub places : check_places (records_of p) ≡ Ok tt

pub passed : (p : Plan) (x : Unit {0}) → check_plan p ≡ Ok x → Passed p
unfolding check_plan
passed p x e =
    let a = holds_ok _ _ _ x e in
    let b = bind_ok (check_tables 0 p.tables) _ x a.1 in
    let c = holds_ok _ _ _ x b.2 in
    let d = holds_ok _ _ _ x c.1 in
    record { some = a.0; tables = b.1; short = c.0; fit = d.0; places = d.1 }

pub are_tables : (n : ℕ) (ts : Memory) (x : Unit {0}) → check_tables n ts ≡ Ok x
    → AllByRecursion (λ t. is_table t.bytes ≡ true) ts
are_tables n [] x e = tt
are_tables n (t ∷ ts) x e =
    let a = holds_ok _ _ _ x e in
    (a.0, are_tables (n + 1) ts x a.1)

each_long : (ts : List PlacedTable) (k : ℕ) (d : PlacedTable)
    → AllByRecursion (λ t. is_table t.bytes ≡ true) (placed ts) → k < length ts
    → 36 ≤ length (slice_index_or ts k d).bytes.now
each_long [] k d all less = absurd (omega arith)
each_long (t ∷ ts) zero d all less = (table_is t.bytes.now all.0).long
each_long (t ∷ ts) (suc k) d all less = each_long ts k d all.1 (omega arith)

module _ (rsdp root revision : ℕ) (tables : List PlacedTable) (x : Unit {0})
    (e : check_plan (plan rsdp root revision tables) ≡ Ok x) where
  pub tables_long : (k : ℕ) (d : PlacedTable) → k < length tables → 36 ≤ length (slice_index_or tables k d).bytes.now
  tables_long k d less = each_long tables k d (are_tables 0 (placed tables) tt (passed _ x e).tables) less

  pub root_short : root_length (kind_of_revision revision) (length tables) < 2 ^ 32
  root_short =
      let same = length-map tables placed_region in
      let short = ltb-true _ _ (passed _ x e).short in
      rw same at short
