-- Records that can lie where they are placed are a memory; what is written is read back, opened, and has the tables
-- that were placed.
use Rattle.std.proofs.Common.{◌≡◌, ℕ, ◌^◌, ◌<◌, Bool, true, false, List, [], ◌∷◌, length, map, Result, Ok, refl, arith, drop, Err, sym, subst, ◌∙◌, ◌||◌, flat_map, if◌then◌else◌, nat_lt, not, ◌==◌, IfOk}
use Rattle.acpi_base.specs.FromStd.{AllByRecursion, list_all}
use Rattle.acpi_base.proofs.FromStd.{and_parts, ltb-true, or_parts, length-map}
use Rattle.acpi_base.proofs.Words.{holds_ok, bind_ok, same_ok}
use Rattle.acpi_base.specs.Words.{IsBytes, Memory, IsMemory, end_of, holds, ◌>>=◌}
use Rattle.acpi.specs.Words.{width_of, pointers, root_at, hpet_of, valid_headers, valid_tables, found_regions, platform_of, FollowsTables, opened_by_rsdp, rsdp_at}
use Rattle.acpi.specs.declared.root.RootKind.TheVariants.{Rsdt, Xsdt}
use Rattle.acpi_image_reader.proofs.Listing.{flipped}
use Rattle.acpi_image_reader.proofs.Sharing.{all_apart}
use Rattle.std.proofs.lemmas.Bool.{not-true}
use Rattle.acpi_image_reader.specs.Words.{record_spelling}
use Rattle.acpi_image.specs.Words.{check_places, some_share, WritesOrRunsOut, check_plan, written, starts_of, summed, Plan, kind_of, pointers_of, records_of, root_length, root_to, rsdp_record, rsdp_to, spaces, tables_of, WriteError, Overlap, IsWritten, SaysOfTables, WrittenIsRead, opened_of, said_of}
use Rattle.acpi.specs.Types.{AcpiError}
use Rattle.acpi.proofs.Moved.{headers_follow, hpet_follows, in_ok_follows, platform_follows, regions_follow}
use Rattle.acpi_image_reader.proofs.Images.{image_again}
use Rattle.acpi_image.proofs.Written.{length-rsdp_to, every_in, record_bytes, sums_are_set, tables_there}
use Rattle.acpi_image.proofs.WrittenRoot.{IsRsdp, is_rsdp, pointers_are, root_there, rsdp_there, spaces_text}
use Rattle.acpi_image.proofs.Checks.{Passed, are_tables, each_also, passed}

-- ---- places

abbrev pub Ends : Memory → Type 0
Ends m = AllByRecursion (λ r. end_of r < 2 ^ 64) m

-- a test that each passes says something of each
each_passes : {X : Type 0} (test : X → Bool) (P : X → Type 0) → ((x : X) → test x ≡ true → P x) → (xs : List X)
    → list_all test xs ≡ true → AllByRecursion P xs
each_passes test P says [] e = tt
each_passes test P says (x ∷ xs) e =
    let p = and_parts _ _ e in
    (says x p.0, each_passes test P says xs p.1)

memory_is : (m : Memory) → Ends m → some_share m ≡ false → AllByRecursion (λ r. IsBytes r.bytes) m → IsMemory m
memory_is [] ends apart bytes = tt
memory_is (r ∷ m) ends apart bytes =
    let p = or_parts _ _ apart in
    ((ends.0, bytes.0), (each_also _ _ (λ s. flipped s r) m (all_apart m r p.0), memory_is m ends.1 p.1 bytes.1))

-- the last check of a chain, which is passed unless b holds
pub last_not : {E : Type 0} (b : Bool) (d : E) (x : Unit {0}) → holds (not b) d ≡ Ok x → b ≡ false
last_not true d x e = absurd cc
last_not false d x e = refl

abbrev passes : Unit {0} → Result (Unit {0}) WriteError
passes x = Ok x

module _ (m : Memory) (e : check_places m ≡ Ok tt) where
  parts : (list_all (λ r. nat_lt (end_of r) (2 ^ 64)) m ≡ true) × (holds (not (some_share m)) Overlap ≡ passes tt)
  unfolding check_places
  parts = holds_ok _ _ _ tt e

  pub places_end : Ends m
  places_end = each_passes _ _ (λ r. ltb-true _ _) m parts.0

  pub places_are : IsBytes (flat_map record_spelling m) → IsMemory m
  places_are bytes = memory_is m places_end (last_not _ _ tt parts.1) (record_bytes m bytes)

-- ---- pointers

starts_below : (ts : Memory) → Ends (map summed ts) → AllByRecursion (λ a. a < 2 ^ 64) (starts_of ts)
starts_below [] ends = tt
starts_below (t ∷ ts) ends = (omega (arith, ends.0), starts_below ts ends.1)

-- for revision 0 they are below 2^32
low_ones : (first : Bool) (ps : List ℕ) → (not first || list_all (λ a. nat_lt a (2 ^ 32)) ps) ≡ true → first ≡ true
    → AllByRecursion (λ a. a < 2 ^ 32) ps
low_ones true ps e f = each_passes _ _ (λ a. ltb-true _ _) ps e
low_ones false ps e f = absurd cc

pointers_narrow : (first : Bool) (ts : Memory) → Ends (map summed ts)
    → (first ≡ true → AllByRecursion (λ a. a < 2 ^ 32) (starts_of ts))
    → AllByRecursion (λ a. a < 256 ^ width_of (if first then Rsdt else Xsdt)) (starts_of ts)
pointers_narrow true ts ends low = low refl
pointers_narrow false ts ends low = starts_below ts ends

-- ---- what is written is read back, opened, and has the tables that were placed

-- what is known if the file is written
record Facts (p : Plan) (file : List ℕ) : Type 0 where
  pub ok : Passed p
  pub image : flat_map record_spelling (records_of p) ≡ file

abbrev lists : List (List ℕ) → Result (List (List ℕ)) AcpiError
lists x = Ok x

facts : (p : Plan) (file : List ℕ) → written p ≡ Ok file → Facts p file
unfolding written
facts p file e =
    let parts = bind_ok (check_plan p) _ file e in
    record { ok = passed p parts.0 parts.1; image = same_ok _ _ parts.2 }

module _ (p : Plan) (ok : Passed p) (memory : IsMemory (records_of p)) where
  ends : Ends (records_of p)
  ends = places_end (records_of p) ok.places

  low : (p.revision == 0) ≡ true → AllByRecursion (λ a. a < 2 ^ 32) (p.root ∷ pointers_of p)
  low first = low_ones (p.revision == 0) (p.root ∷ pointers_of p) ok.fit first

  short : root_length (kind_of p) (length (pointers_of p)) < 2 ^ 32
  short =
      let same = length-map p.tables (λ t. t.start) in
      rw same (ltb-true _ _ ok.short)

  root_is : root_at (records_of p) (kind_of p) p.root ≡ Ok (root_to (kind_of p) (pointers_of p))
  root_is = root_there (records_of p) (kind_of p) p.root (pointers_of p) memory (every_in (records_of p)).1.0 short

  pointers_there : pointers (width_of (kind_of p)) (drop 36 (root_to (kind_of p) (pointers_of p))) ≡ pointers_of p
  pointers_there = pointers_are (kind_of p) (pointers_of p)
      (pointers_narrow (p.revision == 0) p.tables ends.1.1 (λ first. (low first).1))

  rsdp_tested : IsRsdp (spaces 6) p.revision p.root (rsdp_to (spaces 6) p.revision p.root)
  rsdp_tested = is_rsdp (spaces 6) p.revision p.root refl spaces_text (not-true (p.root == 0) ok.some)
      (omega (arith, ends.1.0)) (λ first. (low first).0)

  rsdp_is : rsdp_at (records_of p) p.rsdp ≡ Ok (rsdp_to (spaces 6) p.revision p.root)
  rsdp_is = rsdp_there (records_of p) (rsdp_record p.rsdp p.revision p.root) memory (every_in (records_of p)).0
      (length-rsdp_to (spaces 6) p.revision p.root refl) (spaces 6) p.revision p.root rsdp_tested

  opened_is : opened_by_rsdp (records_of p) p.rsdp ≡ Ok (opened_of p)
  opened_is = rw (rsdp_is, rsdp_tested.leads_to, root_is) refl

  valid_are : valid_tables (records_of p) (pointers_of p) ≡ tables_of p
  valid_are = tables_there (records_of p) p.tables memory (every_in (records_of p)).1.1
      (are_tables 0 p.tables tt ok.tables)

pub written_is_read : WrittenIsRead
written_is_read p file bytes e =
    let known = facts p file e in
    let memory = places_are (records_of p) known.ok.places
    (subst (λ (b : List ℕ). IsBytes b) (sym known.image) bytes) in
    record {
      image = sym known.image;
      memory = memory;
      read = image_again file (records_of p) memory (sym known.image);
      rsdp = rsdp_is p known.ok memory;
      opened = opened_is p known.ok memory;
      root = root_is p known.ok memory;
      listed = pointers_there p known.ok memory;
      tables = valid_are p known.ok memory;
      sums = sums_are_set p.tables (are_tables 0 p.tables tt known.ok.tables);
    }

-- ---- wherever the tables lie

moved_by : {A : Type 0} (n : Memory) (r : Result (List ℕ) AcpiError) (pointers_in : List ℕ
    → List ℕ) (ts : List (List ℕ))
    (defined : Memory → List ℕ → Result A AcpiError) (meaning : Result A AcpiError)
    → ((qs : List ℕ) → valid_tables n qs ≡ ts → defined n qs ≡ meaning)
    → (r >>= λ root. lists (valid_tables n (pointers_in root))) ≡ Ok ts
    → (r >>= λ root. defined n (pointers_in root)) ≡ meaning
moved_by n (Ok root) pointers_in ts defined meaning each e = each (pointers_in root) (same_ok _ _ e)
moved_by n (Err d) pointers_in ts defined meaning each e = absurd cc

-- what follows the valid tables says the same of the image
pub says_of_tables : {A : Type 0} (defined : Memory → List ℕ → Result A AcpiError) → FollowsTables defined
    → SaysOfTables defined
says_of_tables defined follows p file bytes e n kind address same =
    let known = facts p file e in
    let memory = places_are (records_of p) known.ok.places
    (subst (λ (b : List ℕ). IsBytes b) (sym known.image) bytes) in
    let tables = valid_are p known.ok memory in
    let meaning : said_of p defined ≡ defined (records_of p) (pointers_of p) =
    rw (root_is p known.ok memory, pointers_there p known.ok memory) refl in
    moved_by n (root_at n kind address) (λ root. pointers (width_of kind) (drop 36 root)) (tables_of p) defined
    (said_of p defined)
    (λ qs f. follows (records_of p) n (pointers_of p) qs (f ∙ sym tables) ∙ sym meaning) same

pub headers_say : SaysOfTables (λ m ps. Ok (valid_headers m ps))
headers_say = says_of_tables (λ m ps. Ok (valid_headers m ps)) (in_ok_follows valid_headers headers_follow)

pub platform_says : {A : Type 0} → SaysOfTables (λ m ps. platform_of {A = A} m ps)
platform_says {A = A} = says_of_tables (λ m ps. platform_of {A = A} m ps) (platform_follows {A = A})

pub hpet_says : SaysOfTables hpet_of
hpet_says = says_of_tables hpet_of hpet_follows

pub regions_say : SaysOfTables found_regions
regions_say = says_of_tables found_regions regions_follow

-- ---- what a call answered

pub answer_is_written : {V : Type 0} (items : V → List ℕ) (r : Result V WriteError) (p : Plan)
    → IfOk r (λ v. IsBytes (items v)) → WritesOrRunsOut items r (written p)
    → IfOk r (λ v. IsWritten p (items v))
answer_is_written items (Ok v) p bytes meaning = written_is_read p (items v) bytes meaning
answer_is_written items (Err e) p bytes meaning = tt
