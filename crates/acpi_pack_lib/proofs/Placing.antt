-- Where files are placed, how many are of a role, and that what is packed is a memory whose valid tables they are.
use Rattle.std.proofs.lemmas.Bool.{cond_both}
use Rattle.std.proofs.lemmas.Option.{cond_some}
use Rattle.std.proofs.Common.{◌-◌, ◌≡◌, ℕ, zero, suc, ◌+◌, ◌<◌, ◌≤◌, List, [], ◌∷◌, ◌++◌, length, drop, take, get_or, drop-cons, add-one, Ok, refl, ap, arith, inl, inr, ◌%◌, ◌^◌, map, Some, None, Result, sym, ◌∙◌, subst, Option, min, ◌⊎◌, nat_le, ◌||◌, flat_map, zip, Contains}
use Rattle.acpi_base.specs.FromStd.{Bor, list_any, AllByRecursion}
use Rattle.acpi_base.proofs.FromStd.{drop_of_length-le, cases_lt, nat_tests, leb-false, leb-true, ltb-true, or_cases, or_parts, drop-map, take_rest, length-map, append-nil, append_assoc}
use Rattle.acpi_image_reader.specs.Words.{share, shares_any, IsImage, record_spelling}
use Rattle.acpi_base.specs.Words.{Memory, Region, end_of, AreApart, IsMemory, ◌>>=◌, IsBytes, own_table_at}
use Rattle.acpi_pack_lib.specs.Words.{content, contents, region_at, check_place, check_places, regions, file_of, bytes_in, entries, listed, FileRole, Listed, ArePlaced, IsPlaced, aligned, place_at, place_or, placed_from, start_at, Refusal, IsMemoryFile, IsRight}
use Rattle.acpi_pack_lib.specs.Reads.{contents_of, read_of}
use Rattle.acpi_pack_lib.specs.declared.files.Reading.{Reading}
use Rattle.acpi_base.proofs.Words.{bind_ok, holds_ok, same_ok}
use Rattle.acpi_image.specs.Words.{placed, placed_region, starts_of}
use Rattle.acpi_image.specs.declared.write.PlacedTable.{PlacedTable}
use Rattle.acpi.specs.Words.{valid_tables}
use Rattle.acpi_image_reader.proofs.Images.{image_again}
use Rattle.acpi_image.proofs.WrittenLaws.{last_not}
use Rattle.acpi_image.proofs.Written.{own_table_there, record_bytes, header_names, table_is}
use Rattle.acpi_image_reader.proofs.Listing.{flipped}
use Rattle.acpi_image_reader.proofs.Sharing.{all_apart, memory_with}

-- ---- how many are of a role

few : (role : FileRole) (n : ℕ) (files : List (Option (List ℕ))) → length (entries role n files) ≤ length files
few role n [] = omega arith
few role n (file ∷ files) = grind (arith, nat_tests, few role (n + 1) files)

-- no more than there are files
pub entries_few : (role : FileRole) (files : List (Option (Bor (List ℕ))))
    → length (entries role 0 (contents files)) ≤ length files
entries_few role files = rw (length-map files content) at (few role 0 (contents files))

-- the number of them that have bytes there
pub listed_length : (files : List (Option (List ℕ))) → length (listed files) ≡ length (entries Listed 0 files)
listed_length files = length-map (entries Listed 0 files) (λ (e : ℕ × List ℕ). e.1)

contents_read : (readings : List Reading) → contents_of (map read_of readings) ≡ map (λ r. (read_of r).content) readings
contents_read [] = refl
contents_read (r ∷ readings) = ap (λ (cs : List (Option (List ℕ))). (read_of r).content ∷ cs) (contents_read readings)

-- the bytes that are read of later files
pub later_read : (readings : List Reading) (start : ℕ)
    → map (λ r. (read_of r).content) (take (length readings - start) (drop start readings))
    ≡ contents_of (drop start (map read_of readings))
later_read readings start =
    ap (map (λ r. (read_of r).content)) (take_rest readings start) ∙ sym (contents_read (drop start readings))
    ∙ ap contents_of (sym (drop-map read_of start readings))

-- ---- files at their addresses

-- the file at an index, at its address
abbrev file_at : ℕ → List ℕ → List (Option (Bor (List ℕ))) → ℕ → Option (Bor (List ℕ)) → Region
file_at i addresses fs a f = region_at (get_or addresses i a) (get_or fs i f)

-- a region shares a byte with one of the files if it does with one of them at its address
pub any_shares : (addresses : List ℕ) (fs : List (Option (Bor (List ℕ)))) (r : Region)
    → shares_any (regions addresses (contents fs)) r ≡ list_any (λ f. share (region_at f.0 f.1) r) (zip addresses fs)
any_shares [] fs r = refl
any_shares (a ∷ addresses) [] r = refl
any_shares (a ∷ addresses) (f ∷ fs) r = ap (λ b. share (region_at a f) r || b) (any_shares addresses fs r)

no_files : (addresses : List ℕ) → regions addresses [] ≡ []
no_files [] = refl
no_files (a ∷ addresses) = refl

-- no region is left if addresses or files are at their end
pub regions_past : (i : ℕ) (addresses : List ℕ) (fs : List (Option (Bor (List ℕ)))) (n : ℕ)
    → n ≡ min (length addresses) (length fs) → n ≤ i
    → regions (drop i addresses) (contents (drop i fs)) ≡ []
regions_past i addresses fs n e past =
    elim (cases_lt i (length addresses)) [
      | inl lt ↦
          let short : length fs ≤ i = omega arith in
          rw (drop_of_length-le fs short) (no_files (drop i addresses))
      | inr le ↦ rw (drop_of_length-le addresses le) refl
    ]

more : (n : ℕ) (addresses : List ℕ) (fs : List (Option (Bor (List ℕ)))) (a : ℕ) (f : Option (Bor (List ℕ)))
    → n < length addresses → n < length fs
    → regions (take (suc n) addresses) (contents (take (suc n) fs)) ≡ regions (take n addresses) (contents (take n fs))
    ++ (file_at n addresses fs a f ∷ [])
more n [] fs a f less there = absurd (omega arith)
more n (x ∷ addresses) [] a f less there = absurd (omega arith)
more zero (x ∷ addresses) (y ∷ fs) a f less there = refl
more (suc n) (x ∷ addresses) (y ∷ fs) a f less there =
    ap (λ (m : Memory). record { start = x; bytes = bytes_in (content y) } ∷ m)
    (more n addresses fs a f (omega arith) (omega arith))

module _ (i : ℕ) (addresses : List ℕ) (fs : List (Option (Bor (List ℕ)))) (a : ℕ) (f : Option (Bor (List ℕ))) (n : ℕ)
    (e : n ≡ min (length addresses) (length fs)) (before : i < n) where
  less : i < length addresses
  less = omega arith

  there : i < length fs
  there = omega arith

  next : regions (drop i addresses) (contents (drop i fs)) ≡ file_at i addresses fs a f
      ∷ regions (drop (i + 1) addresses) (contents (drop (i + 1) fs))
  next = rw (add-one, drop-cons addresses i a less, drop-cons fs i f there) refl

  -- the next file has its place
  pub place_checked : (x : Unit {0}) → check_place i (regions (take i addresses) (contents (take i fs)))
      (file_at i addresses fs a f) ≡ Ok x
      → check_places (i + 1) (regions (take (i + 1) addresses) (contents (take (i + 1) fs)))
      (regions (drop (i + 1) addresses) (contents (drop (i + 1) fs)))
      ≡ check_places i (regions (take i addresses) (contents (take i fs)))
      (regions (drop i addresses) (contents (drop i fs)))
  place_checked x placed =
      let front : regions (take (i + 1) addresses) (contents (take (i + 1) fs))
      ≡ regions (take i addresses) (contents (take i fs)) ++ (file_at i addresses fs a f ∷ []) =
      rw add-one (more i addresses fs a f less there) in
      rw (front, next, placed) refl

-- ---- where tables are placed

abbrev done : Memory → Result Memory Refusal
done m = Ok m

-- regions, and those after them
abbrev pub behind : Memory → Result Memory Refusal → Result Memory Refusal
behind m r = r >>= λ more. done (m ++ more)

even : (n : ℕ) → aligned n % 16 ≡ 0
even n = omega arith

above : (n : ℕ) → n ≤ aligned n
above n = omega arith

-- the address that is found, if the bytes end below 2^64
given : (fixed : Region) (from : ℕ) (table : List ℕ) → start_at fixed from (length table) + length table < 2 ^ 64
    → IsPlaced fixed from (record { start = start_at fixed from (length table); bytes = table })
unfolding start_at
given fixed from table =
    cond_both (nat_le (aligned from + length table) fixed.start || nat_le (end_of fixed) (aligned from)) (aligned from)
    (aligned (end_of fixed))
    (λ a. a + length table < 2 ^ 64 → IsPlaced fixed from (record { start = a; bytes = table }))
    (λ fits ends. record {
      behind = above from;
      even = even from;
      apart =
          elim (or_cases _ _ fits) [
            | inl before ↦ inl (leb-true _ _ before)
            | inr after ↦ inr (leb-true _ _ after)
          ];
      ends = ends;
    })
    (λ taken ends. record {
      behind =
          let short : aligned from < end_of fixed = leb-false _ _ (or_parts _ _ taken).1 in
          omega (arith, above from, above (end_of fixed));
      even = even (end_of fixed);
      apart = inr (above (end_of fixed));
      ends = ends;
    })

-- what has an address is there
pub is_placed : (fixed : Region) (from : ℕ) (table : List ℕ) (a : ℕ) → place_at fixed from (length table) ≡ Some a
    → IsPlaced fixed from (record { start = a; bytes = table })
unfolding place_at
is_placed fixed from table a e =
    let known = cond_some _ _ a e in
    rw known.1 at (given fixed from table (ltb-true _ _ known.0))

-- what was placed is the tables as they are, in order, each at its address
record IsLaid (fixed : Region) (from : ℕ) (ts : List (List ℕ)) (m : Memory) : Type 0 where
  pub placed : ArePlaced fixed from m
  pub bytes : map (λ r. r.bytes) m ≡ ts

laid_by : (fixed : Region) (from : ℕ) (t : List ℕ) (ts : List (List ℕ)) (m : Memory) (o : Option ℕ)
    → ((next : ℕ) (m : Memory) → placed_from fixed next ts ≡ Ok m → IsLaid fixed next ts m)
    → place_at fixed from (length t) ≡ o
    → place_or fixed o t (λ next. placed_from fixed next ts) ≡ Ok m → IsLaid fixed from (t ∷ ts) m
laid_by fixed from t ts m None each o e = absurd cc
laid_by fixed from t ts m (Some a) each o e =
    let parts = bind_ok (placed_from fixed (a + length t) ts) _ m e in
    let rest = each (a + length t) parts.0 parts.1 in
    rw (← same_ok _ m parts.2) (record {
      placed = (is_placed fixed from t a o, rest.placed);
      bytes = ap (λ (xs : List (List ℕ)). t ∷ xs) rest.bytes;
    })

laid : (fixed : Region) (ts : List (List ℕ)) (from : ℕ) (m : Memory) → placed_from fixed from ts ≡ Ok m
    → IsLaid fixed from ts m
laid fixed [] from m e = rw (← same_ok [] m e) (record { placed = tt; bytes = refl })
laid fixed (t ∷ ts) from m e = laid_by fixed from t ts m _ (laid fixed ts) refl e

-- tables that are placed are at their addresses
pub placed_law : (fixed : Region) (ts : List (List ℕ)) (from : ℕ) (m : Memory) → placed_from fixed from ts ≡ Ok m
    → ArePlaced fixed from m
placed_law fixed ts from m e = (laid fixed ts from m e).placed

-- tables are placed as they are, in order
pub placed_bytes : (fixed : Region) (ts : List (List ℕ)) (from : ℕ) (m : Memory) → placed_from fixed from ts ≡ Ok m
    → map (λ r. r.bytes) m ≡ ts
placed_bytes fixed ts from m e = (laid fixed ts from m e).bytes

-- the number that was to be placed
pub placed_count : (fixed : Region) (from : ℕ) (ts : List (List ℕ)) (tables : List PlacedTable)
    → placed_from fixed from ts ≡ Ok (placed tables) → length tables ≡ length ts
placed_count fixed from ts tables e =
    sym (length-map tables placed_region) ∙ sym (length-map (placed tables) (λ r. r.bytes))
    ∙ ap length (placed_bytes fixed ts from (placed tables) e)

-- no table is left
pub placed_all : (fixed : Region) (from : ℕ) (before : Memory) → behind before (placed_from fixed from []) ≡ Ok before
placed_all fixed from before = ap done (append-nil before)

-- ---- regions apart

-- one ends before the other
pub before_is_apart : (r s : Region) → end_of r ≤ s.start → AreApart r s
before_is_apart r s h a hr hs = grind (arith, nat_tests)

-- ---- regions that are placed

abbrev AllBytes : Memory → Type 0
AllBytes m = AllByRecursion (λ r. IsBytes r.bytes) m

pub placed_behind : (fixed r : Region) (from : ℕ) (rs : Memory) → end_of r ≤ from → ArePlaced fixed from rs
    → AllByRecursion (AreApart r) rs
placed_behind fixed r from [] h placed = tt
placed_behind fixed r from (s ∷ rs) h placed =
    let first : from ≤ s.start = placed.0.behind in
    let rest : end_of r ≤ end_of s = omega arith in
    (before_is_apart r s (omega arith), placed_behind fixed r (end_of s) rs rest placed.1)

pub placed_memory : (fixed : Region) (from : ℕ) (rs : Memory) → ArePlaced fixed from rs → AllBytes rs → IsMemory rs
placed_memory fixed from [] placed bytes = tt
placed_memory fixed from (r ∷ rs) placed bytes = (
  (placed.0.ends, bytes.0),
  (
    placed_behind fixed r (end_of r) rs (omega arith) placed.1,
    placed_memory fixed (end_of r) rs placed.1 bytes.1,
  ),
)

apart_by : (fixed r : Region) → (end_of r ≤ fixed.start) ⊎ (end_of fixed ≤ r.start) → AreApart r fixed
apart_by fixed r (inl before) = before_is_apart r fixed before
apart_by fixed r (inr behind) = flipped fixed r (before_is_apart fixed r behind)

pub placed_apart : (fixed : Region) (from : ℕ) (rs : Memory) → ArePlaced fixed from rs
    → AllByRecursion (λ r. AreApart r fixed) rs
placed_apart fixed from [] placed = tt
placed_apart fixed from (r ∷ rs) placed = (apart_by fixed r placed.0.apart, placed_apart fixed (end_of r) rs placed.1)

-- ---- files at addresses

-- what passed
pub record HasPlace (earlier : Memory) (r : Region) : Type 0 where
  pub ends : end_of r < 2 ^ 64
  pub apart : AllByRecursion (λ s. AreApart s r) earlier

pub has_place : (n : ℕ) (earlier : Memory) (r : Region) (x : Unit {0}) → check_place n earlier r ≡ Ok x
    → HasPlace earlier r
unfolding check_place
has_place n earlier r x e =
    let p = holds_ok _ _ _ x e in
    record { ends = ltb-true _ _ p.0; apart = all_apart earlier r (last_not _ _ x p.1) }

checked_memory : (n : ℕ) (earlier rs : Memory) (x : Unit {0}) → IsMemory earlier → AllBytes rs
    → check_places n earlier rs ≡ Ok x → IsMemory (earlier ++ rs)
checked_memory n earlier [] x h bytes e = rw append-nil h
checked_memory n earlier (r ∷ rs) x h bytes e =
    let parts = bind_ok (check_place n earlier r) _ x e in
    let place = has_place n earlier r parts.0 parts.1 in
    let more = memory_with earlier r h (place.ends, bytes.0) place.apart in
    let all = checked_memory (n + 1) (earlier ++ (r ∷ [])) rs x more bytes.1 parts.2 in
    rw append_assoc at all

-- the records of a memory are a file of it
pub is_file : (rs : Memory) (file : List ℕ) → IsMemory rs → IsImage file rs → IsMemoryFile rs file
is_file rs file h e = record { image = e; memory = h; read = image_again file rs h e }

-- the file of regions, in bytes
pub record IsFileOf (packed : Result Memory Refusal) (file : List ℕ) : Type 0 where
  pub all : Memory
  pub packed_is : packed ≡ Ok all
  pub image : IsImage file all
  pub bytes : AllBytes all

pub file_is : (packed : Result Memory Refusal) (file : List ℕ) → IsBytes file → file_of packed ≡ Ok file
    → IsFileOf packed file
file_is packed file bytes e =
    let parts = bind_ok packed _ file e in
    let image : flat_map record_spelling parts.0 ≡ file = same_ok _ _ parts.2 in
    record {
      all = parts.0;
      packed_is = parts.1;
      image = sym image;
      bytes =
          record_bytes parts.0 (subst (λ (b : List ℕ). IsBytes b) (sym image) bytes);
    }

-- files at addresses are packed as the memory of them
pub files_packed : (addresses : List ℕ) (files : List (Option (List ℕ))) (file : List ℕ) (x : Unit {0}) → IsBytes file
    → check_places 0 [] (regions addresses files) ≡ Ok x → IsImage file (regions addresses files)
    → IsMemoryFile (regions addresses files) file
files_packed addresses files file x bytes placed image =
    let each = record_bytes (regions addresses files) (subst (λ (b : List ℕ). IsBytes b) image bytes) in
    is_file (regions addresses files) file (checked_memory 0 [] (regions addresses files) x tt each placed) image

-- ---- valid tables

pub tables_valid : (m ts : Memory) → IsMemory m → AllByRecursion (Contains m) ts
    → AllByRecursion IsRight (map (λ t. t.bytes) ts)
    → valid_tables m (starts_of ts) ≡ map (λ t. t.bytes) ts
tables_valid m [] h within all = refl
tables_valid m (t ∷ ts) h within all =
    let is = table_is t.bytes all.0.table in
    let this : own_table_at m t.start ≡ Ok t.bytes =
    own_table_there m t h within.0 (header_names t.bytes is.signature is.id is.table_id) is.long is.whole all.0.sum in
    rw (this, tables_valid m ts h within.1 all.1) refl
