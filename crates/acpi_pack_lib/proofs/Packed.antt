-- What is packed of tables is a memory, is opened there, and lists the files in order; its records have the bytes of
-- files in order too.
use Rattle.std.proofs.Common.{◌≡◌, ℕ, ◌+◌, ◌^◌, ◌<◌, ◌≤◌, false, List, [], ◌∷◌, ◌++◌, length, map, drop, Some, None, Result, Ok, refl, sym, ap, subst, ◌∙◌, arith, ne_eqb, ◌==◌, Option, Contains, ok_or}
use Rattle.acpi_base.specs.FromStd.{AllByRecursion, Bor}
use Rattle.acpi_base.proofs.FromStd.{ltb-true, append-nil, length-map, length-replicate, append_assoc, map-append}
use Rattle.acpi_base.proofs.Words.{bind_ok, each_back, each_front, holds_ok, same_ok}
use Rattle.acpi_base.specs.Words.{IsBytes, Memory, Region, AreApart, IsMemory, end_of, ◌>>=◌}
use Rattle.acpi.specs.Words.{valid_tables, opened_by_rsdp, pointers, root_at, width_of, rsdp_at}
use Rattle.acpi.specs.declared.root.RootKind.TheVariants.{Xsdt}
use Rattle.acpi_image.proofs.Written.{every_in, length-root_to, length-rsdp_to}
use Rattle.acpi_image_reader.proofs.Sharing.{all_both, memory_with}
use Rattle.acpi_image.proofs.WrittenRoot.{pointers_are, root_there, IsRsdp, is_rsdp, rsdp_there, spaces_text}
use Rattle.acpi_image_reader.specs.Words.{IsImage}
use Rattle.acpi_image.specs.Words.{root_length, root_record, root_to, rsdp_record, rsdp_to, spaces, starts_of}
use Rattle.acpi_pack_lib.proofs.Placing.{HasPlace, file_is, has_place, is_file, placed_apart, placed_behind, placed_memory, tables_valid, is_placed, placed_bytes, placed_law}
use Rattle.acpi_pack_lib.specs.Words.{all_regions, check_place, dsdt_address, dsdt_at, file_of, first_address, fixed_of, laid_out, listed_or, packed_tables, rsdp_address, rsdp_place, unless_second, check_places, packed_files, regions, IsPacked, IsRight, opened_with, ArePlaced, place_at, placed_from, bytes_of, check_tables, entries, bytes_in, check_contents, Refusal, NoRoom, Dsdt, Listed, AreNamed, label_text, packed_by}
use Rattle.acpi_pack_lib.specs.declared.listing.Label.TheVariants as label

abbrev AllBytes : Memory → Type 0
AllBytes m = AllByRecursion (λ r. IsBytes r.bytes) m

-- ---- lists

low_starts : (fixed : Region) (from : ℕ) (ts : Memory) → ArePlaced fixed from ts
    → AllByRecursion (λ p. p < 2 ^ 64) (starts_of ts)
low_starts fixed from [] h = tt
low_starts fixed from (t ∷ ts) h =
    let ends = h.0.ends in
    (omega arith, low_starts fixed (end_of t) ts h.1)

-- ---- the DSDT

abbrev DsdtIs : Option Region → Type 0
DsdtIs None = Unit {0}
DsdtIs (Some r) = HasPlace (rsdp_place ∷ []) r

-- these bytes begin with the regions' bytes
abbrev Begin : List (List ℕ) → Memory → Type 0
Begin named m = (others : List (List ℕ)) × (named ≡ map (λ r. r.bytes) m ++ others)

-- what is known of the DSDT that is placed: it has its place, and is the first of those that there are
abbrev IsDsdtOf : List (ℕ × List ℕ) → Option Region → Type 0
IsDsdtOf found d = DsdtIs d × Begin (bytes_of found) (listed_or d)

dsdt_known : (address : Option ℕ) (found : List (ℕ × List ℕ)) (d : Option Region)
    → dsdt_at address found ≡ Ok d → IsDsdtOf found d
dsdt_known address [] d e = subst (λ (o : Option Region). IsDsdtOf [] o) (same_ok _ _ e) (tt, ([], refl))
dsdt_known None (first ∷ others) d e =
    subst (λ (o : Option Region). IsDsdtOf (first ∷ others) o) (same_ok _ _ e)
    (tt, (bytes_of (first ∷ others), refl))
dsdt_known (Some a) (first ∷ []) d e =
    let r : Region = record { start = a; bytes = first.1 } in
    let parts = bind_ok (check_place first.0 (rsdp_place ∷ []) r) (λ _. unless_second r []) d e in
    subst (λ (o : Option Region). IsDsdtOf (first ∷ []) o) (same_ok _ _ parts.2)
    (has_place first.0 (rsdp_place ∷ []) r parts.0 parts.1, ([], refl))
dsdt_known (Some a) (first ∷ second ∷ others) d e =
    let r : Region = record { start = a; bytes = first.1 } in
    let parts = bind_ok (check_place first.0 (rsdp_place ∷ []) r) (λ _. unless_second r (second ∷ others)) d e in
    let refused : unless_second r (second ∷ others) ≡ Ok d = parts.2 in
    absurd cc

-- ---- where each table is

-- what was laid out
record IsLaid (dsdt : Option Region) (listed : List (List ℕ)) (m : Memory) : Type 0 where
  pub root : ℕ
  pub tables : Memory
  pub short : root_length Xsdt (length listed) < 2 ^ 32
  pub root_is : place_at (fixed_of dsdt) first_address (root_length Xsdt (length listed)) ≡ Some root
  pub tables_are : placed_from (fixed_of dsdt) (root + root_length Xsdt (length listed)) listed ≡ Ok tables
  pub all : all_regions root tables dsdt ≡ m

some_is : (o : Option ℕ) (x : ℕ) → ok_or o NoRoom ≡ Ok x → o ≡ Some x
some_is None x e = absurd cc
some_is (Some y) x e = cc

laid_is : (dsdt : Option Region) (listed : List (List ℕ)) (m : Memory) → laid_out dsdt listed ≡ Ok m
    → IsLaid dsdt listed m
unfolding laid_out
laid_is dsdt listed m e =
    let first = holds_ok _ _ _ m e in
    let second = bind_ok (ok_or (place_at (fixed_of dsdt) first_address (root_length Xsdt (length listed))) NoRoom) _ m
    first.1 in
    let third = bind_ok (placed_from (fixed_of dsdt) (second.0 + root_length Xsdt (length listed)) listed) _ m
    second.2 in
    record {
      root = second.0;
      tables = third.0;
      short = ltb-true _ _ first.0;
      root_is = some_is _ _ second.1;
      tables_are = third.1;
      all = same_ok _ _ third.2;
    }

module _ (dsdt : Option Region) (listed : List (List ℕ)) (m : Memory) (laid : IsLaid dsdt listed m) where
  abbrev root_region : Region
  root_region = root_record Xsdt laid.root (starts_of laid.tables)

  bytes_are : map (λ t. t.bytes) laid.tables ≡ listed
  bytes_are = placed_bytes (fixed_of dsdt) listed _ laid.tables laid.tables_are

  as_many : length (starts_of laid.tables) ≡ length listed
  as_many = length-map laid.tables (λ t. t.start) ∙ sym (length-map laid.tables (λ t. t.bytes)) ∙ ap length bytes_are

  root_long : length root_region.bytes ≡ root_length Xsdt (length listed)
  root_long = length-root_to Xsdt (starts_of laid.tables) ∙ ap (root_length Xsdt) as_many

  all_placed : ArePlaced (fixed_of dsdt) first_address (root_region ∷ laid.tables)
  all_placed =
      let there : place_at (fixed_of dsdt) first_address (length root_region.bytes) ≡ Some laid.root =
      rw root_long laid.root_is in
      let behind : placed_from (fixed_of dsdt) (end_of root_region) listed ≡ Ok laid.tables =
      rw root_long laid.tables_are in (
        is_placed (fixed_of dsdt) first_address root_region.bytes laid.root there,
        placed_law (fixed_of dsdt) listed (end_of root_region) laid.tables behind,
      )

  module _ (known : DsdtIs dsdt) (bytes : AllBytes (all_regions laid.root laid.tables dsdt)) where
    abbrev first_region : Region
    first_region = rsdp_record rsdp_address 2 laid.root

    placed_ones : IsMemory (root_region ∷ laid.tables)
    placed_ones =
        placed_memory (fixed_of dsdt) first_address (root_region ∷ laid.tables) all_placed
        (bytes.1.0, each_front (λ r. IsBytes r.bytes) laid.tables (listed_or dsdt) bytes.1.1)

    first_ends : end_of first_region ≤ first_address
    first_ends = let few = length-rsdp_to (spaces 6) 2 laid.root refl in omega (arith, few)

    first_apart : AllByRecursion (AreApart first_region) (root_region ∷ laid.tables)
    first_apart = placed_behind (fixed_of dsdt) first_region first_address (root_region ∷ laid.tables) first_ends
        all_placed

-- a region that keeps away from the RSDP's place keeps away from the RSDP
from_place : (root : ℕ) (d : Region) → AreApart rsdp_place d → AreApart (rsdp_record rsdp_address 2 root) d
from_place root d h a here there =
    let same : length (rsdp_to (spaces 6) 2 root) ≡ length rsdp_place.bytes =
    length-rsdp_to (spaces 6) 2 root refl ∙ sym (length-replicate {A = ℕ} 36 0) in
    h a (rw same at here) there

with_dsdt : (dsdt : Option Region) (root : ℕ) (ms : Memory) → DsdtIs dsdt → AllBytes (listed_or dsdt) → IsMemory ms
    → AllByRecursion (λ r. AreApart r (fixed_of dsdt)) ms
    → IsMemory (ms ++ listed_or dsdt)
with_dsdt None root ms known bytes h apart = rw append-nil h
with_dsdt (Some d) root ms known bytes h apart = memory_with ms d h (known.ends, bytes.0) apart

dsdt_apart : (dsdt : Option Region) (root : ℕ) → DsdtIs dsdt
    → AllByRecursion (AreApart (rsdp_record rsdp_address 2 root)) (listed_or dsdt)
dsdt_apart None root known = tt
dsdt_apart (Some d) root known = (from_place root d known.apart.0, tt)

all_memory : (dsdt : Option Region) (listed : List (List ℕ)) (m : Memory) (laid : IsLaid dsdt listed m)
    (known : DsdtIs dsdt) → AllBytes (all_regions laid.root laid.tables dsdt)
    → IsMemory (all_regions laid.root laid.tables dsdt)
all_memory dsdt listed m laid known bytes =
    let few = length-rsdp_to (spaces 6) 2 laid.root refl in
    let placed = placed_ones dsdt listed m laid known bytes in
    let last = each_back (λ r. IsBytes r.bytes) laid.tables (listed_or dsdt) bytes.1.1 in
    let front = root_record Xsdt laid.root (starts_of laid.tables) ∷ laid.tables in
    let behind : IsMemory (front ++ listed_or dsdt) =
    with_dsdt dsdt laid.root front known last placed
    (placed_apart (fixed_of dsdt) first_address front (all_placed dsdt listed m laid)) in
    let apart : AllByRecursion (AreApart (rsdp_record rsdp_address 2 laid.root)) (front ++ listed_or dsdt) =
    all_both (AreApart (rsdp_record rsdp_address 2 laid.root)) front (listed_or dsdt)
    (first_apart dsdt listed m laid known bytes) (dsdt_apart dsdt laid.root known) in
    ((omega (arith, few), bytes.0), (apart, behind))

module _ (dsdt : Option Region) (listed : List (List ℕ)) (m : Memory) (laid : IsLaid dsdt listed m)
    (memory : IsMemory (all_regions laid.root laid.tables dsdt)) where
  abbrev all : Memory
  all = all_regions laid.root laid.tables dsdt

  abbrev ps : List ℕ
  ps = starts_of laid.tables

  high : first_address ≤ laid.root
  high = (all_placed dsdt listed m laid).0.behind

  low : end_of (root_record Xsdt laid.root ps) < 2 ^ 64
  low = (all_placed dsdt listed m laid).0.ends

  some : (laid.root == 0) ≡ false
  some = ne_eqb _ _ (λ e. absurd (omega (arith, high, e)))

  rsdp_tested : IsRsdp (spaces 6) 2 laid.root (rsdp_to (spaces 6) 2 laid.root)
  rsdp_tested = is_rsdp (spaces 6) 2 laid.root refl spaces_text some (omega (arith, low)) (λ e. absurd cc)

  rsdp_is : rsdp_at all rsdp_address ≡ Ok (rsdp_to (spaces 6) 2 laid.root)
  rsdp_is = rsdp_there all (rsdp_record rsdp_address 2 laid.root) memory (every_in all).0
      (length-rsdp_to (spaces 6) 2 laid.root refl) (spaces 6) 2 laid.root rsdp_tested

  root_is : root_at all Xsdt laid.root ≡ Ok (root_to Xsdt ps)
  root_is = root_there all Xsdt laid.root ps memory (every_in all).1.0 (rw (as_many dsdt listed m laid) laid.short)

  opened_is : opened_by_rsdp all rsdp_address ≡ Ok (opened_with laid.root ps)
  opened_is = rw (rsdp_is, rsdp_tested.leads_to, root_is) refl

  listed_are : pointers (width_of Xsdt) (drop 36 (root_to Xsdt ps)) ≡ ps
  listed_are = pointers_are Xsdt ps (low_starts (fixed_of dsdt) _ laid.tables (all_placed dsdt listed m laid).1)

  valid_are : AllByRecursion IsRight listed → valid_tables all ps ≡ listed
  valid_are right =
      let same = bytes_are dsdt listed m laid in
      let there = each_front (Contains all) laid.tables (listed_or dsdt) (every_in all).1.1 in
      tables_valid all laid.tables memory there (rw same right) ∙ same

-- ---- what a call packs

abbrev laid_for : List (Option (List ℕ)) → Result Memory Refusal
laid_for files = dsdt_at (dsdt_address (bytes_of (entries Listed 0 files))) (entries Dsdt 0 files) >>= λ dsdt.
    laid_out dsdt (bytes_of (entries Listed 0 files))

record Packs (files : List (Option (List ℕ))) (m : Memory) : Type 0 where
  pub dsdt : Option Region
  pub known : IsDsdtOf (entries Dsdt 0 files) dsdt
  pub laid : IsLaid dsdt (bytes_of (entries Listed 0 files)) m

packs : (files : List (Option (List ℕ))) (m : Memory) → packed_tables files ≡ Ok m → Packs files m
unfolding packed_tables
packs files m e =
    let first = bind_ok (check_tables 0 files) (λ _. laid_for files) m e in
    let second = bind_ok (dsdt_at (dsdt_address (bytes_of (entries Listed 0 files))) (entries Dsdt 0 files))
    (λ dsdt. laid_out dsdt (bytes_of (entries Listed 0 files))) m first.2 in
    record {
      dsdt = second.0;
      known = dsdt_known _ _ second.0 second.1;
      laid = laid_is second.0 _ m second.2;
    }

pub tables_packed : (files : List (Option (List ℕ))) (file : List ℕ) → IsBytes file
    → file_of (packed_tables files) ≡ Ok file → IsPacked files file
tables_packed files file bytes e =
    let known = file_is (packed_tables files) file bytes e in
    let p = packs files known.all known.packed_is in
    let same = p.laid.all in
    let listed = bytes_of (entries Listed 0 files) in
    let memory = all_memory p.dsdt listed known.all p.laid p.known.0
    (subst (λ (k : Memory). AllBytes k) (sym same) known.bytes) in
    record {
      root = p.laid.root;
      tables = p.laid.tables;
      dsdt = p.dsdt;
      packed = known.packed_is ∙ ap (λ (k : Memory). Ok k) (sym same);
      file_is = is_file (all_regions p.laid.root p.laid.tables p.dsdt) file memory
          (subst (λ (k : Memory). IsImage file k) (sym same) known.image);
      bytes = bytes_are p.dsdt listed known.all p.laid;
      placed = all_placed p.dsdt listed known.all p.laid;
      opened = opened_is p.dsdt listed known.all p.laid memory;
      listed = listed_are p.dsdt listed known.all p.laid memory;
      valid = valid_are p.dsdt listed known.all p.laid memory;
    }

-- ---- names, and the files that they name

-- labels that are names alone
pub names_shown : (names : List (Bor (List ℕ)))
    → map label_text (map (λ n. label.Name n) names) ≡ map (λ n. n.now) names
names_shown [] = refl
names_shown (n ∷ names) = ap (λ (ls : List (List ℕ)). n.now ∷ ls) (names_shown names)

-- files at addresses

ranges_named : (addresses : List ℕ) (files : List (Option (List ℕ)))
    → Begin (map bytes_in files) (regions addresses files)
ranges_named [] files = (map bytes_in files, refl)
ranges_named (a ∷ addresses) [] = ([], refl)
ranges_named (a ∷ addresses) (f ∷ files) =
    let rest = ranges_named addresses files in
    (rest.0, ap (λ (xs : List (List ℕ)). bytes_in f ∷ xs) rest.1)

files_named : (addresses : List ℕ) (files : List (Option (List ℕ))) (m : Memory) → packed_files addresses files ≡ Ok m
    → AreNamed (Some addresses) files m
unfolding packed_files
files_named addresses files m e =
    let first = bind_ok (check_contents 0 files) _ m e in
    let second = bind_ok (check_places 0 [] (regions addresses files)) _ m first.2 in
    subst (λ (k : Memory). AreNamed (Some addresses) files k) (same_ok _ _ second.2) (ranges_named addresses files)

-- tables

joined : (listed dsdts : List (ℕ × List ℕ)) (tables ds : Memory) → map (λ r. r.bytes) tables ≡ bytes_of listed
    → Begin (bytes_of dsdts) ds → Begin (bytes_of (listed ++ dsdts)) (tables ++ ds)
joined listed dsdts tables ds same begun = (
  begun.0,
  map-append (λ e. e.1) listed dsdts
      ∙ ap (λ (xs : List (List ℕ)). xs ++ bytes_of dsdts) (sym same)
      ∙ ap (λ (xs : List (List ℕ)). map (λ r. r.bytes) tables ++ xs) begun.1
      ∙ sym (append_assoc (map (λ r. r.bytes) tables) (map (λ r. r.bytes) ds) begun.0)
      ∙ ap (λ (xs : List (List ℕ)). xs ++ begun.0) (sym (map-append (λ r. r.bytes) tables ds)),
)

tables_named : (files : List (Option (List ℕ))) (m : Memory) → packed_tables files ≡ Ok m → AreNamed None files m
tables_named files m e =
    let p = packs files m e in
    subst (λ (k : Memory). AreNamed None files k) p.laid.all
    (joined (entries Listed 0 files) (entries Dsdt 0 files) p.laid.tables (listed_or p.dsdt)
    (bytes_are p.dsdt (bytes_of (entries Listed 0 files)) m p.laid) p.known.1)

pub are_named : (addresses : Option (List ℕ)) (files : List (Option (List ℕ))) (m : Memory)
    → packed_by addresses files ≡ Ok m → AreNamed addresses files m
are_named (Some addresses) files m e = files_named addresses files m e
are_named None files m e = tables_named files m e
