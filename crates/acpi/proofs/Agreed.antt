-- Memories that agree on the ranges of a definition have the same answer of it: below a root table, and of what leads
-- to one.
use Rattle.std.proofs.Common.{◌≡◌, ℕ, Bool, true, false, ◌&&◌, if◌then◌else◌, List, [], ◌∷◌, ◌++◌, Option, Some, Result, Ok, Err, refl, ap, ◌∙◌, zero, suc, ◌+◌, None, filter_map, flat_map}
use Rattle.acpi_base.specs.FromStd.{is_err, result_ok, option_or}
use Rattle.acpi_base.proofs.Words.{each_back, each_front, same_own_table, same_table}
use Rattle.acpi.specs.Types.{AcpiError, DSDT, Fadt, AddressRange}
use Rattle.acpi_base.specs.Words.{accepted, has_bit, mailbox_of, mcfg_entries_of, Memory, at, AgreesOn, DependsOn, Gives, Ranges, own_table_ranges, table_ranges, unless_found, ◌>>=◌, lent, Kind, plain_kind, table_at}
use Rattle.acpi_fixed.specs.Words.{dsdt_address_of, facs_address_of, fadt_at}
use Rattle.acpi.proofs.First.{here}
use Rattle.acpi.specs.Words.{FootprintBelow, accepted_below, header_ranges, lookup_ranges, accepted_root_ranges, accepted_root_at, accept_of, accepted_by, accepted_dsdt, accepted_dsdt_ranges, by_accepted_fadt, by_accepted_fadt_ranges, accepted_opened, accepted_opened_ranges, platform_ranges, hpet_at, hpet_kind, info_of, hpet_of, or_later, fadt_kind, faults_of, own_header_at, stream_by, streams_by, unless_valid, valid_headers, lookup, found_at, kind_ranges, members_of, tables_found, mcfg_kind, found_regions, both_place_ranges, dsdt_place, dsdt_place_ranges, facs_at, facs_length_in, facs_place, facs_place_ranges, facs_ranges, by_first_fadt, dsdt_and_facs_ranges, place_at, place_ranges, places_of, madt_kind, platform_of, root_kind, root_of_revision, mailbox_found, kind_of, memory_of, pointers_of, root_address_of, root_of, AcpiTables, Opened, opened_at, opened_from, accepted_found_rsdp, accepted_in_areas, accepted_length, accepted_opened_by_rsdp, accepted_opened_by_rsdp_ranges, accepted_opened_by_search, accepted_opened_by_search_ranges, accepted_opened_in_areas, accepted_opened_in_areas_ranges, accepted_root, accepted_rsdp, accepted_rsdp_at, accepted_rsdp_ranges, accepted_search_ranges, area_ranges, check_extended, check_length, extended_length_of, extended_ranges, length_ranges, opened_ranges, or_else_ranges, reading_ranges, root_ranges_of, rsdp_of, walk_ranges, check_whole, count_of, first_area, found_in, or_else, room_of, second_area, walk, word_in, Area, areas_ranges, count_in, first_in, found_among, walk_in, last_in}
use Rattle.acpi_base.specs.Ranges as ranges

-- ---- lookups

-- what goes on after a step that gives the same
then_same : {A B : Type 0} (m n : Memory) (of : A → Ranges) (f g : A → Result B AcpiError)
    → ((x : A) → AgreesOn m n (of x) → f x ≡ g x) → (r : Result A AcpiError) → AgreesOn m n (ranges.◌>>=◌ r of)
    → (r >>= f) ≡ (r >>= g)
then_same m n of f g each (Ok x) h = each x h
then_same m n of f g each (Err e) h = refl

-- what is come to only if this is refused
later_same : {A B : Type 0} (m n : Memory) (found : A → B) (r : Result A AcpiError) (xs : Ranges) (x y : B)
    → (AgreesOn m n xs → x ≡ y) → AgreesOn m n (unless_found r xs) → or_later found r x ≡ or_later found r y
later_same m n found (Ok a) xs x y each h = refl
later_same m n found (Err e) xs x y each h = each h

-- what is come to only if nothing is found before
else_same : {A : Type 0} (m n : Memory) (xs : Ranges) (x y : Result A AcpiError) → (AgreesOn m n xs → x ≡ y)
    → (o : Option A) → AgreesOn m n (or_else_ranges o xs) → or_else o x ≡ or_else o y
else_same m n xs x y each (Some found) h = refl
else_same m n xs x y each None h = each h

pub same_lookup : (k : Kind) → DependsOn (λ m. lookup_ranges m k) (λ m. lookup m k)
same_lookup k m n [] h = refl
same_lookup k m n (p ∷ ps) h =
    let front = same_table k m n p (each_front _ (table_ranges m k p) _ h) in
    let after = each_back _ (table_ranges m k p) _ h in
    rw front (later_same m n (here p) (table_at m k p) _ _ _ (same_lookup k m n ps) after)

same_faults_later : (m n : Memory) (k : Kind) (p : ℕ) (ps : List ℕ) (r : Result (List ℕ) AcpiError)
    → (AgreesOn m n (lookup_ranges m k ps) → faults_of n k ps ≡ faults_of m k ps)
    → AgreesOn m n (unless_found r (lookup_ranges m k ps))
    → unless_valid p r (faults_of n k ps) ≡ unless_valid p r (faults_of m k ps)
same_faults_later m n k p ps (Ok table) later h = refl
same_faults_later m n k p ps (Err e) later h = rw (later h) refl

pub same_faults : (k : Kind) → DependsOn (λ m. lookup_ranges m k) (λ m. faults_of m k)
same_faults k m n [] h = refl
same_faults k m n (p ∷ ps) h =
    let front = same_table k m n p (each_front _ (table_ranges m k p) _ h) in
    let after = each_back _ (table_ranges m k p) _ h in
    rw front (same_faults_later m n k p ps (table_at m k p) (same_faults k m n ps) after)

-- ---- lists

-- a list made of what each member says by itself
pub same_each : {Y : Type 0} (m n : Memory) (ranges_of : ℕ → Ranges) (f g : ℕ → Option Y)
    → ((p : ℕ) → AgreesOn m n (ranges_of p) → f p ≡ g p)
    → (ps : List ℕ) → AgreesOn m n (flat_map ranges_of ps) → filter_map f ps ≡ filter_map g ps
same_each m n ranges_of f g each [] h = refl
same_each m n ranges_of f g each (p ∷ ps) h =
    let front = each p (each_front _ (ranges_of p) _ h) in
    let after = same_each m n ranges_of f g each ps (each_back _ (ranges_of p) _ h) in
    rw (front, after) refl

same_header : (m n : Memory) (p : ℕ) → AgreesOn m n (own_table_ranges m p)
    → result_ok (own_header_at n p) ≡ result_ok (own_header_at m p)
unfolding own_header_at
same_header m n p h = rw (same_own_table m n p h) refl

pub same_headers : DependsOn header_ranges valid_headers
same_headers m n ps h = same_each m n (own_table_ranges m) _ _ (same_header m n) ps h

same_stream : (k : Kind) (m n : Memory) (p : ℕ) → AgreesOn m n (table_ranges m k p)
    → result_ok (stream_by n k p) ≡ result_ok (stream_by m k p)
unfolding stream_by
same_stream k m n p h = rw (same_table k m n p h) refl

pub same_streams : (k : Kind) → DependsOn (λ m. kind_ranges m k) (λ m. streams_by m k)
same_streams k m n ps h = same_each m n (table_ranges m k) _ _ (same_stream k m n) ps h

pub same_members : DependsOn header_ranges members_of
unfolding own_header_at
same_members m n [] h = refl
same_members m n (p ∷ ps) h =
    let front = same_own_table m n p (each_front _ (own_table_ranges m p) _ h) in
    let after = same_members m n ps (each_back _ (own_table_ranges m p) _ h) in
    rw (front, after) refl

same_found_at : (k : Kind) (m n : Memory) (p : ℕ) → AgreesOn m n (table_ranges m k p)
    → result_ok (found_at n k p) ≡ result_ok (found_at m k p)
unfolding found_at
same_found_at k m n p h = rw (same_table k m n p h) refl

pub same_found : (k : Kind) → DependsOn (λ m. kind_ranges m k) (λ m. tables_found m k)
same_found k m n ps h = same_each m n (table_ranges m k) _ _ (same_found_at k m n) ps h

-- ---- the DSDT

-- what the first FADT that is accepted leads to
same_by_fadt : {A : Type 0} (accept : ℕ) (place : Memory → Fadt → Result A AcpiError) (of : Memory → Fadt → Ranges)
    (m n : Memory) → ((f : Fadt) → AgreesOn m n (of m f) → place n f ≡ place m f)
    → (ps : List ℕ) → AgreesOn m n (by_accepted_fadt_ranges accept of m ps)
    → by_accepted_fadt accept place n ps ≡ by_accepted_fadt accept place m ps
same_by_fadt accept place of m n same ps h =
    let k = accepted accept fadt_kind in
    let front = same_lookup k m n ps (each_front _ (lookup_ranges m k ps) _ h) in
    rw front (then_same m n (λ found. of m (fadt_at found.1)) _ _ (λ found. same (fadt_at found.1))
    (lookup m k ps) (each_back _ (lookup_ranges m k ps) _ h))

pub same_dsdt : (accept : ℕ) → DependsOn (accepted_dsdt_ranges accept) (accepted_dsdt accept)
unfolding stream_by
same_dsdt accept m n ps h =
    let k = accepted accept (plain_kind DSDT) in
    same_by_fadt accept (λ o f. dsdt_address_of f >>= λ a. stream_by o k a)
    (λ o f. ranges.◌>>=◌ (dsdt_address_of f) (table_ranges o k)) m n
    (λ f. then_same m n (table_ranges m k) _ _ (λ a here. rw (same_table k m n a here) refl) (dsdt_address_of f)) ps h

-- ---- places

same_place_at : (m n : Memory) (p : ℕ) → AgreesOn m n (own_table_ranges m p)
    → result_ok (place_at n p) ≡ result_ok (place_at m p)
unfolding place_at
same_place_at m n p h = rw (same_own_table m n p h) refl

module _ (m n : Memory) where
  same_dsdt_place : (f : Fadt) → AgreesOn m n (dsdt_place_ranges m f) → dsdt_place n f ≡ dsdt_place m f
  unfolding dsdt_place
  same_dsdt_place f = then_same m n (table_ranges m (plain_kind DSDT)) _ _
      (λ a here. rw (same_table (plain_kind DSDT) m n a here) refl) (dsdt_address_of f)

  same_facs_at : (a : ℕ) → AgreesOn m n (facs_ranges m a) → facs_at n a ≡ facs_at m a
  unfolding facs_at
  same_facs_at a h =
      rw (← h.0) (then_same m n (λ b. ranges.◌>>=◌ (facs_length_in b) (λ l. (a, l) ∷ [])) _ _
      (λ b. then_same m n (λ l. (a, l) ∷ []) _ _ (λ l here. rw here.0 refl) (facs_length_in b)) (lent m a 36) h.1)

  same_facs_place : (f : Fadt) → AgreesOn m n (facs_place_ranges m f) → facs_place n f ≡ facs_place m f
  same_facs_place f = then_same m n (facs_ranges m) _ _ same_facs_at (facs_address_of f)

pub same_facs : (accept : ℕ)
    → DependsOn (by_accepted_fadt_ranges accept facs_place_ranges) (by_accepted_fadt accept facs_place)
same_facs accept m n ps h = same_by_fadt accept facs_place facs_place_ranges m n (same_facs_place m n) ps h

same_dsdt_by_fadt : DependsOn dsdt_and_facs_ranges (by_first_fadt dsdt_place)
same_dsdt_by_fadt m n ps h = same_by_fadt 0 dsdt_place both_place_ranges m n
    (λ f both. same_dsdt_place m n f (each_front _ (dsdt_place_ranges m f) _ both)) ps h

same_facs_by_fadt : DependsOn dsdt_and_facs_ranges (by_first_fadt facs_place)
same_facs_by_fadt m n ps h = same_by_fadt 0 facs_place both_place_ranges m n
    (λ f both. same_facs_place m n f (each_back _ (dsdt_place_ranges m f) _ both)) ps h

pub same_places : (root : AddressRange) → DependsOn place_ranges (places_of root)
same_places root m n ps h =
    let after = each_back _ (header_ranges m ps) _ h in
    let members = same_each m n (own_table_ranges m) _ _ (same_place_at m n) ps
    (each_front _ (header_ranges m ps) _ h) in
    rw (members, same_dsdt_by_fadt m n ps after, same_facs_by_fadt m n ps after) refl

-- ---- summaries

-- what is said of a lookup's answer
pub same_meaning : {A : Type 0} (k : Kind) (m n : Memory) (ps : List ℕ) (meaning : Result (ℕ × List ℕ) AcpiError → A)
    → AgreesOn m n (lookup_ranges m k ps) → meaning (lookup n k ps) ≡ meaning (lookup m k ps)
same_meaning k m n ps meaning h = ap meaning (same_lookup k m n ps h)

pub same_hpet : DependsOn (λ m. lookup_ranges m hpet_kind) hpet_of
same_hpet m n ps h = same_meaning hpet_kind m n ps (λ r. r >>= λ f. info_of (hpet_at f.1)) h

pub same_regions : DependsOn (λ m. lookup_ranges m mcfg_kind) found_regions
same_regions m n ps h = same_meaning mcfg_kind m n ps (λ r. r >>= λ f. Ok (mcfg_entries_of f.1)) h

pub same_mailbox : DependsOn (λ m. lookup_ranges m madt_kind) mailbox_found
same_mailbox m n ps h = same_meaning madt_kind m n ps (λ r. r >>= λ f. mailbox_of f.1) h

pub same_platform : {A : Type 0} → DependsOn platform_ranges (λ m ps. platform_of {A = A} m ps)
same_platform m n ps h =
    let front = same_lookup fadt_kind m n ps (each_front _ (lookup_ranges m fadt_kind ps) _ h) in
    rw front (then_same m n (λ _. lookup_ranges m madt_kind ps) _ _
    (λ f here. rw (same_lookup madt_kind m n ps here) refl) (lookup m fadt_kind ps)
    (each_back _ (lookup_ranges m fadt_kind ps) _ h))

-- ---- from a root table

is_ok_of : {A : Type 0} (r : Result A AcpiError) (x : A) → result_ok r ≡ Some x → r ≡ Ok x
is_ok_of (Ok y) x e = cc
is_ok_of (Err d) x e = cc

-- a definition over the pointers of tables, over a memory that agrees with theirs
pub from_tables : {A : Type 0} {H P h p : _} (t : AcpiTables H P h p) (ranges_of : Memory → List ℕ → Ranges)
    (defined : Memory
    → List ℕ → Result A AcpiError)
    → DependsOn ranges_of defined
    → result_ok (accepted_root_at (accept_of t) (memory_of t) (kind_of t) (root_address_of t)) ≡ Some (root_of t)
    → (n : Memory)
    → AgreesOn (memory_of t) n (accepted_root_ranges (accept_of t) (memory_of t) (kind_of t) (root_address_of t)
    ++ ranges_of (memory_of t) (pointers_of t))
    → accepted_below (accept_of t) n (kind_of t) (root_address_of t) (defined n) ≡ defined (memory_of t) (pointers_of t)
from_tables t ranges_of defined same valid n h =
    let m = memory_of t in
    let own = accepted_root_ranges (accept_of t) m (kind_of t) (root_address_of t) in
    let front : accepted_root_at (accept_of t) n (kind_of t) (root_address_of t) ≡ Ok (root_of t) =
    same_table (accepted_by t (root_kind (kind_of t))) m n (root_address_of t) (each_front _ own _ h)
    ∙ is_ok_of _ _ valid in
    rw front (same m n (pointers_of t) (each_back _ own _ h))

abbrev pub done : {A : Type 0} → A → Result A AcpiError
done x = Ok x

-- a list of answers, which refuses nothing
pub in_ok : {X A : Type 0} (ranges_of : Memory → X → Ranges) (defined : Memory → X → A) → DependsOn ranges_of defined
    → DependsOn ranges_of (λ m x. done (defined m x))
in_ok ranges_of defined same m n x h = ap done (same m n x h)

-- over each memory that agrees with that of some tables the definition says the same below their root table
abbrev pub IsSameBelow : {A : Type 0} {H P h p : _} → AcpiTables H P h p → (Memory → List ℕ → Ranges)
    → (Memory → List ℕ → Result A AcpiError) → Type 0
IsSameBelow t ranges_of defined =
    result_ok (accepted_root_at (accept_of t) (memory_of t) (kind_of t) (root_address_of t)) ≡ Some (root_of t)
    → FootprintBelow t ranges_of defined (λ expected. expected ≡ defined (memory_of t) (pointers_of t))

module _ {H P h p : _} (t : AcpiTables H P h p) where
  pub fadt_from_tables : IsSameBelow t (λ m. lookup_ranges m (accepted_by t fadt_kind))
      (λ m. lookup m (accepted_by t fadt_kind))
  fadt_from_tables = from_tables t _ _ (same_lookup (accepted_by t fadt_kind))

  pub mailbox_from_tables : IsSameBelow t (λ m. lookup_ranges m madt_kind) mailbox_found
  mailbox_from_tables = from_tables t _ _ same_mailbox

  pub hpet_from_tables : IsSameBelow t (λ m. lookup_ranges m hpet_kind) hpet_of
  hpet_from_tables = from_tables t _ _ same_hpet

  pub regions_from_tables : IsSameBelow t (λ m. lookup_ranges m mcfg_kind) found_regions
  regions_from_tables = from_tables t _ _ same_regions

  pub platform_from_tables : {A : Type 0} → IsSameBelow t platform_ranges (platform_of {A = A})
  platform_from_tables {A = A} = from_tables t _ _ (same_platform {A = A})

  pub dsdt_from_tables : IsSameBelow t (accepted_dsdt_ranges (accept_of t)) (accepted_dsdt (accept_of t))
  dsdt_from_tables = from_tables t _ _ (same_dsdt (accept_of t))

  pub facs_from_tables : IsSameBelow t (by_accepted_fadt_ranges (accept_of t) facs_place_ranges)
      (by_accepted_fadt (accept_of t) facs_place)
  facs_from_tables = from_tables t _ _ (same_facs (accept_of t))

-- ---- one RSDP

same_check : (m n : Memory) (a : ℕ) (k : Option ℕ) → AgreesOn m n (length_ranges a k)
    → check_whole (lent n a) k ≡ check_whole (lent m a) k
same_check m n a None h = refl
same_check m n a (Some k) h = rw h.0 refl

pub same_rsdp : (accept : ℕ) → DependsOn (accepted_rsdp_ranges accept) (accepted_rsdp_at accept)
unfolding accepted_rsdp_at
same_rsdp accept m n a h =
    rw (← h.0) (then_same m n (λ b. ranges.◌>>=◌ (accepted_length accept b) (length_ranges a)) _ _
    (λ b. then_same m n (length_ranges a) _ _ (λ k here. ap (λ r. r >>= λ _. Ok b) (same_check m n a k here))
    (accepted_length accept b)) (lent m a 36) h.1)

-- ---- the search

pub same_walk : (accept : ℕ) (m n : Memory) (c a : ℕ) → AgreesOn m n (walk_ranges accept m c a)
    → walk accept n c a ≡ walk accept m c a
same_walk accept m n zero a h = refl
same_walk accept m n (suc c) a h =
    let front = same_rsdp accept m n a (each_front _ (accepted_rsdp_ranges accept m a) _ h) in
    let after = each_back _ (accepted_rsdp_ranges accept m a) _ h in
    rw front (later_same m n (λ b. Some (a, b)) (accepted_rsdp_at accept m a) _ _ _
    (same_walk accept m n c (a + 16)) after)

same_area : (accept : ℕ) (m n : Memory) (s : Area) → AgreesOn m n (area_ranges accept m s)
    → found_in accept n s ≡ found_in accept m s
unfolding found_in
same_area accept m n s h =
    rw (← h.0) (then_same m n (λ _. walk_ranges accept m (count_of s) s.start) _ _
    (λ _ here. rw (same_walk accept m n (count_of s) s.start here) refl) (lent m s.start (room_of s)) h.1)

-- the first area, and the second if the first has none
same_areas : (accept : ℕ) (m n : Memory) (word : ℕ)
    → AgreesOn m n (area_ranges accept m first_area ++ ranges.◌>>=◌ (found_in accept m first_area)
    (λ first. or_else_ranges first (area_ranges accept m (second_area word))))
    → (found_in accept n first_area >>= λ first. or_else first (last_in accept n (second_area word)))
    ≡ (found_in accept m first_area >>= λ first. or_else first (last_in accept m (second_area word)))
same_areas accept m n word h =
    let s = second_area word in
    let front = same_area accept m n first_area (each_front _ (area_ranges accept m first_area) _ h) in
    rw front (then_same m n (λ first. or_else_ranges first (area_ranges accept m s)) _ _
    (else_same m n (area_ranges accept m s) _ _ (λ last. rw (same_area accept m n s last) refl))
    (found_in accept m first_area)
    (each_back _ (area_ranges accept m first_area) _ h))

same_word : (m n : Memory) → at m 0x40e 2 ≡ at n 0x40e 2 → word_in n ≡ word_in m
unfolding word_in
same_word m n h = rw (← h) refl

pub same_search : (accept : ℕ) (m n : Memory) → AgreesOn m n (accepted_search_ranges accept m)
    → accepted_found_rsdp accept n ≡ accepted_found_rsdp accept m
unfolding accepted_found_rsdp
same_search accept m n h = rw (same_word m n h.0) (then_same m n
    (λ word. area_ranges accept m first_area ++ ranges.◌>>=◌
    (found_in accept m first_area) (λ first. or_else_ranges first (area_ranges accept m (second_area word)))) _ _
    (same_areas accept m n)
    (word_in m) h.1)

-- ---- what is opened

pub same_accepted_opened : (accept : ℕ) → DependsOn (accepted_opened_ranges accept) (accepted_opened accept)
same_accepted_opened accept m n place h =
    rw (same_table (accepted accept (root_kind place.kind)) m n place.address h) refl

pub same_opened : DependsOn opened_ranges opened_from
same_opened = same_accepted_opened 0

pub same_opened_at : (m n : Memory) (revision address : ℕ)
    → AgreesOn m n (opened_ranges m (root_of_revision revision address))
    → opened_at n (revision, address) ≡ opened_at m (revision, address)
same_opened_at m n revision address h = same_opened m n (root_of_revision revision address) h

-- ---- how an accepted RSDP is read

extended_if : (m n : Memory) (found : ℕ × List ℕ) (any : Bool)
    → AgreesOn m n (if any then extended_ranges found.0 (rsdp_of found.1) else [])
    → (any && is_err (check_extended n found.0 (rsdp_of found.1)))
    ≡ (any && is_err (check_extended m found.0 (rsdp_of found.1)))
extended_if m n found true h = ap is_err (then_same m n (length_ranges found.0) _ _ (same_check m n found.0)
    (check_length (extended_length_of (rsdp_of found.1))) h)
extended_if m n found false h = refl

pub same_reading : (accept : ℕ) (m n : Memory) (found : ℕ × List ℕ) → AgreesOn m n (reading_ranges accept found)
    → accepted_rsdp accept n found ≡ accepted_rsdp accept m found
same_reading accept m n found h = rw (extended_if m n found (has_bit accept 4) h) refl

same_root : (accept : ℕ) (m n : Memory) (found : ℕ × List ℕ) → AgreesOn m n (root_ranges_of accept m found)
    → accepted_opened accept n (accepted_root accept n found) ≡ accepted_opened accept m (accepted_root accept m found)
same_root accept m n found h =
    rw (same_reading accept m n found (each_front _ (reading_ranges accept found) _ h))
    (same_accepted_opened accept m n (accepted_root accept m found) (each_back _ (reading_ranges accept found) _ h))

pub same_opened_by_rsdp : (accept : ℕ)
    → DependsOn (accepted_opened_by_rsdp_ranges accept) (accepted_opened_by_rsdp accept)
same_opened_by_rsdp accept m n a h =
    let front = same_rsdp accept m n a (each_front _ (accepted_rsdp_ranges accept m a) _ h) in
    rw front (then_same m n (λ b. root_ranges_of accept m (a, b)) _ _ (λ b. same_root accept m n (a, b))
    (accepted_rsdp_at accept m a) (each_back _ (accepted_rsdp_ranges accept m a) _ h))

pub same_opened_by_search : (accept : ℕ) (m n : Memory)
    → AgreesOn m n (accepted_opened_by_search_ranges accept m)
    → accepted_opened_by_search accept n ≡ accepted_opened_by_search accept m
same_opened_by_search accept m n h =
    let front = same_search accept m n (each_front _ (accepted_search_ranges accept m) _ h) in
    rw front (then_same m n (root_ranges_of accept m) _ _ (same_root accept m n)
    (accepted_found_rsdp accept m) (each_back _ (accepted_search_ranges accept m) _ h))

-- ---- memories that agree on the ranges of a search in areas find the same RSDP there

same_later_areas : (accept : ℕ) (m n : Memory) (areas : List AddressRange) (o : Option (ℕ × List ℕ))
    → (AgreesOn m n (areas_ranges accept m areas) → found_among accept n areas ≡ found_among accept m areas)
    → AgreesOn m n (or_else_ranges o (areas_ranges accept m areas))
    → option_or o (found_among accept n areas) ≡ option_or o (found_among accept m areas)
same_later_areas accept m n areas (Some found) later h = refl
same_later_areas accept m n areas None later h = later h

same_among : (accept : ℕ) (m n : Memory) (areas : List AddressRange) → AgreesOn m n (areas_ranges accept m areas)
    → found_among accept n areas ≡ found_among accept m areas
same_among accept m n [] h = refl
same_among accept m n (s ∷ areas) h =
    let front = same_walk accept m n (count_in s) (first_in s)
    (each_front _ (walk_ranges accept m (count_in s) (first_in s)) _ h) in
    let after = each_back _ (walk_ranges accept m (count_in s) (first_in s)) _ h in
    rw front (same_later_areas accept m n areas (walk_in accept m s) (same_among accept m n areas) after)

pub same_in_areas : (accept : ℕ) → DependsOn (areas_ranges accept) (accepted_in_areas accept)
unfolding accepted_in_areas
same_in_areas accept m n areas h = rw (same_among accept m n areas h) refl

pub same_opened_in_areas : (accept : ℕ)
    → DependsOn (accepted_opened_in_areas_ranges accept) (accepted_opened_in_areas accept)
same_opened_in_areas accept m n areas h =
    let front = same_in_areas accept m n areas (each_front _ (areas_ranges accept m areas) _ h) in
    rw front (then_same m n (root_ranges_of accept m) _ _ (same_root accept m n)
    (accepted_in_areas accept m areas) (each_back _ (areas_ranges accept m areas) _ h))

-- ---- what is opened by an RSDP that is found

module _ {X : Type 0} (view : X → Opened) (accept : ℕ) (m : Memory) where
  -- what is opened by the RSDP that is found is what is opened by the definition
  by_found : {F : Type 0} (found : Result F AcpiError) (f : F) (goes : F → Result Opened AcpiError)
      (r : Result X AcpiError) → found ≡ Ok f → Gives view r (goes f) → Gives view r (found >>= goes)
  by_found found f goes r is given = rw is given

  pub by_rsdp : (r : Result X AcpiError) (a : ℕ) (b : List ℕ) → accepted_rsdp_at accept m a ≡ Ok b
      → Gives view r (accepted_opened accept m (accepted_root accept m (a, b)))
      → Gives view r (accepted_opened_by_rsdp accept m a)
  by_rsdp r a b is given = by_found (accepted_rsdp_at accept m a) b _ r is given

  pub by_search : (r : Result X AcpiError) (f : ℕ × List ℕ) → accepted_found_rsdp accept m ≡ Ok f
      → Gives view r (accepted_opened accept m (accepted_root accept m f))
      → Gives view r (accepted_opened_by_search accept m)
  by_search r f is given = by_found (accepted_found_rsdp accept m) f _ r is given

  pub by_areas : (r : Result X AcpiError) (areas : List AddressRange) (f : ℕ × List ℕ)
      → accepted_in_areas accept m areas ≡ Ok f
      → Gives view r (accepted_opened accept m (accepted_root accept m f))
      → Gives view r (accepted_opened_in_areas accept m areas)
  by_areas r areas f is given = by_found (accepted_in_areas accept m areas) f _ r is given
