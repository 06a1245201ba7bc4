-- The members, and the ranges in which the tables are.
use Rattle.std.proofs.Common.{◌≡◌, ◌⊎◌, inl, inr, ℕ, ◌≤◌, List, [], ◌∷◌, ◌++◌, length, Option, Some, None, Result, Ok, Err, refl, sym, ap, ◌∙◌, arith, lit≤, IsErr, filter_map, flat_map, nat_le, slice_get}
use Rattle.acpi_base.specs.FromStd.{AllByRecursion, cons_option, result_ok}
use Rattle.acpi_base.proofs.FromStd.{leb-true}
use Rattle.acpi_base.proofs.Words.{is_whole, passed, bind_ok, same_ok}
use Rattle.acpi.specs.Types.{AcpiError, SdtInvalidLength, Signature, DSDT, SSDT, AddressRange}
use Rattle.acpi_base.specs.Words.{check_names, check_table, header_at, Memory, Ranges, own_table_ranges, table_ranges, unless_found, whole_ranges, ◌>>=◌, holds, lent, Kind, own_accepted, own_table_at, plain_kind, table_at}
use Rattle.acpi_base.specs.Ranges as ranges
use Rattle.acpi_fixed.specs.Words.{dsdt_address_of, fadt_at}
use Rattle.acpi.specs.Words.{lookup_ranges, root_ranges, fadt_kind, own_header_at, or_later, lookup, found_at, tables_found, dsdt_place, by_first_fadt, place_at, places_of, range, madt_kind, root_kind, signature_of}
use Rattle.acpi_laws.specs.PlaceLaws.{AreReserved, BeginsNoDsdt, BeginsRefused, FirstIsFound, FoundBySignature, HeadersOfMembers, LiesIn, LiesInOne, RootLiesInRange, TablesLieInRanges}

-- ---- members

pub headers_of_members : HeadersOfMembers
headers_of_members m [] = refl
headers_of_members m (p ∷ ps) = ap (cons_option (result_ok (own_header_at m p))) (headers_of_members m ps)

first_later : (p : ℕ) (r : Result (List ℕ) AcpiError) (others : List (ℕ × List ℕ))
    (later : Result (ℕ × List ℕ) AcpiError)
    → slice_get others 0 ≡ result_ok later
    → slice_get (cons_option (result_ok (r >>= λ t. Ok (p, t))) others) 0
    ≡ result_ok (or_later (λ t. Ok (p, t)) r later)
first_later p (Ok t) others later e = refl
first_later p (Err d) others later e = e

pub first_is_found : FirstIsFound
unfolding found_at
first_is_found m k [] = refl
first_is_found m k (p ∷ ps) = first_later p (table_at m k p) (tables_found m k ps) (lookup m k ps)
    (first_is_found m k ps)

same_kind : (k : Kind) → k.least ≡ 36 → k.names ≡ check_names k.signature → k.check ≡ check_table k.signature
    → k.own ≡ None
    → plain_kind k.signature ≡ k
same_kind k least names check own = rw (← least, ← names, ← check, ← own) refl

pub found_by_signature : FoundBySignature
found_by_signature m k ps least names check own = ap (λ x. lookup m x ps) (same_kind k least names check own)

-- ---- how long a valid table is

plain_long : (m : Memory) (s : Signature) (p : ℕ) (head table : List ℕ) → lent m p 36 ≡ Ok head
    → table_at m (plain_kind s) p ≡ Ok table
    → (length table ≡ (header_at head).length) × (36 ≤ length table)
plain_long m s p head table front e =
    let h = passed m (plain_kind s) p table e in
    let is = is_whole m (plain_kind s) p table (lit≤ tt) h in
    let same : h.head ≡ head = same_ok h.head head (sym h.front ∙ front) in
    let long : length table ≡ (header_at h.head).length = sym is.1 ∙ ap (λ x. x.length) is.0 in
    (long ∙ ap (λ b. (header_at b).length) same, omega (arith, long, leb-true 36 (header_at h.head).length h.long))

own_long : (m : Memory) (p : ℕ) (head table : List ℕ) → lent m p 36 ≡ Ok head → own_table_at m p ≡ Ok table
    → (length table ≡ (header_at head).length) × (36 ≤ length table)
unfolding own_accepted
own_long m p head table front e =
    let first = bind_ok (lent m p 36) _ table e in
    plain_long m (header_at first.0).signature p head table front first.2

-- at least its header is there
plain_enough : (m : Memory) (s : Signature) (p : ℕ) (table : List ℕ) → table_at m (plain_kind s) p ≡ Ok table
    → 36 ≤ length table
plain_enough m s p table e = let h = passed m (plain_kind s) p table e in (plain_long m s p h.head table h.front e).1

own_enough : (m : Memory) (p : ℕ) (table : List ℕ) → own_table_at m p ≡ Ok table → 36 ≤ length table
unfolding own_accepted
own_enough m p table e = let first = bind_ok (lent m p 36) _ table e in
    plain_enough m (header_at first.0).signature p table first.2

abbrev done_at : ℕ → Result ℕ AcpiError
done_at a = Ok a

-- ---- the ranges of one table

-- each begins at the table, and is no longer
abbrev Fits : ℕ → ℕ → ℕ × ℕ → Type 0
Fits p n asked = (asked.0 ≡ p) × (asked.1 ≤ n)

head_fits : (p n l : ℕ) (names long : Result (Unit {0}) AcpiError) → n ≡ l
    → AllByRecursion (Fits p n) (ranges.◌>>=◌ names (λ _. ranges.◌>>=◌ long (λ _. (p, l) ∷ [])))
head_fits p n l (Ok x) (Ok y) is = ((refl, omega (arith, is)), tt)
head_fits p n l (Ok x) (Err e) is = tt
head_fits p n l (Err e) long is = tt

fits_from : (p n : ℕ) (k : List ℕ → Kind) (r : Result (List ℕ) AcpiError)
    → ((head : List ℕ) → r ≡ Ok head → n ≡ (header_at head).length)
    → AllByRecursion (Fits p n) (ranges.◌>>=◌ r (λ head. whole_ranges (k head) p head))
fits_from p n k (Ok head) is =
    let long = holds (nat_le (k head).least (header_at head).length) (SdtInvalidLength (k head).signature) in
    head_fits p n (header_at head).length ((k head).names (header_at head)) long (is head refl)
fits_from p n k (Err e) is = tt

-- the ranges of any kind at an address at which a table is as long as its header has it
kind_fits : (m : Memory) (k : Kind) (p n : ℕ)
    → ((head : List ℕ) → lent m p 36 ≡ Ok head → n ≡ (header_at head).length) → 36 ≤ n
    → AllByRecursion (Fits p n) (table_ranges m k p)
kind_fits m k p n long enough = ((refl, enough), fits_from p n (λ _. k) (lent m p 36) long)

own_fits : (m : Memory) (p n : ℕ) → ((head : List ℕ) → lent m p 36 ≡ Ok head → n ≡ (header_at head).length) → 36 ≤ n
    → AllByRecursion (Fits p n) (own_table_ranges m p)
own_fits m p n long enough =
    ((refl, enough), fits_from p n (λ head. plain_kind (header_at head).signature) (lent m p 36) long)

-- each begins at the table
abbrev Begins : ℕ → ℕ × ℕ → Type 0
Begins p asked = asked.0 ≡ p

length_begins : (p l : ℕ) (names long : Result (Unit {0}) AcpiError)
    → AllByRecursion (Begins p) (ranges.◌>>=◌ names (λ _. ranges.◌>>=◌ long (λ _. (p, l) ∷ [])))
length_begins p l (Ok x) (Ok y) = (refl, tt)
length_begins p l (Ok x) (Err e) = tt
length_begins p l (Err e) long = tt

whole_begins : (p : ℕ) (k : List ℕ → Kind) (r : Result (List ℕ) AcpiError)
    → AllByRecursion (Begins p) (ranges.◌>>=◌ r (λ head. whole_ranges (k head) p head))
whole_begins p k (Ok head) =
    let long = holds (nat_le (k head).least (header_at head).length) (SdtInvalidLength (k head).signature) in
    length_begins p (header_at head).length ((k head).names (header_at head)) long
whole_begins p k (Err e) = tt

-- ---- lists

module _ {X : Type 0} (P Q : X → Type 0) where
  all_map : ((x : X) → P x → Q x) → (xs : List X) → AllByRecursion P xs → AllByRecursion Q xs
  all_map f [] h = tt
  all_map f (x ∷ xs) h = (f x h.0, all_map f xs h.1)

all_append : {X : Type 0} (P : X → Type 0) (xs ys : List X) → AllByRecursion P xs → AllByRecursion P ys
    → AllByRecursion P (xs ++ ys)
all_append P [] ys h g = g
all_append P (x ∷ xs) ys h g = (h.0, all_append P xs ys h.1 g)

abbrev IsListed : List ℕ → ℕ → Type 0
IsListed [] p = ⊥
IsListed (q ∷ qs) p = (p ≡ q) ⊎ IsListed qs p

lies_front : (asked : ℕ × ℕ) (rs ss : List AddressRange) → LiesInOne asked rs → LiesInOne asked (rs ++ ss)
lies_front asked [] ss h = absurd h
lies_front asked (r ∷ rs) ss (inl h) = inl h
lies_front asked (r ∷ rs) ss (inr h) = inr (lies_front asked rs ss h)

lies_back : (asked : ℕ × ℕ) (rs ss : List AddressRange) → LiesInOne asked ss → LiesInOne asked (rs ++ ss)
lies_back asked [] ss h = h
lies_back asked (r ∷ rs) ss h = inr (lies_back asked rs ss h)

lies_later : (asked : ℕ × ℕ) (o : Option AddressRange) (rs : List AddressRange) → LiesInOne asked rs
    → LiesInOne asked (cons_option o rs)
lies_later asked None rs h = h
lies_later asked (Some r) rs h = inr h

lies_here : (asked : ℕ × ℕ) (o : Option AddressRange) (p n : ℕ) (rs : List AddressRange) → o ≡ Some (range p n)
    → Fits p n asked → LiesInOne asked (cons_option o rs)
lies_here asked (Some r) p n rs is h = let same : r ≡ range p n = cc in
    rw same (inl (omega (arith, h.0), omega (arith, h.0, h.1)))
lies_here asked None p n rs is h = absurd cc

-- ---- one member

place_is : (m : Memory) (p : ℕ) (table : List ℕ) → own_table_at m p ≡ Ok table
    → result_ok (place_at m p) ≡ Some (range p (length table))
unfolding place_at
place_is m p table valid = rw valid refl

listed_lies : (m : Memory) (p : ℕ) (table : List ℕ) (asked : ℕ × ℕ) → own_table_at m p ≡ Ok table
    → Fits p (length table) asked → (ps : List ℕ) → IsListed ps p
    → LiesInOne asked (filter_map (λ q. result_ok (place_at m q)) ps)
listed_lies m p table asked valid fits [] there = absurd there
listed_lies m p table asked valid fits (q ∷ ps) (inl same) =
    lies_here asked (result_ok (place_at m q)) q (length table) _ (place_is m q table (rw same at valid))
    (rw same at fits)
listed_lies m p table asked valid fits (q ∷ ps) (inr later) =
    lies_later asked (result_ok (place_at m q)) _ (listed_lies m p table asked valid fits ps later)

listed_refused : (m : Memory) (p : ℕ) → IsErr (own_table_at m p) → (ps : List ℕ) → IsListed ps p → BeginsRefused m ps p
listed_refused m p refused [] there = absurd there
listed_refused m p refused (q ∷ ps) (inl same) = inl (same, rw same at refused)
listed_refused m p refused (q ∷ ps) (inr later) = inr (listed_refused m p refused ps later)

module _ (root : AddressRange) (m : Memory) (all : List ℕ) where
  abbrev IsReserved : ℕ × ℕ → Type 0
  IsReserved asked = LiesInOne asked (places_of root m all) ⊎ (BeginsRefused m all asked.0 ⊎ BeginsNoDsdt m all asked.0)

  at_member : (p : ℕ) (xs : Ranges) (r : Result (List ℕ) AcpiError) → own_table_at m p ≡ r → IsListed all p
      → ((table : List ℕ) → r ≡ Ok table → AllByRecursion (Fits p (length table)) xs) → AllByRecursion (Begins p) xs
      → AreReserved root m all xs
  at_member p xs (Ok table) is there fits begins =
      all_map (Fits p (length table)) IsReserved
      (λ asked h. inl (inr (lies_front asked (filter_map (λ q. result_ok (place_at m q)) all) _
      (listed_lies m p table asked is h all there))))
      xs (fits table refl)
  at_member p xs (Err e) is there fits begins =
      all_map (Begins p) IsReserved
      (λ asked h. inr (inl (rw h (listed_refused m p (rw is refl) all there))))
      xs begins

  kind_member : (k : Kind) (p : ℕ) → IsListed all p → AreReserved root m all (table_ranges m k p)
  kind_member k p there =
      at_member p (table_ranges m k p) (own_table_at m p) refl there
      (λ table is. kind_fits m k p (length table) (λ head front. (own_long m p head table front is).0)
      (own_enough m p table is))
      (refl, whole_begins p (λ _. k) (lent m p 36))

  own_member : (p : ℕ) → IsListed all p → AreReserved root m all (own_table_ranges m p)
  own_member p there =
      at_member p (own_table_ranges m p) (own_table_at m p) refl there
      (λ table is. own_fits m p (length table) (λ head front. (own_long m p head table front is).0)
      (own_enough m p table is))
      (refl, whole_begins p (λ head. plain_kind (header_at head).signature) (lent m p 36))

  -- ---- lists of members

  each_member : (of : ℕ → Ranges) → ((p : ℕ) → IsListed all p → AreReserved root m all (of p))
      → (ps : List ℕ) → ((p : ℕ) → IsListed ps p → IsListed all p) → AreReserved root m all (flat_map of ps)
  each_member of each [] inside = tt
  each_member of each (p ∷ ps) inside =
      all_append IsReserved (of p) (flat_map of ps) (each p (inside p (inl refl)))
      (each_member of each ps (λ q there. inside q (inr there)))

  unless_reserved : (r : Result (List ℕ) AcpiError) (xs : Ranges) → AreReserved root m all xs
      → AreReserved root m all (unless_found r xs)
  unless_reserved (Ok table) xs h = tt
  unless_reserved (Err e) xs h = h

  looked_up : (k : Kind) (ps : List ℕ) → ((p : ℕ) → IsListed ps p → IsListed all p)
      → AreReserved root m all (lookup_ranges m k ps)
  looked_up k [] inside = tt
  looked_up k (p ∷ ps) inside =
      all_append IsReserved (table_ranges m k p) _ (kind_member k p (inside p (inl refl)))
      (unless_reserved (table_at m k p) _ (looked_up k ps (λ q there. inside q (inr there))))

  lookups_reserved : (k : Kind) → AreReserved root m all (lookup_ranges m k all)
  lookups_reserved k = looked_up k all (λ p there. there)

  -- ---- the DSDT

  dsdt_by_fadt : (found : ℕ × List ℕ) (a : ℕ) (table : List ℕ) → lookup m fadt_kind all ≡ Ok found
      → dsdt_address_of (fadt_at found.1) ≡ Ok a
      → table_at m (plain_kind DSDT) a ≡ Ok table → result_ok (by_first_fadt dsdt_place m all)
      ≡ Some (range a (length table))
  unfolding dsdt_place
  dsdt_by_fadt found a table there address valid = rw (there, address, valid) refl

  dsdt_at : (found : ℕ × List ℕ) (a : ℕ) (r : Result (List ℕ) AcpiError) → lookup m fadt_kind all ≡ Ok found
      → dsdt_address_of (fadt_at found.1) ≡ Ok a
      → table_at m (plain_kind DSDT) a ≡ r → AreReserved root m all (table_ranges m (plain_kind DSDT) a)
  dsdt_at found a (Ok table) there address is =
      all_map (Fits a (length table)) IsReserved
      (λ asked h. inl (inr (lies_back asked (filter_map (λ q. result_ok (place_at m q)) all) _
      (lies_here asked (result_ok (by_first_fadt dsdt_place m all)) a (length table) _
      (dsdt_by_fadt found a table there address is) h))))
      (table_ranges m (plain_kind DSDT) a)
      (kind_fits m (plain_kind DSDT) a (length table) (λ head front. (plain_long m DSDT a head table front is).0)
      (plain_enough m DSDT a table is))
  dsdt_at found a (Err e) there address is =
      all_map (Begins a) IsReserved
      (λ asked h. inr (inr (found, there, address ∙ ap done_at (sym h), rw (h, is) refl)))
      (table_ranges m (plain_kind DSDT) a) (refl, whole_begins a (λ _. plain_kind DSDT) (lent m a 36))

  dsdt_from : (found : ℕ × List ℕ) (r : Result ℕ AcpiError) → lookup m fadt_kind all ≡ Ok found
      → dsdt_address_of (fadt_at found.1) ≡ r
      → AreReserved root m all (ranges.◌>>=◌ r (λ a. table_ranges m (plain_kind DSDT) a))
  dsdt_from found (Ok a) there address = dsdt_at found a (table_at m (plain_kind DSDT) a) there address refl
  dsdt_from found (Err e) there address = tt

  behind_fadt : (r : Result (ℕ × List ℕ) AcpiError) → lookup m fadt_kind all ≡ r
      → AreReserved root m all (ranges.◌>>=◌ r
      (λ f. ranges.◌>>=◌ (dsdt_address_of (fadt_at f.1)) (λ a. table_ranges m (plain_kind DSDT) a)))
  behind_fadt (Ok found) there = dsdt_from found (dsdt_address_of (fadt_at found.1)) there refl
  behind_fadt (Err e) there = tt

  madt_beside : (r : Result (ℕ × List ℕ) AcpiError)
      → AreReserved root m all (ranges.◌>>=◌ r (λ _. lookup_ranges m madt_kind all))
  madt_beside (Ok found) = lookups_reserved madt_kind
  madt_beside (Err e) = tt

pub tables_lie_in_ranges : TablesLieInRanges
tables_lie_in_ranges root m ps = record {
  lookups = lookups_reserved root m ps;
  kinds = λ k. each_member root m ps (table_ranges m k) (kind_member root m ps k) ps (λ p there. there);
  headers = each_member root m ps (own_table_ranges m) (own_member root m ps) ps (λ p there. there);
  ssdts = each_member root m ps (table_ranges m (plain_kind SSDT)) (kind_member root m ps (plain_kind SSDT)) ps
      (λ p there. there);
  dsdt = all_append (IsReserved root m ps) (lookup_ranges m fadt_kind ps) _ (lookups_reserved root m ps fadt_kind)
      (behind_fadt root m ps (lookup m fadt_kind ps) refl);
  platform = all_append (IsReserved root m ps) (lookup_ranges m fadt_kind ps) _ (lookups_reserved root m ps fadt_kind)
      (madt_beside root m ps (lookup m fadt_kind ps));
}

-- ---- the root table

pub root_lies_in_range : RootLiesInRange
root_lies_in_range m rk address table valid =
    all_map (Fits address (length table)) (λ asked. LiesIn asked (range address (length table)))
    (λ asked h. (omega (arith, h.0), omega (arith, h.0, h.1)))
    (root_ranges m rk address)
    (kind_fits m (root_kind rk) address (length table) (λ head front.
    (plain_long m (signature_of rk) address head table front valid).0)
    (plain_enough m (signature_of rk) address table valid))
