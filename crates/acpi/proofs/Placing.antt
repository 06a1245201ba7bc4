-- Where things lie: the members that the pointers lead to, the tables, the functions of PCI, which lie apart in one
-- region and have two addresses each, and the regions that a handler lends, which are a memory: they ascend, and an
-- address lies in one of them at most.
use Rattle.std.proofs.Common.{◌≡◌, ℕ, ◌+◌, ◌-◌, ◌*◌, ◌^◌, ◌≤◌, ◌<◌, List, [], ◌∷◌, length, length-append, length-drop, drop, Bool, true, false, sym, ap, refl, arith, ◌∙◌, Option, Some, None, zero, suc, leb, ◌++◌, take, get_or, add-one, filter_map, find, map, IfSome, if◌then◌else◌, nat_lt, ◌&&◌, option_and_then, IfNone, MatchOption}
use Rattle.acpi_base.specs.FromStd.{cons_option, AllByRecursion, result_ok, IsPartitionPoint}
use Rattle.acpi_base.proofs.FromStd.{nat_tests, map-append, drop_more, le-leb, lt-leb, lt-ltb, le-ltb, and_parts, and_left, and_right, leb-true, ltb-true, take-length, take-suc}
use Rattle.acpi_base.specs.Words.{Memory, Region, AreApart, IsMemory, at, end_of, lies_in, rest_from, one_region, ecam_in, ecam_place}
use Rattle.acpi.specs.Types.{AddressRange, McfgEntry}
use Rattle.acpi.proofs.First.{filter_map_few, one_more, pointers_few}
use Rattle.acpi.specs.Words.{members_of, dsdt_place, facs_place, by_first_fadt, place_at, places_of, pointers, IsApart, function_address, is_of, pci_address, place_in, IsBeside, ecam_address, IsAscending, check_after, check_regions, region_memory, regions_of, MappedRegion}
use Rattle.acpi.specs.Pci.{region_of as pci_region_of}
use denote.Ref.{Bor}
use Rattle.acpi.specs.Regions.{region_of}

-- ---- members and tables

-- the members' addresses are the pointers
pub addresses_are : (m : Memory) (ps : List ℕ) → map (λ x. x.address) (members_of m ps) ≡ ps
addresses_are m [] = refl
addresses_are m (p ∷ ps) = ap (λ qs. p ∷ qs) (addresses_are m ps)

pub members_few : (m : Memory) (ps : List ℕ) → length (members_of m ps) ≤ length ps
members_few m [] = omega arith
members_few m (p ∷ ps) = omega (arith, members_few m ps)

pub places_few : (root : AddressRange) (m : Memory) (ps : List ℕ) → length (places_of root m ps) ≤ length ps + 3
places_few root m ps =
    let members = filter_map (λ p. result_ok (place_at m p)) ps in
    let facs = result_ok (by_first_fadt facs_place m ps) in
    let dsdt = result_ok (by_first_fadt dsdt_place m ps) in
    omega (
      arith,
      length-append members (cons_option dsdt (cons_option facs [])),
      filter_map_few (λ p. result_ok (place_at m p)) ps,
      one_more facs [] 0 (omega arith),
      one_more dsdt (cons_option facs []) 1 (one_more facs [] 0 (omega arith)),
    )

pub fits_places : (n w : ℕ) (root : List ℕ) → length root < 2 ^ 32 → n ≤ length (pointers w (drop 36 root)) + 3
    → n < 2 ^ 32
fits_places n w root short few = omega (arith, pointers_few w (drop 36 root), length-drop 36 root, short, few)

-- ---- functions of PCI

-- what was found passes the test
found : {X : Type 0} (p : X → Bool) (xs : List X) (e : X) → find p xs ≡ Some e → p e ≡ true
found p [] e here = cc
found p (x ∷ xs) e here =
    (elim (p x) as (λ b. b ≡ p x → (if b then Some x else find p xs) ≡ Some e
    → p e ≡ true) [ true ↦ λ is same. let it : x ≡ e = cc in cc | false ↦ λ is later. found p xs e later ])
    refl here

-- two near places in a region
one_place : (base s b d f bus dev fn : ℕ) → s ≤ b → s ≤ bus → d < 32 → f < 8 → dev < 32 → fn < 8
    → base + (bus - s) * 1048576 + dev * 32768 + fn * 4096 < base + (b - s) * 1048576 + d * 32768 + f * 4096 + 4096
    → base + (b - s) * 1048576 + d * 32768 + f * 4096 < base + (bus - s) * 1048576 + dev * 32768 + fn * 4096 + 4096
    → (b ≡ bus) × (d ≡ dev) × (f ≡ fn)
one_place base s b d f bus dev fn h1 h2 h3 h4 h5 h6 h7 h8 = (omega arith, omega arith, omega arith)

-- what an address tells of its function, in a region
device_told : (p d f a : ℕ) → (if nat_lt d 32 && nat_lt f 8 then (if nat_lt p (2 ^ 64) then Some p else None) else None)
    ≡ Some a → d < 32
device_told p d f a h = grind (arith, nat_tests)

function_told : (p d f a : ℕ) → (if nat_lt d 32 && nat_lt f 8 then (if nat_lt p (2 ^ 64) then Some p else None)
    else None) ≡ Some a → f < 8
function_told p d f a h = grind (arith, nat_tests)

place_told : (p d f a : ℕ) → (if nat_lt d 32 && nat_lt f 8 then (if nat_lt p (2 ^ 64) then Some p else None) else None)
    ≡ Some a → p ≡ a
place_told p d f a h = grind (arith, nat_tests)

none_told : (b : Bool) (o : Option McfgEntry) (bus d f a : ℕ) → o ≡ None
    → (if b then option_and_then (function_address bus d f) o else None) ≡ Some a → Unit {0} → ⊥
none_told true o bus d f a e h u = let gone : option_and_then (function_address bus d f) None ≡ Some a = rw e at h in cc
none_told false o bus d f a e h u = cc

low : (e : McfgEntry) (segment bus : ℕ) → is_of segment bus e ≡ true → e.bus_number_start ≤ bus
low e segment bus h = grind (arith, nat_tests)

near : (o : Option McfgEntry) (regions : List McfgEntry) (segment bus d f a b d' f' a' : ℕ)
    → find (is_of segment bus) regions ≡ o → find (is_of segment b) regions ≡ o
    → (if nat_lt d 32 && nat_lt f 8 then option_and_then (function_address bus d f) o else None) ≡ Some a
    → (if nat_lt d' 32 && nat_lt f' 8 then option_and_then (function_address b d' f') o else None) ≡ Some a'
    → a < a' + 4096 → a' < a + 4096 → (b ≡ bus) × (d' ≡ d) × (f' ≡ f)
near None regions segment bus d f a b d' f' a' here there one two above below =
    absurd (none_told (nat_lt d 32 && nat_lt f 8) None bus d f a refl one tt)
near (Some e) regions segment bus d f a b d' f' a' here there one two above below =
    let s = e.bus_number_start in
    let p = place_in e bus d f in
    let q = place_in e b d' f' in
    let pa : p ≡ a = place_told p d f a one in
    let qa : q ≡ a' = place_told q d' f' a' two in
    one_place e.base_address s b d' f' bus d f
    (low e segment b (found (is_of segment b) regions e there))
    (low e segment bus (found (is_of segment bus) regions e here))
    (device_told q d' f' a' two) (function_told q d' f' a' two) (device_told p d f a one) (function_told p d f a one)
    (omega arith) (omega arith)

pub apart : (regions : List McfgEntry) (segment bus d f a : ℕ) → pci_address regions segment bus d f ≡ Some a
    → IsApart regions segment bus d f a
unfolding pci_address pci_region_of
apart regions segment bus d f a one = λ b d' f' a' same two above below.
    near (find (is_of segment bus) regions) regions segment bus d f a b d' f' a' refl same one
    (rw same at two) above below

pub if_apart : (o : Option ℕ) (regions : List McfgEntry) (segment bus d f : ℕ) → o ≡ pci_address regions segment bus d f
    → IfSome o (IsApart regions segment bus d f)
if_apart None regions segment bus d f is = tt
if_apart (Some a) regions segment bus d f is = apart regions segment bus d f a (sym is)

-- ---- the two addresses of a function differ by the buses before its region's first

-- what an address tells of its function, in a region
ecam_first : (e : McfgEntry) (bus d f a : ℕ) → ecam_in bus d f e ≡ Some a → e.bus_number_start ≤ bus
ecam_first e bus d f a h = grind (arith, nat_tests)

ecam_device : (e : McfgEntry) (bus d f a : ℕ) → ecam_in bus d f e ≡ Some a → (nat_lt d 32 && nat_lt f 8) ≡ true
ecam_device e bus d f a h = grind (arith, nat_tests)

ecam_at : (e : McfgEntry) (bus d f a : ℕ) → ecam_in bus d f e ≡ Some a → ecam_place e bus d f ≡ a
ecam_at e bus d f a h = grind (arith, nat_tests)

ecam_small : (e : McfgEntry) (bus d f a : ℕ) → ecam_in bus d f e ≡ Some a → ecam_place e bus d f < 2 ^ 64
ecam_small e bus d f a h = grind (arith, nat_tests)

-- the place by the first bus is below it, by the buses before that
below : (base s bus d f : ℕ) → s ≤ bus → base + bus * 1048576 + d * 32768 + f * 4096
    ≡ base + (bus - s) * 1048576 + d * 32768 + f * 4096 + s * 1048576
below base s bus d f h = omega arith

in_region : (e : McfgEntry) (bus d f a : ℕ) → ecam_in bus d f e ≡ Some a
    → (if nat_lt d 32 && nat_lt f 8 then function_address bus d f e else None) ≡ Some (place_in e bus d f)
in_region e bus d f a h =
    let both = ecam_device e bus d f a h in
    let less = below e.base_address e.bus_number_start bus d f (ecam_first e bus d f a h) in
    let small : place_in e bus d f < 2 ^ 64 = omega (arith, ecam_small e bus d f a h, less) in
    let first : (if nat_lt d 32 && nat_lt f 8 then function_address bus d f e else None) ≡ function_address bus d f e =
    rw both refl in
    grind (arith, nat_tests)

beside_in : (regions : List McfgEntry) (segment bus d f a : ℕ) (o : Option McfgEntry)
    → pci_region_of regions segment bus ≡ o
    → option_and_then (ecam_in bus d f) o ≡ Some a → IsBeside regions segment bus d f a
unfolding pci_address
beside_in regions segment bus d f a None e h = absurd cc
beside_in regions segment bus d f a (Some r) e h = (
  r,
  place_in r bus d f,
  e,
  rw e (in_region r bus d f a h),
  sym (ecam_at r bus d f a h) ∙ below r.base_address r.bus_number_start bus d f (ecam_first r bus d f a h),
)

pub if_beside : (o : Option ℕ) (regions : List McfgEntry) (segment bus d f : ℕ)
    → o ≡ ecam_address regions segment bus d f → IfSome o (IsBeside regions segment bus d f)
if_beside None regions segment bus d f is = tt
if_beside (Some a) regions segment bus d f is = beside_in regions segment bus d f a _ refl (sym is)

-- ---- regions in ascending order are a memory

inside : (r : Region) (a : ℕ) → lies_in r a ≡ true → (r.start ≤ a) × (a < end_of r)
inside r a h =
    let p = and_parts _ _ h in
    (leb-true _ _ p.0, ltb-true _ _ p.1)

apart_from : (r : Region) (m : Memory) → AllByRecursion (λ s. end_of r ≤ s.start) m → AllByRecursion (AreApart r) m
apart_from r [] h = tt
apart_from r (s ∷ m) h =
    ((λ a hr hs. let p = inside r a hr in let q = inside s a hs in absurd (omega (arith, h.0))), apart_from r m h.1)

pub is_memory : (regions : List MappedRegion) → IsAscending (regions_of regions) → IsMemory (regions_of regions)
is_memory [] h = tt
is_memory (r ∷ rs) h = (r.region.0, (apart_from (region_of r) (regions_of rs) h.0, is_memory rs h.1))

-- ---- how the regions are checked

-- each region ends at this address or below it
abbrev AllBelow : ℕ → Memory → Type 0
AllBelow end m = AllByRecursion (λ r. end_of r ≤ end) m

-- the first i regions ascend below `end`, and the others decide
pub record IsChecked (all : List MappedRegion) (i start end : ℕ) : Type 0 where
  pub same : check_after start end (regions_of (drop i all)) ≡ check_regions (regions_of all)
  pub ascending : IsAscending (regions_of (take i all))
  pub below : AllBelow end (regions_of (take i all))

all_with : {X : Type 0} (P : X → Type 0) (xs : List X) (y : X) → AllByRecursion P xs → P y
    → AllByRecursion P (xs ++ (y ∷ []))
all_with P [] y h hy = (hy, tt)
all_with P (x ∷ xs) y h hy = (h.0, all_with P xs y h.1 hy)

ascending_with : (m : Memory) (r : Region) (end : ℕ) → IsAscending m → AllBelow end m → end ≤ r.start
    → IsAscending (m ++ (r ∷ []))
ascending_with [] r end h below le = (tt, tt)
ascending_with (s ∷ m) r end h below le =
    (all_with (λ x. end_of s ≤ x.start) m r h.0 (omega (arith, below.0)), ascending_with m r end h.1 below.1 le)

below_with : (m : Memory) (r : Region) (end : ℕ) → AllBelow end m → end ≤ r.start → AllBelow (end_of r) (m ++ (r ∷ []))
below_with [] r end h le = (omega arith, tt)
below_with (s ∷ m) r end h le = (omega (arith, h.0), below_with m r end h.1 le)

checked_at : (all : List MappedRegion) (i start end : ℕ) (r : MappedRegion) (rest : List MappedRegion)
    → IsChecked all i start end → drop i all ≡ r ∷ rest
    → start ≤ r.start → end ≤ r.start → check_after r.start (end_of (region_of r)) (regions_of rest)
    ≡ check_regions (regions_of all)
checked_at all i start end r rest h e up apart =
    let was = h.same in
    rw (e, le-leb _ _ up, le-leb _ _ apart) at was

-- one more region
pub checked_more : (all : List MappedRegion) (i start end : ℕ) (d r : MappedRegion) → r ≡ get_or all i d
    → IsChecked all i start end → i < length all
    → start ≤ r.start → end ≤ r.start → IsChecked all (i + 1) r.start (end_of (region_of r))
checked_more all i start end d r is h less up apart =
    let front : take (i + 1) all ≡ take i all ++ (r ∷ []) = rw (add-one, is) (take-suc all i d less) in
    let parts : regions_of (take (i + 1) all) ≡ regions_of (take i all) ++ (region_of r ∷ []) =
    rw front (map-append region_of (take i all) (r ∷ [])) in
    let later : drop i all ≡ r ∷ drop (i + 1) all = rw is (drop_more all i d less) in
    record {
      same = checked_at all i start end r (drop (i + 1) all) h later up apart;
      ascending = rw parts (ascending_with (regions_of (take i all)) (region_of r) end h.ascending h.below apart);
      below = rw parts (below_with (regions_of (take i all)) (region_of r) end h.below apart);
    }

-- ---- where an address lies

-- no region starts at the address or below it
nothing_at : (rs : List MappedRegion) (a : ℕ)
    → ((j : ℕ) (d : MappedRegion) → j < length rs → leb (get_or rs j d).start a ≡ false)
    → rest_from (regions_of rs) a ≡ []
unfolding rest_from
nothing_at [] a h = refl
nothing_at (r ∷ rs) a h =
    let out : lies_in (region_of r) a ≡ false = and_left _ _ (h 0 r (omega arith)) in
    rw out (nothing_at rs a (λ j d inside. h (suc j) d (omega arith)))

-- a region ends where a later one starts, or below
first_ends : (r : MappedRegion) (rs : List MappedRegion) (j : ℕ) (d : MappedRegion)
    → AllByRecursion (λ s. end_of (region_of r) ≤ s.start) (regions_of rs) → j < length rs
    → end_of (region_of r) ≤ (get_or rs j d).start
first_ends r [] j d h less = absurd (omega arith)
first_ends r (s ∷ rs) zero d h less = h.0
first_ends r (s ∷ rs) (suc j) d h less = first_ends r rs j d h.1 (omega arith)

-- the test by which the regions are halved: if a region passes, so do those before it
pub passes_before : (rs : List MappedRegion) (a i j : ℕ) (d : MappedRegion) → IsAscending (regions_of rs) → i ≤ j
    → j < length rs → leb (get_or rs j d).start a ≡ true → leb (get_or rs i d).start a ≡ true
passes_before [] a i j d h le inside up = absurd (omega arith)
passes_before (r ∷ rs) a zero zero d h le inside up = up
passes_before (r ∷ rs) a zero (suc j) d h le inside up =
    le-leb _ _ (omega (arith, first_ends r rs j d h.0 (omega arith), leb-true _ _ up))
passes_before (r ∷ rs) a (suc i) zero d h le inside up = absurd (omega arith)
passes_before (r ∷ rs) a (suc i) (suc j) d h le inside up = passes_before rs a i j d h.1 (omega arith) (omega arith) up

abbrev Starts : ℕ → Bool → MappedRegion → Type 0
Starts a b r = leb r.start a ≡ b

-- the last region that passes decides, or else the first
pub one_decides : (rs : List MappedRegion) (a after : ℕ) (d : MappedRegion) → IsAscending (regions_of rs)
    → 0 < length rs → after ≤ length rs
    → IsPartitionPoint (Starts a true) (Starts a false) rs after
    → rest_from (regions_of rs) a ≡ rest_from (region_of (get_or rs (after - 1) d) ∷ []) a
unfolding rest_from
one_decides [] a after d h some bound point = absurd (omega arith)
one_decides (r ∷ rs) a zero d h some bound point =
    let out : lies_in (region_of r) a ≡ false = and_left _ _ (point.1 0 r (omega arith) (omega arith)) in
    rw out (nothing_at rs a (λ j e inside. point.1 (suc j) e (omega arith) (omega arith)))
one_decides (r ∷ rs) a (suc zero) d h some bound point =
    let first : suc zero - 1 ≡ 0 = omega arith in
    rw (first, nothing_at rs a (λ j e inside. point.1 (suc j) e (omega arith) (omega arith))) refl
one_decides (r ∷ rs) a (suc (suc k)) d h some bound point =
    let this : suc (suc k) - 1 ≡ suc k = omega arith in
    let next : suc k - 1 ≡ k = omega arith in
    let ends = first_ends r rs k d h.0 (omega arith) in
    let passes : (get_or rs k d).start ≤ a = leb-true _ _ (point.0 (suc k) d (omega arith) (omega arith)) in
    let past : end_of (region_of r) ≤ a = omega (arith, ends, passes) in
    let out : lies_in (region_of r) a ≡ false = and_right _ _ (le-ltb _ _ past) in
    let later = one_decides rs a (suc k) d h.1 (omega arith) (omega arith) (
      (λ j e low high. point.0 (suc j) e (omega arith) (omega arith)),
      (λ j e low high. point.1 (suc j) e (omega arith) (omega arith)),
    ) in
    rw (out, this) (rw next at later)

-- the one that is returned
abbrev There : List MappedRegion → ℕ → Option (Bor MappedRegion) → Type 0
There rs i o = MatchOption o (length rs ≤ i) (λ x. (i < length rs) × ((d : MappedRegion) → x.now ≡ get_or rs i d))

pub decides : (rs : List MappedRegion) (a after : ℕ) (o : Option (Bor MappedRegion)) → IsAscending (regions_of rs)
    → after ≤ length rs
    → IsPartitionPoint (Starts a true) (Starts a false) rs after → There rs (after - 1) o
    → IfSome o (λ r. rest_from (regions_of rs) a ≡ rest_from (region_memory r.now) a)
decides rs a after None h bound point there = tt
decides rs a after (Some x) h bound point there =
    rw (← (there.1 x.now)) at (one_decides rs a after x.now h (omega (arith, there.0)) bound point)

pub no_regions : (rs : List MappedRegion) (after : ℕ) (o : Option (Bor MappedRegion)) → after ≤ length rs
    → There rs (after - 1) o → IfNone o (regions_of rs ≡ [])
no_regions [] after None bound there = refl
no_regions [] after (Some x) bound there = tt
no_regions (r ∷ rs) after None bound there = absurd (omega (arith, there))
no_regions (r ∷ rs) after (Some x) bound there = tt

-- what is lent follows from the rest
pub at_same : (m n : Memory) (a size : ℕ) → rest_from m a ≡ rest_from n a → at m a size ≡ at n a size
unfolding at
at_same m n a size same = rw same refl

-- of no region nothing is lent
pub at_none : (m : Memory) (a size : ℕ) → m ≡ [] → 0 < size → at m a size ≡ None
unfolding at rest_from
at_none m a size none some = rw (none, lt-leb _ _ some) refl

-- what is lent from an address on is all the rest of the region
pub rest_of_region : (start a : ℕ) (b : List ℕ) → start ≤ a → a - start < length b
    → take (length b - (a - start)) (drop (a - start) b) ≡ rest_from (one_region start b) a
unfolding rest_from
rest_of_region start a b low high =
    let below : a < start + length b = omega arith in
    let all : take (length b - (a - start)) (drop (a - start) b) ≡ drop (a - start) b =
    rw (← length-drop (a - start) b) (take-length (drop (a - start) b)) in
    rw (all, le-leb _ _ low, lt-ltb _ _ below) refl
