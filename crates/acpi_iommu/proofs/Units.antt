-- Which unit remaps a device, and which memory has its own rules for it, in a reader's words.
use Rattle.std.proofs.Common.{◌≡◌, ◌⊎◌, inl, inr, ℕ, ◌+◌, ◌<◌, Bool, true, cond, List, [], ◌∷◌, Option, Some, None, Result, Ok, refl, ap, subst, arith, ◌==◌, ◌&&◌, ◌||◌, ◌^◌, find, filter, map, slice_get, filter_map, option_map}
use Rattle.acpi_base.specs.FromStd.{AllByRecursion, cons_option, list_all, option_or}
use Rattle.std.proofs.lemmas.Bool.{cond_both}
use Rattle.acpi_base.proofs.FromStd.{and_parts, nat_tests, or_cases, eqb-true, ltb-true}
use Rattle.acpi_base.proofs.Words.{holds_ok, same_ok}
use Rattle.acpi_iommu.specs.Words.{drhd_at, includes_pci_all, structures_of, names_device, is_unit_of, source_in, Drhd, IommuError, InvalidMemoryRange, InvalidStructureLength, blocks_of, ivmd_at, best_kind, ends_below, is_memory_for, memory_in, unit_in, BlockIsFirst, FirstSays, IsMeantFor, MemoryIsMeant, SourceIsFirst, UnitIsFirst, of_others}
use Rattle.acpi_iommu.specs.DmarUnits as dmar
use Rattle.acpi_iommu.specs.IvrsUnits as ivrs
use Rattle.acpi_base.specs.Words.{◌>>=◌, holds}

-- ---- the first that says something

later : {X Y : Type 0} (meaning : X → Option Y) (x : X) (xs : List X) (o : Option Y) → meaning x ≡ None
    → FirstSays meaning xs o → FirstSays meaning (x ∷ xs) o
later meaning x xs None none first = (none, first)
later meaning x xs (Some y) none first = record {
  before = x ∷ first.before;
  x = first.x;
  after = first.after;
  listed = ap (λ others. x ∷ others) first.listed;
  none_before = (none, first.none_before);
  says = first.says;
}

first_by : {X Y : Type 0} (meaning : X → Option Y) (x : X) (xs : List X) (o : Option Y) (others : List Y) → meaning x
    ≡ o
    → FirstSays meaning xs (slice_get others 0) → FirstSays meaning (x ∷ xs) (slice_get (cons_option o others) 0)
first_by meaning x xs None others e first = later meaning x xs _ e first
first_by meaning x xs (Some y) others e first = record {
  before = [];
  x = x;
  after = xs;
  listed = refl;
  none_before = tt;
  says = e;
}

first_says : {X Y : Type 0} (meaning : X → Option Y) (xs : List X)
    → FirstSays meaning xs (slice_get (filter_map meaning xs) 0)
first_says meaning [] = tt
first_says meaning (x ∷ xs) = first_by meaning x xs (meaning x) (filter_map meaning xs) refl (first_says meaning xs)

first_found : {X Y : Type 0} (test : X → Bool) (show : X → Y) (xs : List X)
    → FirstSays (λ z. cond (test z) (Some (show z)) None) xs (option_map show (find test xs))
first_found test show [] = tt
first_found {Y = Y} test show (x ∷ xs) =
    let Says : Option Y → Type 0 = λ o. FirstSays (λ z. cond (test z) (Some (show z)) None) (x ∷ xs) o in
    cond_both (test x) (Some x) (find test xs) (λ o. Says (option_map show o))
    (λ is. record {
      before = [];
      x = x;
      after = xs;
      listed = refl;
      none_before = tt;
      says = ap (λ b. cond b (Some (show x)) None) is;
    })
    (λ is. later _ x xs _ (ap (λ b. cond b (Some (show x)) None) is) (first_found test show xs))

-- ---- units

either : {X Y : Type 0} (show : X → Y) (p q : Option X) (o : Option Y) (Others : Option Y → Type 0)
    → Others (option_map show q) → option_map show (option_or p q) ≡ o
    → (option_map show p ≡ o) ⊎ ((option_map show p ≡ None) × Others o)
either show (Some x) q o Others others e = inl e
either show None q o Others others e = inr (refl, subst Others e others)

abbrev done : {A : Type 0} → A → Result A IommuError
done x = Ok x

-- what is answered of a table that is whole
answer_is : {A : Type 0} (b : Bool) (x y : A) → (holds b InvalidStructureLength >>= λ u. done x) ≡ Ok y → x ≡ y
answer_is b x y e = same_ok x y (holds_ok b InvalidStructureLength (λ u. done x) y e).1

pub unit_is_first : UnitIsFirst
unit_is_first table segment bus hops answer e =
    let es = structures_of table in
    let named = λ (x : List ℕ). is_unit_of segment x && names_device bus hops x in
    let rest = λ (x : List ℕ). is_unit_of segment x && includes_pci_all (drhd_at x) in
    let is = answer_is (dmar.is_whole table) (option_map drhd_at (option_or (find named es) (find rest es))) answer e in
    let Others : Option Drhd → Type 0 = λ o. FirstSays (of_others segment) es o in (
      option_map drhd_at (find named es),
      first_found named drhd_at es,
      either drhd_at (find named es) (find rest es) answer Others (first_found rest drhd_at es) is,
    )

first_answer : {X Y : Type 0} (meaning : X → Option Y) (xs : List X) (b : Bool) (y : Option Y)
    → (holds b InvalidStructureLength >>= λ u. done (slice_get (filter_map meaning xs) 0)) ≡ Ok y
    → FirstSays meaning xs y
first_answer meaning xs b y e = subst (λ o. FirstSays meaning xs o) (answer_is b _ y e) (first_says meaning xs)

pub source_is_first : SourceIsFirst
source_is_first kind table id answer e =
    first_answer (source_in kind id) (structures_of table) (dmar.is_whole table) answer e

pub block_is_first : BlockIsFirst
block_is_first table segment id answer e =
    first_answer (unit_in (best_kind table) segment id) (blocks_of table) (ivrs.is_whole table) answer e

-- ---- memory

meant : (id : ℕ) (b : List ℕ) → is_memory_for id b ≡ true → IsMeantFor id (ivmd_at b)
meant id b e =
    let m = ivmd_at b in
    elim (or_cases ((m.kind == 0x20) || ((m.kind == 0x21) && (m.device_id == id))) _ e) [
      | inl some ↦ elim (or_cases (m.kind == 0x20) _ some) [
        | inl all ↦ inl (eqb-true m.kind 0x20 all)
        | inr one ↦ inr (inl (grind (arith, nat_tests), grind (arith, nat_tests)))
      ]
      | inr range ↦ inr (inr (grind (arith, nat_tests), grind (arith, nat_tests), grind (arith, nat_tests)))
    ]

each_meant : (id : ℕ) (bs : List (List ℕ)) → list_all ends_below (map ivmd_at (filter (is_memory_for id) bs)) ≡ true
    → AllByRecursion (λ m. IsMeantFor id m × (m.start + m.length < 2 ^ 64)) (map ivmd_at (filter (is_memory_for id) bs))
each_meant id [] e = tt
each_meant id (b ∷ bs) e =
    let others = filter (is_memory_for id) bs in
    let All = AllByRecursion (λ m. IsMeantFor id m × (m.start + m.length < 2 ^ 64)) in
    cond_both (is_memory_for id b) (b ∷ others) others (λ xs. list_all ends_below (map ivmd_at xs) ≡ true
    → All (map ivmd_at xs))
    (λ is f. let p = and_parts _ _ f in ((meant id b is, ltb-true _ _ p.0), each_meant id bs p.1))
    (λ is f. each_meant id bs f) e

pub memory_is_meant : MemoryIsMeant
memory_is_meant table id answer e =
    let ms = memory_in id (blocks_of table) in
    let inner = λ (u : Unit {0}). holds (list_all ends_below ms) InvalidMemoryRange >>= λ v. done ms in
    let below = holds_ok (list_all ends_below ms) InvalidMemoryRange (λ v. done ms) answer
    (holds_ok (ivrs.is_whole table) InvalidStructureLength inner answer e).1 in
    subst (λ xs. AllByRecursion (λ m. IsMeantFor id m × (m.start + m.length < 2 ^ 64)) xs) (same_ok ms answer below.1)
    (each_meant id (blocks_of table) below.0)
