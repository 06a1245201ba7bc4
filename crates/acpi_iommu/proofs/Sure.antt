-- What is looked up in a table that is whole is found without an error.
use Rattle.std.proofs.Common.{◌≡◌, ◌==◌, ◌&&◌, ◌||◌, not, ℕ, Bool, true, false, List, [], ◌∷◌, Option, Some, None, Ok, Err, refl, subst, ap, sym, ◌∙◌, arith, find, filter_map, option_map, slice_get, is_some, if◌then◌else◌, Result}
use Rattle.acpi_base.specs.FromStd.{list_all, list_any, option_or}
use Rattle.acpi_base.proofs.FromStd.{and_parts, nat_tests}
use Rattle.acpi_base.specs.Words.{is_left}
use Rattle.acpi_iommu.specs.DmarUnits as dmar
use Rattle.acpi_iommu.specs.IvrsUnits as ivrs
use Rattle.acpi_iommu.specs.Words.{Hop, InvalidStructureLength, IommuError, best_kind, block_for, blocks_cut, blocks_of, cut_of, drhd_at, drhd_in, find_block, find_source, find_unit, first_sure, has_whole_entries, has_whole_scopes, includes_pci_all, is_ivhd_of, is_named, is_unit_of, kind_of, names_device, source_in, source_of, structures_of, unit_for, unit_in}

-- a piece that says nothing, and is sure to, is passed over
pub passed : {A : Type 0} (says : List ℕ → Option A) (is_sure : List ℕ → Bool) (p : List ℕ) (all ps : List (List ℕ))
    (before rest : List ℕ) (found : Result (Option A) IommuError) → all ≡ p ∷ ps → rest ≡ before → says p ≡ None
    → is_sure p ≡ true → first_sure says is_sure all before ≡ found → first_sure says is_sure ps rest ≡ found
passed says is_sure p all ps before rest found front same none sure is =
    rw same (subst (λ b. (if b then first_sure says is_sure ps before else Err InvalidStructureLength) ≡ found) sure
    (subst (λ o. elim o [
      | Some a ↦ Ok (Some a)
      | None ↦ if is_sure p then first_sure says is_sure ps before else Err InvalidStructureLength
    ] ≡ found) none (rw front at is)))

or_true : (a b : Bool) → b ≡ true → (a || b) ≡ true
or_true true b e = refl
or_true false b e = e

-- each piece is sure, and bytes are not left
first_found : {A : Type 0} (says : List ℕ → Option A) (is_sure whole : List ℕ → Bool)
    → ((p : List ℕ) → whole p ≡ true → is_sure p ≡ true) → (ps : List (List ℕ)) (rest : List ℕ)
    → not (is_left rest) ≡ true → list_all whole ps ≡ true
    → first_sure says is_sure ps rest ≡ Ok (slice_get (filter_map says ps) 0)
first_found says is_sure whole sure [] [] none all = refl
first_found says is_sure whole sure [] (b ∷ rest) none all = absurd cc
first_found says is_sure whole sure (p ∷ ps) rest none all =
    let parts = and_parts (whole p) (list_all whole ps) all in
    let one = sure p parts.0 in
    let more = first_found says is_sure whole sure ps rest none parts.1 in
    grind (arith, nat_tests)

pub source_found : (kind : ℕ) (table : List ℕ) (id : ℕ) → dmar.is_whole table ≡ true
    → find_source kind table id ≡ source_of kind table id
source_found kind table id whole =
    let parts = and_parts _ _ whole in
    rw whole (first_found (source_in kind id) (λ e. not (kind_of e == 0) || has_whole_scopes e) has_whole_scopes
    (λ e is. or_true (not (kind_of e == 0)) (has_whole_scopes e) is) (structures_of table) (cut_of table).1 parts.0
    parts.1)

pub block_found : (table : List ℕ) (segment id : ℕ) → ivrs.is_whole table ≡ true
    → find_block table segment id ≡ block_for table segment id
block_found table segment id whole =
    let parts = and_parts _ _ whole in
    let kind = best_kind table in
    rw whole (first_found (unit_in kind segment id) (λ b. not (is_ivhd_of kind segment b) || has_whole_entries b)
    has_whole_entries (λ b is. or_true (not (is_ivhd_of kind segment b)) (has_whole_entries b) is) (blocks_of table)
    (blocks_cut table).1 parts.0 parts.1)

-- ---- the unit that names a device, or that of all others

shown_first : {X Y : Type 0} (test : X → Bool) (show : X → Y) (xs : List X)
    → slice_get (filter_map (λ x. if test x then Some (show x) else None) xs) 0 ≡ option_map show (find test xs)
shown_first test show [] = refl
shown_first test show (x ∷ xs) = grind (arith, nat_tests, shown_first test show xs)

any_found : {X : Type 0} (test : X → Bool) (xs : List X) → list_any test xs ≡ is_some (find test xs)
any_found test [] = refl
any_found test (x ∷ xs) = grind (arith, nat_tests, any_found test xs)

-- by whether one is named
either : {X Y : Type 0} (show : X → Y) (unit named all : X → Bool) (b : Bool) (xs : List X)
    → list_any (λ x. unit x && named x) xs ≡ b
    → slice_get (filter_map (λ x. if unit x && (if b then named x else all x) then Some (show x) else None) xs) 0
    ≡ option_map show (option_or (find (λ x. unit x && named x) xs) (find (λ x. unit x && all x) xs))
either {X} show unit named all true xs e =
    let test : X → Bool = λ x. unit x && named x in
    let some : is_some (find test xs) ≡ true = sym (any_found test xs) ∙ e in
    shown_first test show xs ∙ grind (arith, nat_tests)
either {X} show unit named all false xs e =
    let test : X → Bool = λ x. unit x && named x in
    let none : is_some (find test xs) ≡ false = sym (any_found test xs) ∙ e in
    shown_first (λ x. unit x && all x) show xs ∙ grind (arith, nat_tests)

pub unit_found : (table : List ℕ) (segment bus : ℕ) (hops : List Hop) → dmar.is_whole table ≡ true
    → find_unit table segment bus hops ≡ unit_for table segment bus hops
unit_found table segment bus hops whole =
    let parts = and_parts _ _ whole in
    let named = is_named table segment bus hops in
    let first = first_found (drhd_in segment bus hops named) (λ e. not (is_unit_of segment e) || has_whole_scopes e)
    has_whole_scopes (λ e is. or_true (not (is_unit_of segment e)) (has_whole_scopes e) is) (structures_of table)
    (cut_of table).1 parts.0 parts.1 in
    rw whole (first ∙ ap Ok (either drhd_at (is_unit_of segment) (names_device bus hops)
    (λ e. includes_pci_all (drhd_at e)) named (structures_of table) refl))
