-- Bytes that are entries, one after the other, which are picked apart again, and lists of sorts.
use Rattle.std.proofs.Common.{◌≡◌, ℕ, ◌≤◌, Bool, true, false, List, [], ◌∷◌, ◌++◌, length, map, Option, Some, None, refl, sym, ap, ◌∙◌, arith, lit≤, length-append, flat_map, filter_map, if◌then◌else◌}
pub use Rattle.acpi_base.proofs.FromStd.{append-nil, filter_map-append}
use Rattle.acpi_base.proofs.FromStd.{concat-append, length-map, map-append, map-id}
use Rattle.acpi_base.proofs.Words.{cut_is_cut, one_cut}
use Rattle.acpi_table_writer.specs.Words.{AllByRecursion, concat, cons_option, end_of, IsEntry, IsFew, cut, least_length, number_at, width_of, EntryLayout, Grammar, Width, One, Two, Four}

-- ---- entries

-- an entry's bytes, and what they mean
abbrev pub Row : Type 0 → Type 0
Row R = List ℕ × R

abbrev pub row_bytes : {R : Type 0} → List (Row R) → List (List ℕ)
row_bytes rows = map (λ r. r.0) rows

-- the bytes are entries, one after the other, and each tells an item
pub record Speaks {n : ℕ} {R : Type 0} (l : EntryLayout n) (Tells : List ℕ → R → Type 0) (bytes : List ℕ)
    (items : List R) : Type 0 where
  pub rows : List (Row R)
  pub whole : concat (row_bytes rows) ≡ bytes
  pub items_are : map (λ r. r.1) rows ≡ items
  pub each : AllByRecursion (λ r. IsEntry l r.0 × Tells r.0 r.1) rows

all_both : {X : Type 0} (P : X → Type 0) (xs ys : List X) → AllByRecursion P xs → AllByRecursion P ys
    → AllByRecursion P (xs ++ ys)
all_both P [] ys a b = b
all_both P (x ∷ xs) ys a b = (a.0, all_both P xs ys a.1 b)

always : {X : Type 0} (xs : List X) → AllByRecursion (λ x. Unit {0}) xs
always [] = tt
always (x ∷ xs) = (tt, always xs)

module _ {n : ℕ} {R : Type 0} {l : EntryLayout n} {T : List ℕ → R → Type 0} where
  pub speaks_nothing : Speaks l T [] []
  speaks_nothing = record { rows = []; whole = refl; items_are = refl; each = tt }

  pub speaks_one : (e : List ℕ) (x : R) → IsEntry l e → T e x → Speaks l T e (x ∷ [])
  speaks_one e x is tells =
      record { rows = (e, x) ∷ []; whole = append-nil e; items_are = refl; each = ((is, tells), tt) }

  -- of bytes that are all known
  pub speaks_row : {e : List ℕ} {x : R} → end_of l.kind_place ≤ length e → end_of l.length_place ≤ length e
      → number_at l.length_place e ≡ length e → least_length l (number_at l.kind_place e) ≤ length e → T e x
      → Speaks l T e (x ∷ [])
  speaks_row {e = e} {x = x} kind header size least tells =
      speaks_one e x (record { entry_type = kind; header = header; size = size; least = least }) tells

  pub speaks_both : {a b : List ℕ} {xs ys : List R} → Speaks l T a xs → Speaks l T b ys → Speaks l T (a ++ b) (xs ++ ys)
  speaks_both p q = record {
    rows = p.rows ++ q.rows;
    whole = cc (map-append (λ r. r.0) p.rows q.rows, concat-append (row_bytes p.rows) (row_bytes q.rows));
    items_are = cc (map-append (λ r. r.1) p.rows q.rows);
    each = all_both (λ r. IsEntry l r.0 × T r.0 r.1) p.rows q.rows p.each q.each;
  }

  pub speaks_all : {X : Type 0} (P : X → Type 0) (f : X → List ℕ) (g : X → R)
      → ((x : X) → P x → Speaks l T (f x) (g x ∷ [])) → (xs : List X) → AllByRecursion P xs
      → Speaks l T (flat_map f xs) (map g xs)
  speaks_all P f g each [] all = speaks_nothing
  speaks_all P f g each (x ∷ xs) all = speaks_both (each x all.0) (speaks_all P f g each xs all.1)

  pub speaks_each : {X : Type 0} (f : X → List ℕ) (g : X → R) → ((x : X) → Speaks l T (f x) (g x ∷ [])) → (xs : List X)
      → Speaks l T (flat_map f xs) (map g xs)
  speaks_each f g each xs = speaks_all (λ x. Unit {0}) f g (λ x known. each x) xs (always xs)

wide : (w : Width) → 1 ≤ width_of w
wide One = lit≤ tt
wide Two = lit≤ tt
wide Four = lit≤ tt

no_more : {n : ℕ} (l : EntryLayout n) (e more : List ℕ) → [] ≡ e ++ more → IsEntry l e → ⊥
no_more l e more w i = omega (arith, i.header, ap length w, length-append e more, wide l.length_place.width)

each_entry : {n : ℕ} {R : Type 0} (l : EntryLayout n) (T : List ℕ → R → Type 0) (rows : List (Row R))
    → AllByRecursion (λ r. IsEntry l r.0 × T r.0 r.1) rows → AllByRecursion (IsEntry l) (row_bytes rows)
each_entry l T [] all = tt
each_entry l T (r ∷ rows) all = (all.0.0, each_entry l T rows all.1)

each_told : {n : ℕ} {R Y : Type 0} (l : EntryLayout n) (T : List ℕ → R → Type 0) (h : List ℕ → Option Y)
    (k : R → Option Y) → ((e : List ℕ) (x : R) → T e x → h e ≡ k x) → (rows : List (Row R))
    → AllByRecursion (λ r. IsEntry l r.0 × T r.0 r.1) rows
    → filter_map h (row_bytes rows) ≡ filter_map k (map (λ r. r.1) rows)
each_told l T h k same [] all = refl
each_told l T h k same (r ∷ rows) all =
    rw (same r.0 r.1 all.0.1) (ap (cons_option (k r.1)) (each_told l T h k same rows all.1))

pub many_rows : {n : ℕ} {R : Type 0} {l : EntryLayout n} {T : List ℕ → R → Type 0} {bytes : List ℕ} {items : List R}
    → (s : Speaks l T bytes items) → length (row_bytes s.rows) ≡ length items
many_rows s = length-map s.rows (λ r. r.0) ∙ sym (length-map s.rows (λ r. r.1)) ∙ ap length s.items_are

-- the bytes are cut into these entries, and no rest
pub spoken_cut : {n : ℕ} {R : Type 0} (g : Grammar n) {T : List ℕ → R → Type 0} {bytes : List ℕ} {items : List R}
    → (s : Speaks g.layout T bytes items) → IsFew g.most (length items)
    → ((cut g bytes).0 ≡ row_bytes s.rows) × ((cut g bytes).1 ≡ [])
spoken_cut {n = n} g {T = T} {bytes = bytes} s few =
    let es = row_bytes s.rows in
    one_cut n g bytes (cut g bytes).0 es (cut g bytes).1 [] (cut_is_cut n g bytes) (record {
      whole = sym s.whole ∙ sym (append-nil (concat es));
      entries = each_entry g.layout T s.rows s.each;
      few = λ bound same. omega (arith, many_rows s, few bound same);
      ends = λ e more w i. absurd (no_more g.layout e more w i);
    })

-- what a reader makes of each entry is what it makes of its item
pub spoken : {n : ℕ} {R Y : Type 0} (g : Grammar n) {T : List ℕ → R → Type 0} {bytes : List ℕ} {items : List R}
    → Speaks g.layout T bytes items → IsFew g.most (length items) → (h : List ℕ → Option Y) (k : R → Option Y)
    → ((e : List ℕ) (x : R) → T e x → h e ≡ k x) → filter_map h (cut g bytes).0 ≡ filter_map k items
spoken g {T = T} s few h k same = ap (filter_map h) (spoken_cut g s few).0
    ∙ each_told g.layout T h k same s.rows s.each ∙ ap (filter_map k) s.items_are

-- ---- sorts

pub in_map : {I X Y : Type 0} (h : I → Option Y) (g : X → I) (xs : List X)
    → filter_map h (map g xs) ≡ filter_map (λ x. h (g x)) xs
in_map h g [] = refl
in_map h g (x ∷ xs) = ap (cons_option (h (g x))) (in_map h g xs)

pub in_none : {X Y : Type 0} (xs : List X) → filter_map {X = X} {Y = Y} (λ x. None) xs ≡ []
in_none [] = refl
in_none (x ∷ xs) = in_none xs

pub in_some : {X Y : Type 0} (k : X → Y) (xs : List X) → filter_map (λ x. Some (k x)) xs ≡ map k xs
in_some k [] = refl
in_some k (x ∷ xs) = ap (λ ys. k x ∷ ys) (in_some k xs)

pub in_same : {X : Type 0} (xs : List X) → filter_map {X = X} {Y = X} (λ x. Some x) xs ≡ xs
in_same xs = in_some (λ x. x) xs ∙ map-id xs

pub in_if : {X Y : Type 0} (h : X → Option Y) (b : Bool) (xs ys : List X)
    → filter_map h (if b then xs else ys) ≡ (if b then filter_map h xs else filter_map h ys)
in_if h true xs ys = refl
in_if h false xs ys = refl

pub same_if : {X : Type 0} (b : Bool) (x : X) → (if b then x else x) ≡ x
same_if true x = refl
same_if false x = refl

-- what is of one sort among lists of several
pub ruleset sorts = (filter_map-append, in_map, in_none, append-nil)

-- and of lists that may be missing
pub ruleset missing = (in_if, same_if)

-- by what is the same of each
pub same_of : {X Y : Type 0} (h k : X → Option Y) → ((x : X) → h x ≡ k x) → (xs : List X)
    → filter_map h xs ≡ filter_map k xs
same_of h k e [] = refl
same_of h k e (x ∷ xs) = rw (e x) (ap (cons_option (k x)) (same_of h k e xs))

-- and of those of which something is known
pub known : {X Y : Type 0} (P : X → Type 0) (h : X → Option Y) (k : X → Y) → ((x : X) → P x → h x ≡ Some (k x))
    → (xs : List X) → AllByRecursion P xs → filter_map h xs ≡ map k xs
known P h k e [] all = refl
known P h k e (x ∷ xs) all = rw (e x all.0) (ap (λ ys. k x ∷ ys) (known P h k e xs all.1))

pub known_same : {X : Type 0} (P : X → Type 0) (h : X → Option X) → ((x : X) → P x → h x ≡ Some x)
    → (xs : List X) → AllByRecursion P xs → filter_map h xs ≡ xs
known_same P h e xs all = known P h (λ x. x) e xs all ∙ map-id xs

pub both_known : {X : Type 0} (P Q : X → Type 0) (xs : List X) → AllByRecursion P xs → AllByRecursion Q xs
    → AllByRecursion (λ x. P x × Q x) xs
both_known P Q [] all and = tt
both_known P Q (x ∷ xs) all and = ((all.0, and.0), both_known P Q xs all.1 and.1)
