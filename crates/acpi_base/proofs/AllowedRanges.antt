-- Each of some ranges may be asked for: so may each part of them.
use Rattle.std.proofs.Common.{◌≡◌, ℕ, ◌==◌, ◌&&◌, List, [], ◌∷◌, ◌++◌, get_or, Bool, true, Ok, arith, refl, subst, sym, ◌≤◌}
use Rattle.acpi_base.specs.FromStd.{AllByRecursion}
use Rattle.acpi_base.proofs.FromStd.{eq-eqb, le-leb, list_any_at, All-cons, All-head, All-nil, All-tail}
use Rattle.acpi_base.specs.Words.{Signature, accepted, header_at, Memory, Allows, Ranges, is_listed, own_accepted_ranges, sdt_kind, table_ranges, whole_ranges, lent, Kind}

same_range : (r : ℕ × ℕ) → (r.0 == r.0 && r.1 == r.1) ≡ true
same_range r = rw (eq-eqb r.0 r.0 refl, eq-eqb r.1 r.1 refl) refl

-- what is listed may be asked for
pub allows_listed : (xs : Ranges) → Allows (is_listed xs) xs
allows_listed xs = λ k d lt.
    list_any_at (λ r. r.0 == (get_or xs k d).0 && r.1 == (get_or xs k d).1) xs k d lt (same_range (get_or xs k d))

pub allows_equal : (xs ys : Ranges) → xs ≡ ys → Allows (is_listed xs) ys
allows_equal xs ys same = subst (λ zs. Allows (is_listed xs) zs) same (allows_listed xs)

module _ (may : ℕ → ℕ → Bool) where
  abbrev may_at : ℕ × ℕ → Type 0
  may_at r = may r.0 r.1 ≡ true

  pub all_here : (r : ℕ × ℕ) (xs : Ranges) → Allows may (r ∷ xs) → may r.0 r.1 ≡ true
  all_here r xs h = All-head may_at r xs h

  pub all_rest : (r : ℕ × ℕ) (xs : Ranges) → Allows may (r ∷ xs) → Allows may xs
  all_rest r xs h = All-tail may_at r xs h

  pub all_front : (xs ys : Ranges) → Allows may (xs ++ ys) → Allows may xs
  all_front [] ys h = All-nil may_at
  all_front (x ∷ xs) ys h = All-cons may_at x xs (all_here x (xs ++ ys) h) (all_front xs ys (all_rest x (xs ++ ys) h))

  pub all_back : (xs ys : Ranges) → Allows may (xs ++ ys) → Allows may ys
  all_back [] ys h = h
  all_back (x ∷ xs) ys h = all_back xs ys (all_rest x (xs ++ ys) h)

  pub asked_header : (m : Memory) (k : Kind) (p : ℕ) → Allows may (table_ranges m k p) → may p 36 ≡ true
  asked_header m k p h = all_here (p, 36) _ h

  pub asked_whole : (m : Memory) (k : Kind) (p : ℕ) (head : List ℕ) → Allows may (table_ranges m k p)
      → lent m p 36 ≡ Ok head
      → Allows may (whole_ranges k p head)
  asked_whole m k p head h there = rw there at (all_rest (p, 36) _ h)

  -- of a table that is accepted under its own signature
  pub asked_own_header : (accept : ℕ) (m : Memory) (p : ℕ) → Allows may (own_accepted_ranges accept m p)
      → may p 36 ≡ true
  asked_own_header accept m p h = all_here (p, 36) _ h

  of_equal : (accept : ℕ) (s t : Signature) (least p : ℕ) (head : List ℕ) → t ≡ s
      → Allows may (whole_ranges (accepted accept (sdt_kind s least)) p head)
      → Allows may (whole_ranges (accepted accept (sdt_kind t least)) p head)
  of_equal accept s t least p head same h = rw same h

  pub asked_own : (accept : ℕ) (m : Memory) (s : Signature) (p : ℕ) (head : List ℕ)
      → Allows may (own_accepted_ranges accept m p) → lent m p 36 ≡ Ok head → (header_at head).signature ≡ s
      → Allows may (whole_ranges (accepted accept (sdt_kind s 36)) p head)
  asked_own accept m s p head h there own =
      of_equal accept (header_at head).signature s 36 p head (sym own) (rw there at (all_rest (p, 36) _ h))

  pub asked_length : (k : Kind) (p n : ℕ) (head : List ℕ) → Allows may (whole_ranges k p head)
      → k.names (header_at head) ≡ Ok tt → k.least ≤ n → n ≡ (header_at head).length → may p n ≡ true
  asked_length k p n head h names long is =
      let enough = le-leb k.least (header_at head).length (omega (arith, long, is)) in
      rw is (all_here (p, (header_at head).length) [] (rw (names, enough) at h))

-- what holds of each of some ranges holds of each part of them

pub each_front : {X : Type 0} (P : X → Type 0) (xs ys : List X) → AllByRecursion P (xs ++ ys) → AllByRecursion P xs
each_front P [] ys h = tt
each_front P (x ∷ xs) ys h = (h.0, each_front P xs ys h.1)

pub each_back : {X : Type 0} (P : X → Type 0) (xs ys : List X) → AllByRecursion P (xs ++ ys) → AllByRecursion P ys
each_back P [] ys h = h
each_back P (x ∷ xs) ys h = each_back P xs ys h.1
