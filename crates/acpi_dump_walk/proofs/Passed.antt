-- One more object, and one more term.
use Rattle.std.proofs.Common.{◌≡◌, ℕ, ◌+◌, ◌<◌, ◌≤◌, List, [], ◌∷◌, ◌++◌, Result, Ok, Err, IfErr, arith, inl, inr, min, refl, subst, sym}
use Rattle.acpi_dump_walk.specs.Passed.{AreTerms, AreWithin, IsBegun, IsTerm, Within, end_of}
use Rattle.acpi_dump_walk.specs.declared.aml.Object.{Object}

-- what is so of any error
pub if_err : {A E : Type 0} (r : Result A E) (P : E → Type 0) → ((e : E) → P e) → IfErr r P
if_err (Ok x) P f = tt
if_err (Err e) P f = f e

module _ {S : Type 0} (shows : Object → S → S → Type 0) where
  pub within_more : (from mid to : ℕ) (os : List Object) (o : Object) (a b c : S) → AreWithin shows from mid os a b
      → from ≤ mid → mid ≤ o.offset → end_of o ≤ to → shows o b c → AreWithin shows from to (os ++ o ∷ []) a c
  within_more from mid to [] o a b c h low after ends shown =
      (omega arith, ends, (c, subst (λ (s : S). shows o s c) (sym h) shown, refl))
  within_more from mid to (p ∷ os) o a b c h low after ends shown =
      (h.0, omega (arith, h.1), (h.2.0, h.2.1, within_more (end_of p) mid to os o h.2.0 b c h.2.2 h.1 after ends shown))

  pub within_wider : (from to wider : ℕ) (os : List Object) (a b : S) → AreWithin shows from to os a b → to ≤ wider
      → AreWithin shows from wider os a b
  within_wider from to wider [] a b h more = h
  within_wider from to wider (o ∷ os) a b h more =
      (h.0, omega (arith, h.1), (h.2.0, h.2.1, within_wider (end_of o) to wider os h.2.0 b h.2.2 more))

  pub within_sooner : (sooner from to : ℕ) (os : List Object) (a b : S) → AreWithin shows from to os a b → sooner ≤ from
      → AreWithin shows sooner to os a b
  within_sooner sooner from to [] a b h less = h
  within_sooner sooner from to (o ∷ os) a b h less = (omega (arith, h.0), h.1, h.2)

  pub terms_more : (at mid next : ℕ) (terms : List ℕ) (a b c : S) → AreTerms shows at terms mid a b
      → IsTerm shows mid next b c → AreTerms shows at (terms ++ next ∷ []) next a c
  terms_more at mid next [] a b c h term = (
    c,
    subst (λ (s : S). IsTerm shows at next s c) (sym h.1)
        (subst (λ (n : ℕ). IsTerm shows n next b c) (sym h.0) term),
    (refl, refl),
  )
  terms_more at mid next (t ∷ terms) a b c h term =
      (h.0, h.1, terms_more t mid next terms h.0 b c h.2 term)

  -- one more unit, and one that isn't shown
  pub unit_more : (start at end len : ℕ) (o : Object) (a b c : S) → start ≤ at → at < len → at < end → end ≤ len
      → o.offset ≡ at → end_of o ≡ end → Within shows start (min at len) a b → shows o b c
      → Within shows start (min end len) a c
  unit_more start at end len o a b c low less some fits begins ends units shown = (
    units.0 ++ o ∷ [],
    within_more start (min at len) (min end len) units.0 o a b c units.1
        (omega (arith, low, less)) (omega (arith, begins)) (omega (arith, ends, fits)) shown,
  )

  pub unit_none : (start at end len : ℕ) (a b : S) → at < end → Within shows start (min at len) a b
      → Within shows start (min end len) a b
  unit_none start at end len a b some units =
      (units.0, within_wider start (min at len) (min end len) units.0 a b units.1 (omega (arith, some)))

  pub units_all : (start at len : ℕ) (a b : S) → Within shows start (min at len) a b → Within shows start len a b
  units_all start at len a b units =
      (units.0, within_wider start (min at len) len units.0 a b units.1 (omega arith))

  units_of : (o : Object) (at from to : ℕ) (b c : S) → at ≤ from → to ≤ end_of o → Within shows from to b c
      → Within shows at (end_of o) b c
  units_of o at from to b c low high units =
      (units.0, within_wider at to (end_of o) units.0 b c (within_sooner at from to units.0 b c units.1 low) high)

  -- a term that is all of an object, with the units in it
  pub whole_term : (at end : ℕ) (o : Object) (a b c : S) (from to : ℕ) → shows o a b → Within shows from to b c
      → o.offset ≡ at → end_of o ≡ end → at < end → at ≤ from → to ≤ end → IsTerm shows at end a c
  whole_term at end o a b c from to shown units begins ends some low high = record {
    object = o;
    begins = begins;
    some = some;
    ends = inl (sym ends);
    middle = b;
    first = shown;
    units = units_of o at from to b c low (omega (arith, ends, high)) units;
  }

  -- what was shown before an error
  pub begun : (at : ℕ) (o : Object) (a b c : S) (from to : ℕ) → shows o a b → Within shows from to b c
      → o.offset ≡ at → at ≤ from → to ≤ end_of o → IsBegun shows at a c
  begun at o a b c from to shown units begins low high =
      inr (o, begins, (b, shown, units_of o at from to b c low high units))

  pub only_begun : (at : ℕ) (o : Object) (a b : S) → shows o a b → o.offset ≡ at → IsBegun shows at a b
  only_begun at o a b shown begins = inr (o, begins, (b, shown, ([], refl)))
