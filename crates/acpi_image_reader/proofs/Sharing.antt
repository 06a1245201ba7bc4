-- When regions share a byte.
use Rattle.std.proofs.Common.{◌≡◌, ℕ, ◌<◌, ◌≤◌, Bool, true, false, sym, List, [], ◌∷◌, ◌++◌, length, refl, arith, ◌∙◌, ◌↔◌}
use Rattle.acpi_base.proofs.FromStd.{and_from, or_parts, or_from, false_from_ne_true, le-leb, lt-ltb, nat_tests, length-replicate}
use Rattle.acpi_base.specs.FromStd.{AllByRecursion}
use Rattle.acpi_base.specs.Words.{Memory, Region, AreApart, IsMemory, IsRegion, end_of, lies_in}
use Rattle.acpi_bytes.specs.declared.range.AddressRange.{AddressRange}
use Rattle.acpi_image_reader.specs.Words.{share, shares_any, region_in}

pub inside : (r : Region) (a : ℕ) → lies_in r a ≡ true → (r.start ≤ a) × (a < end_of r)
inside r a h = grind (arith, nat_tests)

pub within : (r : Region) (a : ℕ) → r.start ≤ a → a < end_of r → lies_in r a ≡ true
within r a low high = and_from _ _ (le-leb _ _ low) (lt-ltb _ _ high)

pub apart_is : (r s : Region) → share r s ≡ false → AreApart r s
unfolding share
apart_is r s h a hr hs = grind (arith, nat_tests)

pub not_shared : (r s : Region) → AreApart r s → share r s ≡ true → ⊥
unfolding share
not_shared r s h t = grind (arith, nat_tests, h s.start, h r.start)

pub share_is : (r s : Region) → AreApart r s → share r s ≡ false
share_is r s h = false_from_ne_true _ (not_shared r s h)

-- whatever says whether they do says whether an address lies in both
pub share_law : (r s : Region) (b : Bool) → b ≡ share r s → (b ≡ false) ↔ AreApart r s
share_law r s b e = (λ no. apart_is r s (sym e ∙ no), λ apart. e ∙ share_is r s apart)

-- ---- it depends on starts and lengths alone

pub record SamePlace (r s : Region) : Type 0 where
  pub start : r.start ≡ s.start
  pub count : length r.bytes ≡ length s.bytes

pub same_share : (r r' s s' : Region) → SamePlace r r' → SamePlace s s' → share r s ≡ share r' s'
unfolding share
same_share r r' s s' a b = rw (a.start, a.count, b.start, b.count) refl

-- two regions share a byte exactly if the ranges that they lie in do
pub ranges_share : (p q : AddressRange) (r s : Region) → p.address ≡ r.start → p.length ≡ length r.bytes
    → q.address ≡ s.start → q.length ≡ length s.bytes
    → share (region_in p) (region_in q) ≡ share r s
ranges_share p q r s p_start p_count q_start q_count =
    same_share (region_in p) r (region_in q) s
    (record { start = p_start; count = length-replicate p.length 0 ∙ p_count })
    (record { start = q_start; count = length-replicate q.length 0 ∙ q_count })

-- ---- several

pub shares_none : (m : Memory) (r : Region) → AllByRecursion (λ s. AreApart s r) m → shares_any m r ≡ false
shares_none [] r h = refl
shares_none (s ∷ m) r h = or_from _ _ (share_is s r h.0) (shares_none m r h.1)

pub all_apart : (m : Memory) (r : Region) → shares_any m r ≡ false → AllByRecursion (λ s. AreApart s r) m
all_apart [] r h = tt
all_apart (s ∷ m) r h =
    let p = or_parts _ _ h in
    (apart_is s r p.0, all_apart m r p.1)

-- ---- a region after a memory

pub all_both : {X : Type 0} (P : X → Type 0) (xs ys : List X) → AllByRecursion P xs → AllByRecursion P ys
    → AllByRecursion P (xs ++ ys)
all_both P [] ys h k = k
all_both P (x ∷ xs) ys h k = (h.0, all_both P xs ys h.1 k)

all_at : {X : Type 0} (P : X → Type 0) (xs : List X) (y : X) (ys : List X) → AllByRecursion P (xs ++ (y ∷ ys)) → P y
all_at P [] y ys h = h.0
all_at P (x ∷ xs) y ys h = all_at P xs y ys h.1

pub memory_with : (m : Memory) (r : Region) → IsMemory m → IsRegion r → AllByRecursion (λ s. AreApart s r) m
    → IsMemory (m ++ (r ∷ []))
memory_with [] r h hr apart = (hr, (tt, tt))
memory_with (s ∷ m) r h hr apart = (
  h.0,
  (all_both (AreApart s) m (r ∷ []) h.1.0 (apart.0, tt), memory_with m r h.1.1 hr apart.1),
)

pub memory_at : (m : Memory) (r : Region) (rs : Memory) → IsMemory (m ++ (r ∷ rs))
    → IsRegion r × AllByRecursion (λ s. AreApart s r) m
memory_at [] r rs h = (h.0, tt)
memory_at (s ∷ m) r rs h =
    let later = memory_at m r rs h.1.1 in
    (later.0, (all_at (AreApart s) m r rs h.1.0, later.1))
