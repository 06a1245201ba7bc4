-- Memory: regions of bytes, and what can be mapped of it.
use Rattle.std.specs.Prelude.{◌≡◌, ℕ, ◌+◌, ◌-◌, ◌^◌, ◌<◌, ◌≤◌, ◌&&◌, Bool, List, [], ◌∷◌, length, take, drop, Option, Some, None, nat_lt, nat_le, if◌then◌else◌, true}
use Rattle.acpi_bytes.specs.FromStd.{AllByRecursion, AllByRecursion-prop, ×_prop, Π_prop, →_prop, Unit-prop, le_prop}
use Rattle.acpi_bytes.specs.Bytes.{IsBytes}

-- where a region starts, and its bytes
pub record Region : Type 0 where
  pub start : ℕ
  pub bytes : List ℕ

abbrev pub Memory : Type 0
Memory = List Region

-- the address after a region
abbrev pub end_of : Region → ℕ
end_of r = r.start + length r.bytes

-- whether an address is in a region
abbrev pub lies_in : Region → ℕ → Bool
lies_in r a = nat_le r.start a && nat_lt a (end_of r)

-- a region ends below 2^64, and is made of bytes
abbrev pub IsRegion : Region → Type 0
IsRegion r = (end_of r < 2 ^ 64) × IsBytes r.bytes

-- no address is in both
abbrev pub AreApart : Region → Region → Type 0
AreApart r s = (a : ℕ) → lies_in r a ≡ true → lies_in s a ≡ true → ⊥

-- regions of which no two share an address
abbrev pub IsMemory : Memory → Type 0
IsMemory [] = Unit {0}
IsMemory (r ∷ m) = IsRegion r × (AllByRecursion (AreApart r) m × IsMemory m)

-- the bytes from an address to the end of the region that it is in
unfoldable pub rest_from : Memory → ℕ → List ℕ
rest_from [] a = []
rest_from (r ∷ m) a = if lies_in r a then drop (a - r.start) r.bytes else rest_from m a

-- the n bytes from an address, if the whole range is in one region: two regions that adjoin are still two, and a
-- range across their border is not mapped. What to believe is the law `LentIsInside` (`Laws`)
unfoldable pub at : Memory → ℕ → ℕ → Option (List ℕ)
at m a n = if nat_le n (length (rest_from m a)) then Some (take n (rest_from m a)) else None

-- the range of n bytes from an address is all in this region, which has these bytes there
pub record HoldsRange (r : Region) (a n : ℕ) (bytes : List ℕ) : Type 0 where
  pub starts : r.start ≤ a
  pub ends : a + n ≤ end_of r
  pub there : bytes ≡ take n (drop (a - r.start) r.bytes)

-- each of these facts has one proof at most
pub IsRegion-prop : (r : Region) → IsProp (IsRegion r)
IsRegion-prop r = ×_prop le_prop (Π_prop (λ i. le_prop))

pub AreApart-prop : (r s : Region) → IsProp (AreApart r s)
AreApart-prop r s = Π_prop (λ a. →_prop (→_prop (λ x. absurd x)))

pub IsMemory-prop : (m : Memory) → IsProp (IsMemory m)
IsMemory-prop [] = Unit-prop
IsMemory-prop (r ∷ m) =
    let apart = AllByRecursion-prop (AreApart r) (AreApart-prop r) m in
    ×_prop (IsRegion-prop r) (×_prop apart (IsMemory-prop m))
