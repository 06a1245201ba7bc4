-- Where the regions of plain memory are.
use Rattle.std.proofs.Common.{◌≤◌, ◌^◌, ℕ, ◌+◌, ◌-◌, [], ◌∷◌, arith, if◌then◌else◌, nat_lt}
use Rattle.acpi_base.specs.FromStd.{AllByRecursion}
use Rattle.acpi_base.specs.Words.{Memory, end_of}
use Rattle.acpi_pack_lib.specs.Words.{LiesIn, end_from, end_in, first_from, first_in}

least : (a b : ℕ) → ((if nat_lt b a then b else a) ≤ a) × ((if nat_lt b a then b else a) ≤ b)
least a b = (grind arith, grind arith)

greatest : (a b : ℕ) → (a ≤ (if nat_lt a b then b else a)) × (b ≤ (if nat_lt a b then b else a))
greatest a b = (grind arith, grind arith)

first_least : (a : ℕ) (m : Memory) → first_from a m ≤ a
first_least a [] = omega arith
first_least a (r ∷ m) =
    let low = (least a r.start).0 in
    let lower = first_least (if nat_lt r.start a then r.start else a) m in
    omega (arith, low, lower)

end_greatest : (a : ℕ) (m : Memory) → a ≤ end_from a m
end_greatest a [] = omega arith
end_greatest a (r ∷ m) =
    let high = (greatest a (end_of r)).0 in
    let higher = end_greatest (if nat_lt a (end_of r) then end_of r else a) m in
    omega (arith, high, higher)

-- each region is between any address up to the first and any from the last on
between : (a b first count : ℕ) (m : Memory) → first ≤ first_from a m → end_from b m ≤ first + count
    → AllByRecursion (LiesIn first count) m
between a b first count [] low high = tt
between a b first count (r ∷ m) low high =
    let x = if nat_lt r.start a then r.start else a in
    let y = if nat_lt b (end_of r) then end_of r else b in
    let lower = first_least x m in
    let lowest = (least a r.start).1 in
    let higher = end_greatest y m in
    let highest = (greatest b (end_of r)).1 in (
      record { starts = omega (arith, low, lower, lowest); ends = omega (arith, high, higher, highest) },
      between x y first count m low high,
    )

-- from the first address to the last
pub lie_in : (m : Memory) → AllByRecursion (LiesIn (first_in m) (end_in m - first_in m)) m
lie_in [] = tt
lie_in (r ∷ m) =
    let x = if nat_lt r.start (2 ^ 64 - 1) then r.start else 2 ^ 64 - 1 in
    let y = if nat_lt 0 (end_of r) then end_of r else 0 in
    let lower = first_least x m in
    let lowest = (least (2 ^ 64 - 1) r.start).1 in
    let higher = end_greatest y m in
    let highest = (greatest 0 (end_of r)).1 in
    between (2 ^ 64 - 1) 0 (first_in (r ∷ m)) (end_in (r ∷ m) - first_in (r ∷ m)) (r ∷ m) (omega arith)
    (omega (arith, lower, lowest, higher, highest))
