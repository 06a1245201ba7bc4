-- Regions as a caller has them mapped, and which of them are a memory.
use Rattle.std.specs.Prelude.{ℕ, ◌≤◌, nat_le, List, [], ◌∷◌, codes, length, map, Result, Ok}
use Rattle.acpi_base.specs.FromStd.{×_prop, Unit-prop, le_prop, AllByRecursion, AllByRecursion-prop}
use Rattle.acpi_base.specs.Words.{Memory, Region, end_of, one_region, range_fits, ◌>>=◌, holds}
use Rattle.acpi.specs.declared.handler.region.MappedRegion.{MappedRegion}
use Rattle.acpi.specs.declared.handler.region.RegionError.{RegionError}
use Rattle.acpi.specs.declared.handler.region.RegionError.TheVariants.{EndTooLarge, NotAscending, Overlap}

abbrev pub region_of : MappedRegion → Region
region_of r = record { start = r.start; bytes = r.bytes.now }

-- the memory that one region maps
abbrev pub region_memory : MappedRegion → Memory
region_memory r = one_region r.start r.bytes.now

abbrev pub regions_of : List MappedRegion → Memory
regions_of regions = map region_of regions

-- the memory of one region, or why it is none
abbrev pub one_memory : ℕ → List ℕ → Result Memory RegionError
one_memory start bytes = do
  _ ← holds (range_fits start (length bytes)) EndTooLarge
  Ok (one_region start bytes)

-- each region starts at the end of each one before it, or above that
abbrev pub IsAscending : Memory → Type 0
IsAscending [] = Unit {0}
IsAscending (r ∷ m) = AllByRecursion (λ s. end_of r ≤ s.start) m × IsAscending m

-- the regions after one that has this start and this end. A region without bytes that starts inside that one is an
-- Overlap too, though the two share no byte
abbrev pub check_after : ℕ → ℕ → Memory → Result (Unit {0}) RegionError
check_after start end [] = Ok tt
check_after start end (r ∷ m) = do
  _ ← holds (nat_le start r.start) NotAscending
  _ ← holds (nat_le end r.start) Overlap
  check_after r.start (end_of r) m

abbrev pub check_regions : Memory → Result (Unit {0}) RegionError
check_regions m = check_after 0 0 m

-- the memory of several regions, or why they are none
abbrev pub several_memory : Memory → Result Memory RegionError
several_memory m = do
  _ ← check_regions m
  Ok m

-- the name of the variant
abbrev pub region_error_text : RegionError → List ℕ
region_error_text EndTooLarge = codes "EndTooLarge"
region_error_text NotAscending = codes "NotAscending"
region_error_text Overlap = codes "Overlap"

-- this fact has one proof at most
pub IsAscending-prop : (m : Memory) → IsProp (IsAscending m)
IsAscending-prop [] = Unit-prop
IsAscending-prop (r ∷ m) =
    ×_prop (AllByRecursion-prop (λ s. end_of r ≤ s.start) (λ s. le_prop) m) (IsAscending-prop m)
