-- The memory that a caller's regions are.
use Rattle.std.specs.Prelude.{ℕ, ◌^◌, nat_le, nat_lt, List, [], ◌∷◌, map, Result, Ok}
use Rattle.acpi_bytes.specs.Memory as memory
use Rattle.acpi_base.specs.Words.{Memory, end_of, ◌>>=◌, holds}
use Rattle.acpi_c_lib.specs.Types.{Refusal, RegionsNotAscending, RegionTooHigh}
pub use Rattle.acpi_c_lib.specs.declared.regions.Region.{Region}

abbrev pub region_of : Region → memory.Region
region_of r = record { start = r.address; bytes = r.bytes.now }

abbrev pub memory_of : List Region → Memory
memory_of regions = map region_of regions

-- each region begins at this address or above it, after those before it, and ends below 2^64
abbrev pub check_from : ℕ → Memory → Result (Unit {0}) Refusal
check_from low [] = Ok tt
check_from low (r ∷ m) = do
  _ ← holds (nat_le low r.start) RegionsNotAscending
  _ ← holds (nat_lt (end_of r) (2 ^ 64)) RegionTooHigh
  check_from (end_of r) m

abbrev pub check_regions : Memory → Result (Unit {0}) Refusal
check_regions m = check_from 0 m

-- the memory of these regions, or why they are none
abbrev pub memory_in : List Region → Result Memory Refusal
memory_in regions = do
  _ ← check_regions (memory_of regions)
  Ok (memory_of regions)
