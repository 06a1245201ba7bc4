-- Where bytes are in a caller's regions.
use Rattle.std.specs.Prelude.{◌≡◌, ℕ, ◌+◌, ◌-◌, ◌<◌, true, nat_le, List, [], ◌∷◌, drop, length, slice_index_or, Option, Some, None, Result, Ok, if◌then◌else◌, ok_or}
use Rattle.acpi_base.specs.Words.{holds}
use Rattle.acpi_c_lib.specs.Regions.{Region, memory_in, region_of}
pub use Rattle.acpi_c_lib.specs.declared.records.Place.{Place}
use Rattle.acpi_c_lib.specs.Types.{Memory, lies_in, ◌>>=◌, MapFailed, Refusal, Acpi}

-- the place of an address, by a region counted from this index on, and the bytes from there to the region's end
abbrev pub spot_from : ℕ → Memory → ℕ → Option (Place × List ℕ)
spot_from index [] a = None
spot_from index (r ∷ m) a =
    if lies_in r a then Some (record { region = index; offset = a - r.start }, drop (a - r.start) r.bytes)
    else spot_from (index + 1) m a

-- the place of n bytes from an address, or that the address is in no region, or in one that ends before they do
abbrev pub located : List Region → ℕ → ℕ → Result Place Refusal
located regions a n = do
  m ← memory_in regions
  spot ← ok_or (spot_from 0 m a) (Acpi MapFailed)
  _ ← holds (nat_le n (length spot.1)) (Acpi MapFailed)
  Ok spot.0

-- an address is in no region but the one of this index
abbrev pub LiesOnlyAt : List Region → ℕ → ℕ → Type 0
LiesOnlyAt regions a index = (i : ℕ) (d : Region) → i < length regions
    → lies_in (region_of (slice_index_or regions i d)) a ≡ true → i ≡ index
