-- How far localities are from each other: the System Locality Information Table, SLIT (ACPI 6.4, section 5.2.17).
use Rattle.std.specs.Prelude.{◌≡◌, ℕ, ◌+◌, ◌*◌, ◌<◌, ◌≤◌, ◌==◌, ◌&&◌, Bool, false, IsTrue, List, length, nat_lt, slice_get, Option, None, Some, if◌then◌else◌}
use Rattle.acpi_base.specs.Words.{field_of, header_at}
use Rattle.acpi_numa.specs.declared.slit.Distances.{Distances}
use Rattle.acpi_numa.specs.declared.slit.Slit.{Slit}

-- the table SLIT, at least 44 bytes
unfoldable pub slit_at : List ℕ → Slit
slit_at b = record {
  header = header_at b;
  localities = field_of b 36 8;  -- Number of System Localities
}

-- Number of System Localities: how many localities there are
abbrev pub localities_of : List ℕ → ℕ
localities_of table = field_of table 36 8

-- Entry[from][to], the distance from one of n localities to another: where it is, row by row after the 44 fixed
-- bytes, a byte for each pair. Numbers here don't wrap: no table has a place of 2^64 or above
abbrev pub place_of : ℕ → ℕ → ℕ → ℕ
place_of n from to = 44 + from * n + to

-- the byte at that place, if both are localities and the table has it
abbrev pub distance_among : ℕ → List ℕ → ℕ → ℕ → Option ℕ
distance_among n table from to =
    if nat_lt from n && nat_lt to n then slice_get table (place_of n from to) else None

-- the distance from one locality to another, of which 255 means 'unreachable'
unfoldable pub distance_of : List ℕ → ℕ → ℕ → Option ℕ
distance_of table from to = distance_among (localities_of table) table from to

-- more than 10, the distance of a locality from itself
abbrev pub IsFar : Option ℕ → Type 0
IsFar (Some d) = 10 < d
IsFar None = ⊥

-- a table that can be believed: there are localities, the table has the distances of all, each is at
-- 10 from itself, and at more than 10 from every other
pub record IsSane (table : List ℕ) : Type 0 where
  pub some : 1 ≤ localities_of table
  pub whole : 44 + localities_of table * localities_of table ≤ length table
  pub near : (i : ℕ) → i < localities_of table → distance_of table i i ≡ Some 10
  pub far : (i j : ℕ) → i < localities_of table → j < localities_of table → (i ≡ j → ⊥)
      → IsFar (distance_of table i j)

-- whether the distance from one locality to another can be believed
abbrev pub fits : ℕ → ℕ → Option ℕ → Bool
fits from to (Some d) = if from == to then d == 10 else nat_lt 10 d
fits from to None = false

-- the distances from a locality can be believed
abbrev pub IsRowSane : List ℕ → ℕ → Type 0
IsRowSane table from =
    (to : ℕ) → to < localities_of table → IsTrue (fits from to (distance_of table from to))

-- the table that distances are read from
abbrev pub slit_bytes : Distances → List ℕ
slit_bytes d = d.table.now
