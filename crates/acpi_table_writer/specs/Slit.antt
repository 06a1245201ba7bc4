-- The SLIT that is written (ACPI 6.4, section 5.2.17).
use Rattle.std.specs.Prelude.{◌≡◌, ℕ, ◌+◌, ◌*◌, ◌^◌, ◌<◌, ◌==◌, List, ◌++◌, length, slice_get, Result}
use Rattle.acpi_table_writer.specs.Table.{IsTableOf, IsValid, table_written}
use Rattle.acpi_table_writer.specs.Types.{spelling, ◌>>=◌, holds, SLIT, distance_of, WriterError, BadMatrix, TableIds}

-- after the header: at 36 Number of System Localities; from 44 on Entry, row by row
abbrev pub slit_body : ℕ → List ℕ → List ℕ
slit_body n distances = spelling 8 n ++ distances

-- there is a distance for each pair of localities, or the error
abbrev pub slit_checked : ℕ → List ℕ → Result (Unit {0}) WriterError
slit_checked n distances = holds (n * n == length distances) BadMatrix

-- the table, of revision 1, in so much room, or the first error
unfoldable pub slit_written : ℕ → TableIds → ℕ → List ℕ → Result (List ℕ) WriterError
slit_written room ids n distances = do
  _ ← slit_checked n distances
  table_written room SLIT 1 ids (slit_body n distances)

-- the bytes are the table of a distance for each pair of this number of localities
pub record IsSlit (ids : TableIds) (n : ℕ) (distances table : List ℕ) : Type 0 where
  pub written : IsTableOf SLIT 1 ids (slit_body n distances) table
  pub small : n < 2 ^ 64
  pub square : n * n ≡ length distances

-- such a table is valid
abbrev pub SlitIsValid : Type 0
SlitIsValid = (ids : TableIds) (n : ℕ) (distances table : List ℕ) → IsSlit ids n distances table → IsValid SLIT table

-- and the distance from one locality to another is the one that was given for this pair
abbrev pub SlitIsRead : Type 0
SlitIsRead = (ids : TableIds) (n : ℕ) (distances table : List ℕ) → IsSlit ids n distances table
    → (from to : ℕ) → from < n → to < n
    → distance_of table from to ≡ slice_get distances (from * n + to)
