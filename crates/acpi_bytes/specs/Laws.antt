-- What holds of the definitions.
use Rattle.std.specs.Prelude.{◌≡◌, ◌≢◌, ℕ, ◌<◌, ◌≤◌, ◌⊎◌, List, ◌++◌, Some, IsErr, Contains, replicate, slice_index, slice_set, ◌↔◌}
use Rattle.acpi_bytes.specs.Bytes.{field_of}
use Rattle.acpi_bytes.specs.Header.{check_table}
use Rattle.acpi_bytes.specs.Types.{Signature}
use Rattle.acpi_bytes.specs.Memory.{Memory, Region, IsMemory, HoldsRange, at}

-- in a memory, what can be mapped is exactly a range that lies whole inside one region, with its bytes; for n of at
-- least 1
abbrev pub LentIsInside : Type 0
LentIsInside = (m : Memory) (a n : ℕ) (bytes : List ℕ) → IsMemory m → 0 < n
    → (at m a n ≡ Some bytes) ↔ ((r : Region) × Contains m r × HoldsRange r a n bytes)

-- a field is read as if zeros followed the bytes
abbrev pub FieldPastEnd : Type 0
FieldPastEnd = (bytes : List ℕ) (count offset n : ℕ)
    → field_of (bytes ++ replicate count 0) offset n ≡ field_of bytes offset n

-- bytes that differ from these in exactly one place, below the length and outside Length (bytes 4 to 7), are an error:
-- a clause of `SdtHeader::validate`, of bytes that it accepts
abbrev pub DamageShows : Signature → List ℕ → Type 0
DamageShows s bytes = (k b : ℕ) → k < field_of bytes 4 4 → (k < 4) ⊎ (8 ≤ k)
    → b < 256 → b ≢ slice_index bytes k
    → IsErr (check_table s (slice_set bytes k b))
