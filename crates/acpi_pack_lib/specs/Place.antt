-- Where tables are: one after the other, and away from a region that is there already.
use Rattle.std.specs.Prelude.{◌≡◌, ◌⊎◌, ℕ, ◌+◌, ◌*◌, ◌/◌, ◌%◌, ◌^◌, ◌<◌, ◌≤◌, nat_le, nat_lt, ◌||◌, if◌then◌else◌, List, [], ◌∷◌, length, Option, Some, None, Result, Ok, Err}
use Rattle.acpi_base.specs.Words.{Memory, Region, end_of, ◌>>=◌}
use Rattle.acpi_pack_lib.specs.declared.error.Refusal.{Refusal}
use Rattle.acpi_pack_lib.specs.declared.error.Refusal.TheVariants.{NoRoom}

-- the least multiple of 16 from an address on
abbrev pub aligned : ℕ → ℕ
aligned address = (address + 15) / 16 * 16

-- the first such address from which that many bytes are before or after a region: the least multiple itself, or else
-- the least at or above the region's end
unfoldable pub start_at : Region → ℕ → ℕ → ℕ
start_at fixed from count =
    if nat_le (aligned from + count) fixed.start || nat_le (end_of fixed) (aligned from)
    then aligned from
    else aligned (end_of fixed)

-- the address of that many bytes, if they end below 2^64
unfoldable pub place_at : Region → ℕ → ℕ → Option ℕ
place_at fixed from count =
    if nat_lt (start_at fixed from count + count) (2 ^ 64) then Some (start_at fixed from count)
    else None

-- tables from an address on, one after the other, if each ends below 2^64
abbrev pub place_or : Region → Option ℕ → List ℕ → (ℕ → Result Memory Refusal) → Result Memory Refusal
place_or fixed None table more = Err NoRoom
place_or fixed (Some address) table more = do
  behind ← more (address + length table)
  Ok (record { start = address; bytes = table } ∷ behind)

abbrev pub placed_from : Region → ℕ → List (List ℕ) → Result Memory Refusal
placed_from fixed from [] = Ok []
placed_from fixed from (table ∷ tables) =
    place_or fixed (place_at fixed from (length table)) table
    (λ behind. placed_from fixed behind tables)

-- that tables fit, or the error
abbrev pub room : Region → ℕ → List (List ℕ) → Result (Unit {0}) Refusal
room fixed from tables = do
  _ ← placed_from fixed from tables
  Ok tt

-- ---- where tables are, in the reader's words

-- a region from an address on, aligned to 16, before or after another, that ends below 2^64
pub record IsPlaced (fixed : Region) (from : ℕ) (r : Region) : Type 0 where
  pub behind : from ≤ r.start
  pub even : r.start % 16 ≡ 0
  pub apart : (end_of r ≤ fixed.start) ⊎ (end_of fixed ≤ r.start)
  pub ends : end_of r < 2 ^ 64

-- each after the one before it
abbrev pub ArePlaced : Region → ℕ → Memory → Type 0
ArePlaced fixed from [] = Unit {0}
ArePlaced fixed from (r ∷ rs) = IsPlaced fixed from r × ArePlaced fixed (end_of r) rs
