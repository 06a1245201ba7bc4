-- Flags in a number.
use Rattle.std.specs.Prelude.{◌≡◌, ℕ, zero, suc, ◌+◌, ◌*◌, Bool, false, List, [], ◌∷◌}
use Rattle.acpi_base.specs.Words.{has_bit}
use Rattle.acpi_table_writer.specs.Table.{bit_of}

-- the number whose bits these are, bit 0 first
unfoldable pub flag_number : List Bool → ℕ
flag_number [] = 0
flag_number (b ∷ bs) = bit_of b + 2 * flag_number bs

-- the flag at a place, and no flag past the last one
abbrev pub flag_at : List Bool → ℕ → Bool
flag_at [] k = false
flag_at (b ∷ bs) zero = b
flag_at (b ∷ bs) (suc k) = flag_at bs k

-- each bit of that number is the flag at its place
abbrev pub FlagsAreRead : Type 0
FlagsAreRead = (flags : List Bool) (k : ℕ) → has_bit (flag_number flags) k ≡ flag_at flags k
