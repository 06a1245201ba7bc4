-- Bits of a number, of which bit 0 is the lowest.
use Rattle.std.specs.Prelude.{ℕ, ◌/◌, ◌%◌, ◌^◌, ◌==◌, Bool}

-- the number of `width` bits from bit `low` on
abbrev pub bits_of : ℕ → ℕ → ℕ → ℕ
bits_of n low width = n / 2 ^ low % 2 ^ width

-- whether bit k is set
abbrev pub has_bit : ℕ → ℕ → Bool
has_bit n k = n / 2 ^ k % 2 == 1
