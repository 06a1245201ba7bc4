-- Ranges of addresses: a first address, and how many bytes are from it on.
use Rattle.std.specs.Prelude.{ℕ, ◌+◌, ◌^◌, ◌&&◌, Bool, nat_le, nat_lt}

-- the range ends below 2^64: its address and its length add up to at most 2^64 - 1
abbrev pub range_fits : ℕ → ℕ → Bool
range_fits address length = nat_lt (address + length) (2 ^ 64)

-- this address is in the range
abbrev pub range_holds : ℕ → ℕ → ℕ → Bool
range_holds address length other = nat_le address other && nat_lt other (address + length)
