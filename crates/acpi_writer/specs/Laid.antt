-- Tables laid one after the other, each filled up with zeros to a multiple of 16.
use Rattle.std.specs.Prelude.{ℕ, ◌+◌, ◌-◌, ◌%◌, List, [], ◌∷◌, ◌++◌, flat_map, length, replicate}

-- how many zeros there are after this number of bytes
abbrev pub gap : ℕ → ℕ
gap n = 15 - (n + 15) % 16

abbrev pub rounded : ℕ → ℕ
rounded n = n + gap n

abbrev pub padded : List ℕ → List ℕ
padded table = table ++ replicate (gap (length table)) 0

abbrev pub laid : List (List ℕ) → List ℕ
laid tables = flat_map padded tables

-- where each is, if the first one is at this address
abbrev pub addresses : ℕ → List (List ℕ) → List ℕ
addresses a [] = []
addresses a (t ∷ ts) = a ∷ addresses (a + length (padded t)) ts
