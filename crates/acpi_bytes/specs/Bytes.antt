-- Numbers and sums of bytes. Numbers in ACPI's tables are little-endian (ACPI 6.4, section 5.2).
use Rattle.std.specs.Prelude.{ℕ, ◌+◌, ◌-◌, ◌*◌, ◌/◌, ◌%◌, ◌<◌, zero, suc, List, [], ◌∷◌, ◌++◌, length, take, drop, replicate, sum, slice_index}

-- each is a byte
abbrev pub IsBytes : List ℕ → Type 0
IsBytes bytes = (i : ℕ) → slice_index bytes i < 256

-- the number that the bytes encode, the lowest byte first
abbrev pub number : List ℕ → ℕ
number [] = 0
number (b ∷ bs) = b + 256 * number bs

-- a number in that many bytes, the lowest byte first
unfoldable pub spelling : ℕ → ℕ → List ℕ
spelling zero n = []
spelling (suc width) n = n % 256 ∷ spelling width (n / 256)

-- the n bytes at an offset, or as many of them as there are
abbrev pub part : List ℕ → ℕ → ℕ → List ℕ
part bytes offset n = take n (drop offset bytes)

-- the n bytes at an offset, filled up with zeros if the bytes end before
abbrev pub filled_part : List ℕ → ℕ → ℕ → List ℕ
filled_part bytes offset n = part bytes offset n ++ replicate (n - length (part bytes offset n)) 0

-- the number of the n bytes at an offset: a byte past the end adds nothing, as a zero would (law `FieldPastEnd`)
unfoldable pub field_of : List ℕ → ℕ → ℕ → ℕ
field_of bytes offset n = number (part bytes offset n)

-- the sum of the bytes modulo 256
unfoldable pub sum_of : List ℕ → ℕ
sum_of bytes = sum bytes % 256
