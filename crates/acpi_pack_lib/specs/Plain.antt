-- Plain memory: the bytes of regions, each at its distance from the first address, with zeros between them.
use Rattle.std.specs.Prelude.{◌≡◌, ◌⊎◌, ℕ, ◌+◌, ◌-◌, ◌^◌, ◌≤◌, nat_le, nat_lt, if◌then◌else◌, List, [], ◌∷◌, ◌++◌, length, take, drop, replicate, Result, Ok, Err}
use Rattle.acpi_base.specs.Words.{Memory, Region, end_of, ◌>>=◌, holds}
use Rattle.acpi_image_reader.specs.Words.{records_in}
use Rattle.acpi_pack_lib.specs.declared.error.Refusal.{Refusal}
use Rattle.acpi_pack_lib.specs.declared.error.Refusal.TheVariants.{OutOfMemory, TooLarge}

-- ---- where they are

-- the least of an address and the starts of regions
abbrev pub first_from : ℕ → Memory → ℕ
first_from address [] = address
first_from address (r ∷ rs) = first_from (if nat_lt r.start address then r.start else address) rs

-- the first address; no region starts above 2^64 - 1
abbrev pub first_in : Memory → ℕ
first_in m = first_from (2 ^ 64 - 1) m

-- the greatest of an address and the ends of regions
abbrev pub end_from : ℕ → Memory → ℕ
end_from address [] = address
end_from address (r ∷ rs) = end_from (if nat_lt address (end_of r) then end_of r else address) rs

-- the address after the last
abbrev pub end_in : Memory → ℕ
end_in m = end_from 0 m

-- ---- their bytes

-- a region is in this number of bytes from an address on
pub record LiesIn (first count : ℕ) (r : Region) : Type 0 where
  pub starts : first ≤ r.start
  pub ends : end_of r ≤ first + count

-- bytes with others in place of the same number at an offset
abbrev pub with_bytes : List ℕ → ℕ → List ℕ → List ℕ
with_bytes bytes offset others = take offset bytes ++ others ++ drop (offset + length others) bytes

-- bytes from an address on, with the bytes of regions put in
abbrev pub with_regions : ℕ → List ℕ → Memory → List ℕ
with_regions first bytes [] = bytes
with_regions first bytes (r ∷ rs) = with_regions first (with_bytes bytes (r.start - first) r.bytes) rs

-- at most 2^30 bytes
abbrev pub most_plain : ℕ
most_plain = 2 ^ 30

unfoldable pub plain_of : Memory → Result (List ℕ) Refusal
plain_of m = do
  _ ← holds (nat_le (end_in m - first_in m) most_plain) TooLarge
  Ok (with_regions (first_in m) (replicate (end_in m - first_in m) 0) m)

-- ---- of an image

-- these bytes are the plain memory of an image
abbrev pub IsPlainOf : List ℕ → List ℕ → Type 0
IsPlainOf image bytes = (m : Memory) × (records_in image ≡ Ok m) × (plain_of m ≡ Ok bytes)

-- an image has no plain memory, with this error, or memory for it runs out
abbrev pub HasNoPlain : List ℕ → Refusal → Type 0
HasNoPlain image e = (e ≡ OutOfMemory) ⊎ ((m : Memory) × (records_in image ≡ Ok m) × (plain_of m ≡ Err e))
