-- A file of memory is its records, one after the other, and nothing else.
use Rattle.std.specs.Prelude.{◌≡◌, ℕ, ◌+◌, ◌^◌, zero, suc, nat_le, nat_lt, Result, Ok, Err, Bool, false, not, ◌&&◌, ◌||◌, List, [], ◌∷◌, ◌++◌, length, take, drop, flat_map}
use Rattle.acpi_base.specs.Words.{spelling, field_of, Memory, Region, IsMemory, lies_in, ◌>>=◌, holds}
use Rattle.acpi_image_reader.specs.declared.error.ImageError.{ImageError}
use Rattle.acpi_image_reader.specs.declared.error.ImageError.TheVariants as refusal

-- a region's record: where it starts and how many bytes it has, in eight bytes each, and its bytes
abbrev pub record_spelling : Region → List ℕ
record_spelling r = spelling 8 r.start ++ (spelling 8 (length r.bytes) ++ r.bytes)

-- the file is the records of these regions, in their order
abbrev pub IsImage : List ℕ → Memory → Type 0
IsImage file regions = file ≡ flat_map record_spelling regions

-- the region whose record the bytes begin with, and the bytes after that record
unfoldable pub record_at : List ℕ → Result (Region × List ℕ) ImageError
record_at bytes = do
  _ ← holds (nat_le 16 (length bytes)) refusal.Truncated
  _ ← holds (nat_le (field_of bytes 8 8) (length (drop 16 bytes))) refusal.Truncated
  _ ← holds (nat_lt (field_of bytes 0 8 + field_of bytes 8 8) (2 ^ 64)) refusal.EndTooLarge
  Ok (
    record { start = field_of bytes 0 8; bytes = take (field_of bytes 8 8) (drop 16 bytes) },
    drop (field_of bytes 8 8) (drop 16 bytes),
  )

-- two regions share a byte: both have some, and one holds the other's start
unfoldable pub share : Region → Region → Bool
share r s =
    nat_lt 0 (length r.bytes)
    && (nat_lt 0 (length s.bytes) && (lies_in r s.start || lies_in s r.start))

abbrev pub shares_any : Memory → Region → Bool
shares_any [] r = false
shares_any (s ∷ m) r = share s r || shares_any m r

-- as `record_at`, if the region shares no byte with an earlier one
unfoldable pub next_at : Memory → List ℕ → Result (Region × List ℕ) ImageError
next_at earlier bytes = do
  found ← record_at bytes
  _ ← holds (not (shares_any earlier found.0)) refusal.Overlap
  Ok found

-- the earlier regions, and then the bytes' regions, at most n
abbrev pub records_from : ℕ → Memory → List ℕ → Result Memory ImageError
records_from zero earlier bytes = Ok earlier
records_from (suc n) earlier [] = Ok earlier
records_from (suc n) earlier (b ∷ bs) = do
  found ← next_at earlier (b ∷ bs)
  records_from n (earlier ++ (found.0 ∷ [])) found.1

-- the regions of a file, which has fewer records than bytes, or the first error in the order of the records. What to
-- believe is `IsImage`: by `MemoryImage::from_bytes` these are the one memory that the file encodes
unfoldable pub records_in : List ℕ → Result Memory ImageError
records_in file = records_from (length file) [] file

-- memory can run out for a record that passed its checks, before any error: the file begins with the records of a
-- memory, of which it is the last
pub record RunsOut (file : List ℕ) : Type 0 where
  pub earlier : Memory
  pub last : Region
  pub rest : List ℕ
  pub front : file ≡ flat_map record_spelling (earlier ++ (last ∷ [])) ++ rest
  pub memory : IsMemory (earlier ++ (last ∷ []))

-- an error is the one that is defined; OutOfMemory comes only if memory can run out
abbrev pub Refuses : {Y : Type 0} → List ℕ → ImageError → Result Y ImageError → Type 0
Refuses file refusal.OutOfMemory expected = RunsOut file
Refuses file refusal.Truncated expected = expected ≡ Err refusal.Truncated
Refuses file refusal.EndTooLarge expected = expected ≡ Err refusal.EndTooLarge
Refuses file refusal.Overlap expected = expected ≡ Err refusal.Overlap

-- what a call returned for a file, seen by view, is the definition's, or OutOfMemory if memory can run out
abbrev pub GivesOrRunsOut : {X Y : Type 0}
    → List ℕ → (X → Y) → Result X ImageError → Result Y ImageError → Type 0
GivesOrRunsOut file view (Ok x) expected = expected ≡ Ok (view x)
GivesOrRunsOut file view (Err e) expected = Refuses file e expected
