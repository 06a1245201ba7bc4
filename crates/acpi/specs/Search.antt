-- The search for the RSDP on systems that boot by a BIOS (ACPI 6.4, section 5.2.5.1).
use Rattle.std.specs.Prelude.{◌≡◌, ◌⊎◌, ℕ, zero, suc, ◌+◌, ◌-◌, ◌*◌, ◌/◌, ◌<◌, ◌≤◌, ◌&&◌, nat_le, nat_lt, if◌then◌else◌, List, Option, Some, None, Result, Ok, Err}
use Rattle.acpi.specs.Types.{AcpiError, MapFailed, NoValidRsdp, PhysicalMapping, Area}
use Rattle.acpi_base.specs.Words.{field_of, start_of, bytes_of, Memory, at, ◌>>=◌, lent}
use Rattle.acpi.specs.Later.{or_later}
use Rattle.acpi.specs.Rsdp.{accepted_rsdp_at}

-- the addresses from start to below end
abbrev pub area : ℕ → ℕ → Area
area start end = record { start = start; end = end }

-- the BIOS read-only memory space, from 0E0000h to 0FFFFFh
abbrev pub first_area : Area
first_area = area 0xe0000 0x100000

-- the first 1 KB of the Extended BIOS Data Area (EBDA), which begins at 16 times the word; if it can't be there, all of
-- the memory that it may be in
abbrev pub second_area : ℕ → Area
second_area word =
    let start = 16 * word in
    if nat_le 0x80000 start && nat_lt start 0x9ffff then area start (start + 1024)
    else area 0x80000 0xa0000

-- ---- what a search finds

-- an RSDP as its address and its 36 bytes
abbrev pub placed : {H T : _} {h t : _} → PhysicalMapping H T h t → ℕ × List ℕ
placed m = (start_of m, bytes_of m)

-- an address in steps of 16 from the area's start, with 20 bytes in the area
abbrev pub IsCandidate : Area → ℕ → Type 0
IsCandidate s a = (k : ℕ) × (a ≡ s.start + 16 * k) × (a + 20 ≤ s.end)

-- no RSDP is accepted there
abbrev pub IsRefused : ℕ → Memory → ℕ → Type 0
IsRefused accept m a = (e : AcpiError) × (accepted_rsdp_at accept m a ≡ Err e)

-- an area is requested with 16 bytes after it
abbrev pub room_of : Area → ℕ
room_of s = s.end - s.start + 16

-- the area is mapped so
abbrev pub IsLent : Memory → Area → Type 0
IsLent m s = (b : List ℕ) × (at m s.start (room_of s) ≡ Some b)

-- the area is mapped, and this is its least valid candidate
pub record IsLeast (accept : ℕ) (m : Memory) (s : Area) (found : ℕ × List ℕ) : Type 0 where
  pub lent : IsLent m s
  pub candidate : IsCandidate s found.0
  pub valid : accepted_rsdp_at accept m found.0 ≡ Ok found.1
  pub least : (a : ℕ) → a < found.0 → IsCandidate s a → IsRefused accept m a

-- the area is mapped, and no candidate is valid
pub record HasNone (accept : ℕ) (m : Memory) (s : Area) : Type 0 where
  pub lent : IsLent m s
  pub refused : (a : ℕ) → IsCandidate s a → IsRefused accept m a

-- the word at 40:0Eh of the BIOS data area is mapped, and this is the second area
abbrev pub IsSecond : Memory → Area → Type 0
IsSecond m s = (b : List ℕ) × (at m 0x40e 2 ≡ Some b) × (s ≡ second_area (field_of b 0 2))

-- the least valid candidate of the first area, or if that has none, of the second
abbrev pub IsFound : ℕ → Memory → ℕ × List ℕ → Type 0
IsFound accept m found =
    (s : Area) × IsSecond m s
    × (IsLeast accept m first_area found ⊎ (HasNone accept m first_area × IsLeast accept m s found))

-- no area has a valid candidate
abbrev pub IsMissing : ℕ → Memory → Type 0
IsMissing accept m = (s : Area) × IsSecond m s × HasNone accept m first_area × HasNone accept m s

-- the word isn't mapped, or the first area, or the second if the first has no valid candidate
abbrev pub IsUnmapped : ℕ → Memory → Type 0
IsUnmapped accept m =
    (at m 0x40e 2 ≡ None)
    ⊎ ((at m first_area.start (room_of first_area) ≡ None)
    ⊎ ((s : Area) × IsSecond m s × HasNone accept m first_area × (at m s.start (room_of s) ≡ None)))

-- what a search returned, seen by view, is the least valid candidate, or the error has its cause
abbrev pub IsSearched : {X : Type 0} → ℕ → Memory → (X → ℕ × List ℕ) → Result X AcpiError → Type 0
IsSearched accept m view (Ok x) = IsFound accept m (view x)
IsSearched accept m view (Err e) = ((e ≡ MapFailed) × IsUnmapped accept m) ⊎ ((e ≡ NoValidRsdp) × IsMissing accept m)

-- ---- step by step

-- how many candidates an area has: one in 16 bytes, as long as 20 bytes are left
abbrev pub count_of : Area → ℕ
count_of s = (s.end - s.start - 4) / 16

-- the first valid of n candidates from an address on
abbrev pub walk : ℕ → Memory → ℕ → ℕ → Option (ℕ × List ℕ)
walk accept m zero a = None
walk accept m (suc n) a = or_later (λ b. Some (a, b)) (accepted_rsdp_at accept m a) (walk accept m n (a + 16))

-- the first valid candidate of an area, if it has one
unfoldable pub found_in : ℕ → Memory → Area → Result (Option (ℕ × List ℕ)) AcpiError
found_in accept m s = do
  _ ← lent m s.start (room_of s)
  Ok (walk accept m (count_of s) s.start)

-- the word at 40:0Eh of the BIOS data area, the segment of the EBDA: it names the second area
unfoldable pub word_in : Memory → Result ℕ AcpiError
word_in m = do
  b ← lent m 0x40e 2
  Ok (field_of b 0 2)

-- what was found, or what comes later if nothing was
abbrev pub or_else : {A E : Type 0} → Option A → Result A E → Result A E
or_else (Some found) later = Ok found
or_else None later = later

-- what the area that is searched last has, or the error
abbrev pub last_in : ℕ → Memory → Area → Result (ℕ × List ℕ) AcpiError
last_in accept m s = do
  found ← found_in accept m s
  or_else found (Err NoValidRsdp)

-- the RSDP that the areas have and the bits of `accept` accept, or the error. What to believe is `IsSearched`:
-- `Rsdp::search_for_on_bios` has a clause for each of the two
unfoldable pub accepted_found_rsdp : ℕ → Memory → Result (ℕ × List ℕ) AcpiError
accepted_found_rsdp accept m = do
  word ← word_in m
  first ← found_in accept m first_area
  or_else first (last_in accept m (second_area word))

-- no check is given up
abbrev pub found_rsdp : Memory → Result (ℕ × List ℕ) AcpiError
found_rsdp = accepted_found_rsdp 0
