-- The ranges of a memory that the RSDP, the search for it and what they lead to depend on.
use Rattle.std.specs.Prelude.{ℕ, zero, suc, ◌+◌, List, [], ◌∷◌, ◌++◌, drop, if◌then◌else◌, Option, Some, None}
use Rattle.acpi_base.specs.Words.{Memory, has_bit, Ranges, unless_found, lent}
use Rattle.acpi_base.specs.Ranges.{◌>>=◌}
use Rattle.acpi.specs.Footprint.{accepted_root_ranges, root_ranges}
use Rattle.acpi.specs.Opened.{opened_from}
use Rattle.acpi.specs.Root.{pointers, width_of}
use Rattle.acpi.specs.Rsdp.{accepted_length, accepted_root, accepted_rsdp_at, check_length, extended_length_of, rsdp_of}
use Rattle.acpi.specs.Search.{count_of, first_area, found_in, accepted_found_rsdp, room_of, second_area, word_in}
use Rattle.acpi.specs.Types.{RootPointer, Rsdp, Area}

-- the ranges of the whole of an RSDP, if it has a length
abbrev pub length_ranges : ℕ → Option ℕ → Ranges
length_ranges a None = []
length_ranges a (Some n) = (a, n) ∷ []

-- those of `accepted_rsdp_at`: the 36 bytes, and as many as Length says, if the checks come to that
abbrev pub accepted_rsdp_ranges : ℕ → Memory → ℕ → Ranges
accepted_rsdp_ranges accept m a = (a, 36) ∷ do
  b ← lent m a 36
  n ← accepted_length accept b
  length_ranges a n

abbrev pub rsdp_ranges : Memory → ℕ → Ranges
rsdp_ranges = accepted_rsdp_ranges 0

-- those of `check_extended`: as many bytes as Length says, if it is long enough
abbrev pub extended_ranges : ℕ → Rsdp → Ranges
extended_ranges a r = do
  n ← check_length (extended_length_of r)
  length_ranges a n

-- those of `accepted_rsdp`
abbrev pub reading_ranges : ℕ → ℕ × List ℕ → Ranges
reading_ranges accept found = if has_bit accept 4 then extended_ranges found.0 (rsdp_of found.1) else []

-- ---- the search

-- those of `walk`: each candidate's, up to and with the first that is accepted
abbrev pub walk_ranges : ℕ → Memory → ℕ → ℕ → Ranges
walk_ranges accept m zero a = []
walk_ranges accept m (suc n) a =
    accepted_rsdp_ranges accept m a ++ unless_found (accepted_rsdp_at accept m a) (walk_ranges accept m n (a + 16))

-- those of `found_in`: the area with the 16 bytes after it, and its candidates' if that is lent
abbrev pub area_ranges : ℕ → Memory → Area → Ranges
area_ranges accept m s = (s.start, room_of s) ∷ do
  _ ← lent m s.start (room_of s)
  walk_ranges accept m (count_of s) s.start

-- ranges that are come to only if nothing is found before
abbrev pub or_else_ranges : {A : Type 0} → Option A → Ranges → Ranges
or_else_ranges (Some found) ranges = []
or_else_ranges None ranges = ranges

-- those of `accepted_found_rsdp`: the word at 40:0Eh of the BIOS data area; if that is lent, the first area's; if that
-- is lent and has no candidate that is accepted, the second's
abbrev pub accepted_search_ranges : ℕ → Memory → Ranges
accepted_search_ranges accept m = (0x40e, 2) ∷ do
  word ← word_in m
  area_ranges accept m first_area ++ do
    first ← found_in accept m first_area
    or_else_ranges first (area_ranges accept m (second_area word))

abbrev pub search_ranges : Memory → Ranges
search_ranges = accepted_search_ranges 0

-- ---- what is opened

-- those of `opened_from`
abbrev pub opened_ranges : Memory → RootPointer → Ranges
opened_ranges m place = root_ranges m place.kind place.address

-- those of `accepted_opened`
abbrev pub accepted_opened_ranges : ℕ → Memory → RootPointer → Ranges
accepted_opened_ranges accept m place = accepted_root_ranges accept m place.kind place.address

-- the ranges of a root table and, if it is opened, of a call below it
abbrev pub root_and_ranges : Memory → RootPointer → (Memory → List ℕ → Ranges) → Ranges
root_and_ranges m place ranges = opened_ranges m place ++ do
  opened ← opened_from m place
  ranges m (pointers (width_of opened.kind) (drop 36 opened.root))

-- those of the root table that an accepted RSDP leads to, as it is read
abbrev pub root_ranges_of : ℕ → Memory → ℕ × List ℕ → Ranges
root_ranges_of accept m found =
    reading_ranges accept found ++ accepted_opened_ranges accept m (accepted_root accept m found)

-- those of `accepted_opened_by_rsdp`: the RSDP's, and if it is accepted, those of the root table
abbrev pub accepted_opened_by_rsdp_ranges : ℕ → Memory → ℕ → Ranges
accepted_opened_by_rsdp_ranges accept m a = accepted_rsdp_ranges accept m a ++ do
  rsdp ← accepted_rsdp_at accept m a
  root_ranges_of accept m (a, rsdp)

abbrev pub opened_by_rsdp_ranges : Memory → ℕ → Ranges
opened_by_rsdp_ranges = accepted_opened_by_rsdp_ranges 0

-- those of `accepted_opened_by_search`
abbrev pub accepted_opened_by_search_ranges : ℕ → Memory → Ranges
accepted_opened_by_search_ranges accept m = accepted_search_ranges accept m ++ do
  found ← accepted_found_rsdp accept m
  root_ranges_of accept m found

abbrev pub opened_by_search_ranges : Memory → Ranges
opened_by_search_ranges = accepted_opened_by_search_ranges 0
