-- The search for the RSDP in areas that a caller passes (ACPI 6.4, section 5.2.5.1).
use Rattle.std.specs.Prelude.{◌≡◌, ℕ, ◌+◌, ◌-◌, ◌*◌, ◌/◌, ◌^◌, ◌<◌, ◌≤◌, ◌&&◌, nat_le, nat_lt, Bool, if◌then◌else◌, List, [], ◌∷◌, ◌++◌, length, drop, Option, Some, None, Result, Ok, Err, ok_or, is_err}
use Rattle.acpi_base.specs.FromStd.{AllByRecursion, option_or}
use Rattle.acpi_base.specs.Words.{part, Memory, Ranges, ◌>>=◌}
use Rattle.acpi.specs.Types.{AcpiError, NoValidRsdp, AddressRange}
use Rattle.acpi.specs.Opened.{Opened, accepted_opened}
use Rattle.acpi.specs.OpenedRanges.{or_else_ranges, root_ranges_of, walk_ranges}
use Rattle.acpi.specs.Rsdp.{accepted_length, accepted_root, accepted_rsdp_at}
use Rattle.acpi.specs.Search.{IsRefused, walk}
use Rattle.acpi_base.specs.Ranges as ranges

-- that many bytes from an address on
abbrev pub range : ℕ → ℕ → AddressRange
range address length = record { address = address; length = length }

-- the first address after an area: at most 2^64
abbrev pub end_of : AddressRange → ℕ
end_of s = if nat_le (s.address + s.length) (2 ^ 64) then s.address + s.length else 2 ^ 64

-- ---- what a search finds

-- a multiple of 16 in the area, with 20 bytes in it
abbrev pub IsCandidateIn : AddressRange → ℕ → Type 0
IsCandidateIn s a = (k : ℕ) × (a ≡ 16 * k) × (s.address ≤ a) × (a + 20 ≤ end_of s)

-- no candidate of an area is valid
abbrev pub NoneIn : ℕ → Memory → AddressRange → Type 0
NoneIn accept m s = (a : ℕ) → IsCandidateIn s a → IsRefused accept m a

-- the areas are some, then this one, then others; it has this valid candidate, and none before that is
-- valid, neither in this area nor in those before
pub record IsFirstIn (accept : ℕ) (m : Memory) (areas : List AddressRange) (found : ℕ × List ℕ) : Type 0 where
  pub before : List AddressRange
  pub area : AddressRange
  pub after : List AddressRange
  pub listed : areas ≡ before ++ area ∷ after
  pub none_before : AllByRecursion (NoneIn accept m) before
  pub candidate : IsCandidateIn area found.0
  pub valid : accepted_rsdp_at accept m found.0 ≡ Ok found.1
  pub least : (a : ℕ) → a < found.0 → IsCandidateIn area a → IsRefused accept m a

-- what a search returned, seen by view, is the first valid candidate, or NoValidRsdp if there is none
abbrev pub IsSearchedIn : {X : Type 0} → ℕ → Memory → List AddressRange → (X → ℕ × List ℕ)
    → Result X AcpiError → Type 0
IsSearchedIn accept m areas view (Ok x) = IsFirstIn accept m areas (view x)
IsSearchedIn accept m areas view (Err e) = (e ≡ NoValidRsdp) × AllByRecursion (NoneIn accept m) areas

-- ---- step by step

-- the first multiple of 16 from the area's start on
abbrev pub first_in : AddressRange → ℕ
first_in s = (s.address + 15) / 16 * 16

-- how many candidates an area has
abbrev pub count_in : AddressRange → ℕ
count_in s = (end_of s - first_in s - 4) / 16

-- the first valid one, if it has one
abbrev pub walk_in : ℕ → Memory → AddressRange → Option (ℕ × List ℕ)
walk_in accept m s = walk accept m (count_in s) (first_in s)

-- that of the first area that has one
abbrev pub found_among : ℕ → Memory → List AddressRange → Option (ℕ × List ℕ)
found_among accept m [] = None
found_among accept m (s ∷ areas) = option_or (walk_in accept m s) (found_among accept m areas)

-- the RSDP that the areas have, or the error. What to believe is `IsSearchedIn`: `Rsdp::search_in` has a clause for
-- each of the two
unfoldable pub accepted_in_areas : ℕ → Memory → List AddressRange → Result (ℕ × List ℕ) AcpiError
accepted_in_areas accept m areas = ok_or (found_among accept m areas) NoValidRsdp

-- no check is given up
abbrev pub found_in_areas : Memory → List AddressRange → Result (ℕ × List ℕ) AcpiError
found_in_areas = accepted_in_areas 0

-- the root table that it leads to
abbrev pub accepted_opened_in_areas : ℕ → Memory → List AddressRange → Result Opened AcpiError
accepted_opened_in_areas accept m areas = do
  found ← accepted_in_areas accept m areas
  accepted_opened accept m (accepted_root accept m found)

abbrev pub opened_in_areas : Memory → List AddressRange → Result Opened AcpiError
opened_in_areas = accepted_opened_in_areas 0

-- bytes contain a candidate's at an offset, and its own checks fail for these
abbrev pub is_refused_in : ℕ → List ℕ → ℕ → Bool
is_refused_in accept b offset =
    nat_le 36 (length (drop offset b)) && is_err (accepted_length accept (part b offset 36))

-- ---- ranges

-- the ranges of `accepted_in_areas`: each candidate's, up to and with the first valid one
abbrev pub areas_ranges : ℕ → Memory → List AddressRange → Ranges
areas_ranges accept m [] = []
areas_ranges accept m (s ∷ areas) =
    walk_ranges accept m (count_in s) (first_in s) ++ or_else_ranges (walk_in accept m s) (areas_ranges accept m areas)

-- the ranges of `accepted_opened_in_areas`
abbrev pub accepted_opened_in_areas_ranges : ℕ → Memory → List AddressRange → Ranges
accepted_opened_in_areas_ranges accept m areas = areas_ranges accept m areas
    ++ ranges.◌>>=◌ (accepted_in_areas accept m areas) (root_ranges_of accept m)

abbrev pub opened_in_areas_ranges : Memory → List AddressRange → Ranges
opened_in_areas_ranges = accepted_opened_in_areas_ranges 0

-- ---- the areas of a BIOS

-- the first 1 KB of the Extended BIOS Data Area (EBDA), as far as it is below 0xa0000; none of it if its address
-- isn't given, or is elsewhere
abbrev pub ebda_area : Option ℕ → AddressRange
ebda_area None = range 0 0
ebda_area (Some a) =
    if nat_le 0x400 a && nat_lt a 0xa0000
    then range a (if nat_le (a + 1024) 0xa0000 then 1024 else 0xa0000 - a)
    else range 0 0

-- that, and then the BIOS read-only memory space, from 0E0000h to 0FFFFFh
abbrev pub bios_areas : Option ℕ → List AddressRange
bios_areas ebda = ebda_area ebda ∷ range 0xe0000 0x20000 ∷ []
