-- Which domain each range of memory is in (signature SRAT; ACPI 6.4, section 5.2.16.2).
use Rattle.std.specs.Prelude.{◌≡◌, ℕ, ◌+◌, ◌<◌, ◌≤◌, ◌&&◌, Bool, not, List, ◌∷◌, ◌++◌, length, find, nat_lt, Option, Some, None, Result, Ok, if◌then◌else◌, filter_map, option_map}
use Rattle.acpi_base.specs.FromStd.{AllByRecursion, list_all}
use Rattle.acpi_base.specs.Words.{has_bit, is_left, Memory, range_fits, range_holds, ◌>>=◌, holds, Kind, sdt_kind}
use Rattle.acpi.specs.Types.{AcpiError, SRAT}
use Rattle.acpi.specs.Words.{lookup}
use Rattle.acpi_numa.specs.Answers.{joined}
use Rattle.acpi_numa.specs.Srat.{cut_of, entries_of}
use Rattle.acpi_numa.specs.declared.error.NumaError.{NumaError}
use Rattle.acpi_numa.specs.declared.error.NumaError.TheVariants.{InvalidEntryLength, InvalidMemoryRange}
use Rattle.acpi_numa.specs.declared.srat.affinities.MemoryRange.{MemoryRange}
use Rattle.acpi_numa.specs.declared.srat.entry.SratEntry.{SratEntry}
use Rattle.acpi_numa.specs.declared.srat.entry.SratEntry.TheVariants as kinds
use Rattle.acpi_numa.specs.declared.srat.kinds.MemoryAffinity.{MemoryAffinity}

-- ---- the ranges of a table

-- what an entry contains of a range: Hot Pluggable, that it can be plugged in while the machine runs, and NonVolatile
abbrev pub range_at : MemoryAffinity → MemoryRange
range_at e = record {
  domain = e.domain;
  base = e.base;
  length = e.length;
  is_hot_pluggable = has_bit e.flags 1;  -- Flags, bit 1: Hot Pluggable
  is_non_volatile = has_bit e.flags 2;  -- Flags, bit 2: NonVolatile
}

-- the range of an entry, if it is one of memory, is enabled (Flags, bit 0: Enabled) and has bytes
abbrev pub range_in : SratEntry → Option MemoryRange
range_in (kinds.Memory e) =
    if has_bit e.flags 0 && nat_lt 0 e.length then Some (range_at e) else None
range_in _ = None

-- the ranges of all entries, in order
abbrev pub ranges_of : List ℕ → List MemoryRange
ranges_of table = filter_map range_in (entries_of table)

-- a range ends below 2^64
abbrev pub ends_below : MemoryRange → Bool
ends_below r = range_fits r.base r.length

-- the ranges, if the entries take all bytes of the table and then each range ends below 2^64
abbrev pub affinities_of : List ℕ → Result (List MemoryRange) NumaError
affinities_of table = do
  _ ← holds (not (is_left (cut_of table).1)) InvalidEntryLength
  _ ← holds (list_all ends_below (ranges_of table)) InvalidMemoryRange
  Ok (ranges_of table)

-- how many there are
abbrev pub affinities_count : List ℕ → Result ℕ NumaError
affinities_count table = affinities_of table >>= λ ranges. Ok (length ranges)

-- there is a range
abbrev pub SomeRange : Result (List MemoryRange) NumaError → Type 0
SomeRange (Ok (r ∷ ranges)) = Unit {0}
SomeRange _ = ⊥

-- ---- found in memory

abbrev pub srat_kind : Kind
srat_kind = sdt_kind SRAT 48

-- what the first valid SRAT contains, inside the lookup's own result
abbrev pub found_affinities : Memory → List ℕ → Result (Result (List MemoryRange) NumaError) AcpiError
found_affinities m ps = do
  found ← lookup m srat_kind ps
  Ok (affinities_of found.1)

-- memory is requested only if a SRAT is found that nothing is wrong with and that has a range
abbrev pub AffinitiesAsk : Memory → List ℕ → Type 0
AffinitiesAsk m ps = SomeRange (joined (found_affinities m ps))

-- ---- the domain of an address

-- an address is in a range
abbrev pub LiesIn : MemoryRange → ℕ → Type 0
LiesIn r address = (r.base ≤ address) × (address < r.base + r.length)

-- the ranges are some in which an address isn't, then one in which it is, of this domain, then
-- others
pub record IsFirstWith (ranges : List MemoryRange) (address domain : ℕ) : Type 0 where
  pub before : List MemoryRange
  pub range : MemoryRange
  pub after : List MemoryRange
  pub listed : ranges ≡ before ++ range ∷ after
  pub none_before : AllByRecursion (λ r. LiesIn r address → ⊥) before
  pub lies : LiesIn range address
  pub domain_is : range.domain ≡ domain

-- the domain is that of the first range in which the address is; there is none if it is in none
abbrev pub IsDomainOf : List MemoryRange → ℕ → Option ℕ → Type 0
IsDomainOf ranges address (Some domain) = IsFirstWith ranges address domain
IsDomainOf ranges address None = AllByRecursion (λ r. LiesIn r address → ⊥) ranges

-- computed: whether an address is in a range, and the domain of the first range in which it is
abbrev pub lies_in : ℕ → MemoryRange → Bool
lies_in address r = range_holds r.base r.length address

abbrev pub domain_at : List MemoryRange → ℕ → Option ℕ
domain_at ranges address = option_map (λ r. r.domain) (find (lies_in address) ranges)
