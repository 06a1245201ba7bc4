-- The ranges of memory that a caller has to map before the calls can read all tables.
use Rattle.std.specs.Prelude.{◌≡◌, ℕ, zero, suc, ◌+◌, ◌*◌, ◌^◌, ◌≤◌, ◌==◌, List, [], ◌∷◌, ◌++◌, drop, filter_map, Bool, Option, Some, None, Result, Ok, Err, if◌then◌else◌, option_map}
use Rattle.acpi_base.specs.FromStd.{cons_option, last_or, is_some, is_ok}
use Rattle.acpi_base.specs.Words.{Memory, at, Ranges, header_at, ◌>>=◌, lent, plain_kind, accepted, own_accepted, table_at}
use Rattle.acpi.specs.Types.{DSDT, MapFailed, AddressRange, Fadt}
use Rattle.acpi_fixed.specs.Words.{dsdt_address_of, fadt_at}
use Rattle.acpi.specs.Words.{accepted_root_at, bios_areas, count_in, first_in, or_later, fadt_kind, Opened, accepted_rsdp_at, accepted_rsdp_ranges, accepted_search_ranges, facs_place, facs_place_ranges, count_of, first_area, room_of, second_area, walk, word_in, lookup}
use Rattle.acpi_c_lib.specs.Below.{AcpiError, Refusal, Source, check_policy, ebda_in, opened_in, pointers_in, root_pointer_in}
use Rattle.acpi_c_lib.specs.Regions.{memory_in}
pub use Rattle.acpi_c_lib.specs.declared.candidates.Areas.{Areas}
use Rattle.acpi_c_lib.specs.Types.{Candidates, Acpi, RootPointer}
pub use Rattle.acpi_c_lib.specs.declared.records.Range.{Range}

abbrev pub range_of : ℕ × ℕ → Range
range_of r = record { address = r.0; length = r.1 }

-- the last of a definition's ranges, which end at the step that fails
abbrev pub last_range : Ranges → Option Range
last_range ranges = option_map range_of (last_or None ranges)

-- the unmapped range because of which a definition fails
abbrev pub missing_range : {A : Type 0} → Result A AcpiError → Ranges → Option Range
missing_range (Err MapFailed) ranges = last_range ranges
missing_range _ ranges = None

-- ---- below a root table

-- the unmapped range of a table: its header, or the bytes of the header's Length (section 5.2.6)
abbrev pub unmapped_range : ℕ → Result (List ℕ) AcpiError → Range
unmapped_range p (Ok head) = range_of (p, (header_at head).length)
unmapped_range p (Err e) = range_of (p, 36)

-- of a table, if that is why it fails
abbrev pub table_missing_range : Memory → ℕ → Result (List ℕ) AcpiError → Option Range
table_missing_range m p (Err MapFailed) = Some (unmapped_range p (lent m p 36))
table_missing_range m p _ = None

-- of a member, under its own signature
abbrev pub member_missing_range : ℕ → Memory → ℕ → Option Range
member_missing_range accept m p = table_missing_range m p (own_accepted accept m p)

-- of the DSDT (section 5.2.11.1) and the FACS (section 5.2.10) that a FADT points to
abbrev pub dsdt_missing_range : ℕ → Memory → Result ℕ AcpiError → Option Range
dsdt_missing_range accept m (Ok p) = table_missing_range m p (table_at m (accepted accept (plain_kind DSDT)) p)
dsdt_missing_range accept m (Err e) = None

abbrev pub dsdt_and_facs_missing_ranges : ℕ → Memory → Result (ℕ × List ℕ) AcpiError → List Range
dsdt_and_facs_missing_ranges accept m (Ok found) =
    let fadt = fadt_at found.1 in
    cons_option (dsdt_missing_range accept m (dsdt_address_of fadt))
    (cons_option (missing_range (facs_place m fadt) (facs_place_ranges m fadt)) [])
dsdt_and_facs_missing_ranges accept m (Err e) = []

-- of the members, in order, and then of what the first FADT that is accepted points to
abbrev pub missing_ranges_below : ℕ → Memory → List ℕ → List Range
missing_ranges_below accept m ps =
    filter_map (member_missing_range accept m) ps
    ++ dsdt_and_facs_missing_ranges accept m (lookup m (accepted accept fadt_kind) ps)

-- ---- of the RSDPs that a search comes to (section 5.2.5.1)

-- the range that a candidate's Length covers, if its first 36 bytes are mapped and that range isn't: the last of its
-- ranges after the first
unfoldable pub candidate_missing_range : ℕ → Memory → ℕ → Option Range
candidate_missing_range accept m a = missing_range (accepted_rsdp_at accept m a)
    (drop 1 (accepted_rsdp_ranges accept m a))

-- the ranges of candidates from an address on, up to the first valid one
unfoldable pub walk_missing_ranges : ℕ → Memory → ℕ → ℕ → List Range
walk_missing_ranges accept m zero a = []
walk_missing_ranges accept m (suc n) a = or_later (λ b. []) (accepted_rsdp_at accept m a)
    (cons_option (candidate_missing_range accept m a)
    (walk_missing_ranges accept m n
    (a + 16)))

-- whether one of them is valid
unfoldable pub has_valid : ℕ → Memory → ℕ → ℕ → Bool
has_valid accept m n a = is_some (walk accept m n a)

-- no area has candidates
abbrev pub no_areas : Areas
no_areas = record { first = record { first = 0; count = 0 }; second = record { first = 0; count = 0 } }

-- the candidates of both areas that are mapped in one piece with 16 bytes after it, if the word that has the second's
-- address is mapped, and so is the first; the second has some if it is mapped so
abbrev pub pieces : Memory → Result ℕ AcpiError → Areas
pieces m (Ok word) =
    let s = second_area word in
    if is_ok (lent m first_area.start (room_of first_area)) then record {
      first = record { first = first_area.start; count = count_of first_area };
      second = record { first = s.start; count = if is_ok (lent m s.start (room_of s)) then count_of s else 0 };
    }
    else no_areas
pieces m (Err e) = no_areas

-- the candidates of an area as far as it is mapped
abbrev pub stretch : AddressRange → Candidates
stretch s = record { first = first_in s; count = count_in s }

abbrev pub stretches : List AddressRange → Areas
stretches (s ∷ t ∷ more) = record { first = stretch s; second = stretch t }
stretches _ = no_areas

-- the candidates of the search that a start is, by its number
abbrev pub areas_of : Memory → Source → Areas
areas_of m s =
    if s.start == 3 then pieces m (word_in m)
    else if s.start == 4 then stretches (bios_areas (ebda_in m))
    else no_areas

-- they are in the first MiB
abbrev pub Fits : Candidates → Type 0
Fits c = c.first + 16 * c.count ≤ 2 ^ 20

-- the ranges of the first area's candidates, and if none is valid there the second's too
abbrev pub areas_missing_ranges : ℕ → Memory → Areas → List Range
areas_missing_ranges accept m a =
    walk_missing_ranges accept m a.first.count a.first.first
    ++ (if has_valid accept m a.first.count a.first.first then []
    else walk_missing_ranges accept m a.second.count a.second.first)

unfoldable pub candidate_missing_ranges : Memory → Source → List Range
candidate_missing_ranges m s = areas_missing_ranges s.accept m (areas_of m s)

-- ---- of the tables that a caller names

-- of the RSDP at an address, or of the search that needs its areas mapped whole, by the number of a start
abbrev pub rsdp_missing_range : Memory → Source → AcpiError → Option Range
rsdp_missing_range m s e =
    if s.start == 0 then missing_range {A = ℕ} (Err e) (accepted_rsdp_ranges s.accept m s.address)
    else if s.start == 3 then missing_range {A = ℕ} (Err e) (accepted_search_ranges s.accept m)
    else None

-- of the root table, or of what is to point to it
abbrev pub root_missing_range : Memory → Source → Result RootPointer Refusal → Option Range
root_missing_range m s (Ok place) = table_missing_range m place.address
    (accepted_root_at s.accept m place.kind place.address)
root_missing_range m s (Err (Acpi e)) = rsdp_missing_range m s e
root_missing_range m s (Err e) = None

abbrev pub opening_missing_range : Memory → Source → Option Range
opening_missing_range m s = root_missing_range m s (root_pointer_in m s)

-- the ranges below the root table, or the one of opening
abbrev pub missing_in : Memory → Source → Result Opened Refusal → Result (List Range) Refusal
missing_in m s (Ok o) = Ok (missing_ranges_below s.accept m (pointers_in o))
missing_in m s (Err (Acpi e)) = Ok (cons_option (opening_missing_range m s) [])
missing_in m s (Err e) = Err e

-- the ranges of a search's candidates, and then the others
abbrev pub missing_below : Source → Result (List Range) Refusal
missing_below s = do
  m ← memory_in s.regions.now
  _ ← check_policy s
  others ← missing_in m s (opened_in m s)
  Ok (candidate_missing_ranges m s ++ others)

-- ---- what the ranges mean

-- there is such a range, and it isn't mapped
abbrev pub IsUnmapped : Memory → Option Range → Type 0
IsUnmapped m (Some r) = at m r.address r.length ≡ None
IsUnmapped m None = ⊥

-- each member that fails because it isn't mapped has a range
abbrev pub MembersLackRanges : Type 0
MembersLackRanges = (accept : ℕ) (m : Memory) (p : ℕ) → own_accepted accept m p ≡ Err MapFailed
    → IsUnmapped m (member_missing_range accept m p)

-- so has a candidate whose first 36 bytes are mapped, and that fails because its Length's aren't
abbrev pub CandidatesLackRanges : Type 0
CandidatesLackRanges = (accept : ℕ) (m : Memory) (a : ℕ) (b : List ℕ) → lent m a 36 ≡ Ok b
    → accepted_rsdp_at accept m a ≡ Err MapFailed
    → IsUnmapped m (candidate_missing_range accept m a)

-- so have the DSDT and the FACS that a FADT points to
abbrev pub DsdtAndFacsLackRanges : Type 0
DsdtAndFacsLackRanges = (accept : ℕ) (m : Memory) (f : Fadt)
    → ((p : ℕ) → dsdt_address_of f ≡ Ok p → table_at m (accepted accept (plain_kind DSDT)) p ≡ Err MapFailed
    → IsUnmapped m (dsdt_missing_range accept m (dsdt_address_of f)))
    × (facs_place m f ≡ Err MapFailed → IsUnmapped m (missing_range (facs_place m f) (facs_place_ranges m f)))

-- opening that fails because something isn't mapped has a range
abbrev pub OpeningLacksRange : Type 0
OpeningLacksRange = (m : Memory) (s : Source) → opened_in m s ≡ Err (Acpi MapFailed)
    → IsUnmapped m (opening_missing_range m s)
