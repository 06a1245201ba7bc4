-- Where the configuration space of a PCI function is.
use Rattle.std.specs.Prelude.{◌≡◌, ℕ, ◌+◌, ◌-◌, ◌*◌, ◌^◌, ◌<◌, ◌==◌, ◌&&◌, Bool, false, List, map, find, nat_le, nat_lt, Option, Some, None, option_and_then, Result, Ok, ◌∷◌, if◌then◌else◌}
use Rattle.acpi_base.specs.FromStd.{range_inclusive_end, range_inclusive_exhausted, range_inclusive_start}
use Rattle.acpi_base.specs.Words.{mcfg_entries_of, Memory, ◌>>=◌, Kind, sdt_kind}
use Rattle.acpi.specs.Types.{AcpiError, McfgEntry, MCFG}
use Rattle.acpi.specs.Lookup.{lookup}
use Rattle.acpi.specs.declared.mcfg.PciConfigEntry.{PciConfigEntry}
use Rattle.acpi.specs.declared.mcfg.PciConfigEntryIterator.{PciConfigEntryIterator}

abbrev pub mcfg_kind : Kind
mcfg_kind = sdt_kind MCFG 44

-- the regions of the first valid MCFG
abbrev pub found_regions : Memory → List ℕ → Result (List McfgEntry) AcpiError
found_regions m ps = do
  found ← lookup m mcfg_kind ps
  Ok (mcfg_entries_of found.1)

-- some region is found
abbrev pub SomeRegion : Result (List McfgEntry) AcpiError → Type 0
SomeRegion (Ok (r ∷ regions)) = Unit {0}
SomeRegion _ = ⊥

-- memory is requested only if an MCFG is found that has regions
abbrev pub RegionsAsk : Memory → List ℕ → Type 0
RegionsAsk m ps = SomeRegion (found_regions m ps)

-- the region is of this segment group and holds this bus
abbrev pub is_of : ℕ → ℕ → McfgEntry → Bool
is_of segment bus e =
    e.pci_segment_group == segment
    && (nat_le e.bus_number_start bus && nat_le bus e.bus_number_end)

-- the first region of this segment group that holds this bus
unfoldable pub region_of : List McfgEntry → ℕ → ℕ → Option McfgEntry
region_of regions segment bus = find (is_of segment bus) regions

-- a function's place in a region: the bus from bit 20 on, the device from bit 15 on, the function from bit 12 on (PCI
-- Firmware Specification, section 4.1.2)
abbrev pub place_in : McfgEntry → ℕ → ℕ → ℕ → ℕ
place_in e bus device function =
    e.base_address + (bus - e.bus_number_start) * 2 ^ 20 + device * 2 ^ 15 + function * 2 ^ 12

-- that place, if it is an address
abbrev pub function_address : ℕ → ℕ → ℕ → McfgEntry → Option ℕ
function_address bus device function e =
    if nat_lt (place_in e bus device function) (2 ^ 64) then Some (place_in e bus device function)
    else None

-- the address of a function, of which a bus has 32 devices of 8. If the sum in the first region that holds the bus is
-- no address, no other region is tried
unfoldable pub pci_address : List McfgEntry → ℕ → ℕ → ℕ → ℕ → Option ℕ
pci_address regions segment bus device function =
    if nat_lt device 32 && nat_lt function 8
    then option_and_then (function_address bus device function) (region_of regions segment bus)
    else None

-- a function of the same region whose address is less than 4096 from this one is this one
abbrev pub IsApart : List McfgEntry → ℕ → ℕ → ℕ → ℕ → ℕ → Type 0
IsApart regions segment bus device function address =
    (b d f a : ℕ) → region_of regions segment b ≡ region_of regions segment bus
    → pci_address regions segment b d f ≡ Some a
    → address < a + 4096 → a < address + 4096
    → (b ≡ bus) × (d ≡ device) × (f ≡ function)

-- the regions still to come
abbrev pub entries_left : PciConfigEntryIterator → List McfgEntry
entries_left s = s.regions.now

-- the region that an item shows, and whether its range of buses is used up
abbrev pub shown_in : PciConfigEntry → McfgEntry × Bool
shown_in item = (
  record {
    base_address = item.physical_address;
    pci_segment_group = item.segment_group;
    bus_number_start = range_inclusive_start item.bus_range;
    bus_number_end = range_inclusive_end item.bus_range;
  },
  range_inclusive_exhausted item.bus_range,
)

-- the items still to come show these, none of them used up
abbrev pub shown_left : PciConfigEntryIterator → List (McfgEntry × Bool)
shown_left s = map (λ e. (e, false)) (entries_left s)
