-- Where the configuration space of a PCI function is, by the base of bus 0 (PCI Firmware
-- Specification, section 4.1.2).
use Rattle.std.specs.Prelude.{◌≡◌, ℕ, ◌+◌, ◌*◌, ◌^◌, List, map, Option, Some, option_and_then}
use Rattle.acpi_base.specs.Words.{ecam_in, ecam_range}
use Rattle.acpi.specs.Types.{McfgEntry, AddressRange, EcamRanges}
use Rattle.acpi.specs.Pci.{pci_address, region_of}

-- a function's address, in the first region of the segment group that holds the bus
abbrev pub ecam_address : List McfgEntry → ℕ → ℕ → ℕ → ℕ → Option ℕ
ecam_address regions segment bus device function =
    option_and_then (ecam_in bus device function) (region_of regions segment bus)

-- by the first bus of the same region the function's address is this one, less the buses before it
abbrev pub IsBeside : List McfgEntry → ℕ → ℕ → ℕ → ℕ → ℕ → Type 0
IsBeside regions segment bus device function address =
    (e : McfgEntry) × (a : ℕ) × (region_of regions segment bus ≡ Some e)
    × (pci_address regions segment bus device function ≡ Some a)
    × (address ≡ a + e.bus_number_start * 2 ^ 20)

-- each region's segment group, and the memory of its buses
abbrev pub spans_of : List McfgEntry → List (ℕ × Option AddressRange)
spans_of regions = map (λ e. (e.pci_segment_group, ecam_range e)) regions

-- those still to come
abbrev pub spans_left : EcamRanges → List (ℕ × Option AddressRange)
spans_left s = spans_of s.regions.now
