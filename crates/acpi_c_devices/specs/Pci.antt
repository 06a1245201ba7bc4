-- PCI configuration space as C gets it (MCFG; PCI Firmware Specification, section 4.1.2).
use Rattle.std.specs.Prelude.{ℕ, List, length, map, replicate, Result, ok_or, unwrap_or}
use Rattle.acpi_base.specs.FromStd.{is_some}
use Rattle.acpi_base.specs.Words.{ecam_range, mcfg_entries_of, ◌>>=◌}
use Rattle.acpi.specs.Types.{McfgEntry}
use Rattle.acpi.specs.Words.{ecam_address, mcfg_kind}
use Rattle.acpi_c_devices.specs.Types.{EcamRange, PciRegion, NoSuchFunction, Refusal, Source}
use Rattle.acpi_c_lib.specs.Answers.{flag}
use Rattle.acpi_c_lib.specs.Below.{below_first, first_table}

abbrev pub pci_record : McfgEntry → PciRegion
pci_record e = record {
  base_address = e.base_address;
  segment_group = e.pci_segment_group;
  first_bus = e.bus_number_start;
  last_bus = e.bus_number_end;
  reserved = replicate 4 0;
}

abbrev pub pci_regions_below : Source → Result (List PciRegion) Refusal
pci_regions_below s = below_first mcfg_kind s (λ table. map pci_record (mcfg_entries_of table))

-- a segment group and the memory of a region's buses, with its base taken as that of bus 0 (PCI Firmware Specification,
-- section 4.1.2), or zeros
abbrev pub ecam_record : McfgEntry → EcamRange
ecam_record e =
    let range = unwrap_or (ecam_range e) (record { address = 0; length = 0 }) in
    record {
      address = range.address;
      length = range.length;
      segment_group = e.pci_segment_group;
      present = flag (is_some (ecam_range e));
      reserved = replicate 5 0;
    }

-- the memory of each region of the first valid MCFG, in order
abbrev pub ecam_ranges_below : Source → Result (List EcamRange) Refusal
ecam_ranges_below s = below_first mcfg_kind s (λ table. map ecam_record (mcfg_entries_of table))

abbrev pub ecam_below : Source → ℕ → ℕ → ℕ → ℕ → Result ℕ Refusal
ecam_below s segment bus device function = do
  table ← first_table mcfg_kind s
  ok_or (ecam_address (mcfg_entries_of table) segment bus device function) NoSuchFunction
