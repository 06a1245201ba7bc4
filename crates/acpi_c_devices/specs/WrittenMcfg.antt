-- The MCFG that is written for C, from the records as which it is read.
use Rattle.acpi_c_devices.specs.Types.{McfgEntry, PciRegion}

abbrev pub region_of : PciRegion → McfgEntry
region_of r = record {
  base_address = r.base_address;
  pci_segment_group = r.segment_group;
  bus_number_start = r.first_bus;
  bus_number_end = r.last_bus;
}
