-- The regions of PCI configuration space (signature MCFG; ACPI 6.4, section 5.2.6). The layout is that of the PCI
-- Firmware Specification, section 4.1.2.
use Rattle.std.specs.Prelude.{ℕ, ◌/◌, zero, suc, List, [], ◌∷◌, length, drop}
use Rattle.acpi_bytes.specs.Bytes.{field_of}
use Rattle.acpi_bytes.specs.Header.{header_at}
use Rattle.acpi_base.specs.Types.{Mcfg, McfgEntry, McfgEntryIter}

-- the table MCFG, at least 44 bytes
unfoldable pub mcfg_at : List ℕ → Mcfg
mcfg_at b = record { header = header_at b }

-- an entry, at least 16 bytes
abbrev pub mcfg_entry_at : List ℕ → McfgEntry
mcfg_entry_at b = record {
  base_address = field_of b 0 8;  -- Base Address
  pci_segment_group = field_of b 8 2;  -- PCI Segment Group Number
  bus_number_start = field_of b 10 1;  -- Start Bus Number
  bus_number_end = field_of b 11 1;  -- End Bus Number
}

-- that many entries of 16 bytes, one after the other
abbrev pub mcfg_entries_in : ℕ → List ℕ → List McfgEntry
mcfg_entries_in zero bytes = []
mcfg_entries_in (suc n) bytes = mcfg_entry_at bytes ∷ mcfg_entries_in n (drop 16 bytes)

-- as many as there are whole ones
abbrev pub whole_mcfg_entries : List ℕ → List McfgEntry
whole_mcfg_entries bytes = mcfg_entries_in (length bytes / 16) bytes

-- the entries after a table's 44 fixed bytes: the header, and 8 reserved bytes
abbrev pub mcfg_entries_of : List ℕ → List McfgEntry
mcfg_entries_of table = whole_mcfg_entries (drop 44 table)

-- the entries that are still to come
abbrev pub mcfg_entries_left : McfgEntryIter → List McfgEntry
mcfg_entries_left s = whole_mcfg_entries s.rest.now
