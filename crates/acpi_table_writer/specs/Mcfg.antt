-- The bytes of an MCFG by its contents. The layout is by the PCI Firmware Specification, section 4.1.2.
use Rattle.std.specs.Prelude.{ℕ, List, [], ◌∷◌, ◌++◌, flat_map, replicate, Result, ◌≡◌, All}
use Rattle.acpi_table_writer.specs.Fields.{fields_bytes, FitsField}
use Rattle.acpi_table_writer.specs.Table.{table_written, IsTableOf, IsValid}
use Rattle.acpi_table_writer.specs.Types.{MCFG, McfgEntry, WriterError, TableIds, mcfg_entries_of, Field, U8, U16, U64, Zeros}

-- a region
unfoldable pub mcfg_fields : McfgEntry → List Field
mcfg_fields e =
    U64 e.base_address ∷ U16 e.pci_segment_group  -- 0: Base Address, 8: PCI Segment Group Number
    ∷ U8 e.bus_number_start ∷ U8 e.bus_number_end ∷ Zeros 4  -- 10: Start Bus Number, 11: End Bus Number, 12: Reserved
    ∷ []

abbrev pub mcfg_entry : McfgEntry → List ℕ
mcfg_entry e = fields_bytes (mcfg_fields e)

-- after the header: at 36 Reserved
abbrev pub mcfg_reserved : List ℕ
mcfg_reserved = replicate 8 0

-- and from 44 on the regions, in order
abbrev pub mcfg_body : List McfgEntry → List ℕ
mcfg_body es = mcfg_reserved ++ flat_map mcfg_entry es

-- the table, of revision 1, in so much room, or the first error
abbrev pub mcfg_written : ℕ → TableIds → List McfgEntry → Result (List ℕ) WriterError
mcfg_written room ids es = table_written room MCFG 1 ids (mcfg_body es)

-- the numbers have a place
abbrev pub FitsMcfg : McfgEntry → Type 0
FitsMcfg e = All FitsField (mcfg_fields e)

-- the bytes are the table of regions whose numbers have a place
pub record IsMcfg (ids : TableIds) (es : List McfgEntry) (table : List ℕ) : Type 0 where
  pub written : IsTableOf MCFG 1 ids (mcfg_body es) table
  pub fit : All FitsMcfg es

-- such a table is valid
abbrev pub McfgIsValid : Type 0
McfgIsValid = (ids : TableIds) (es : List McfgEntry) (table : List ℕ) → IsMcfg ids es table → IsValid MCFG table

-- and its regions are exactly those that were given, in order
abbrev pub McfgIsRead : Type 0
McfgIsRead = (ids : TableIds) (es : List McfgEntry) (table : List ℕ) → IsMcfg ids es table → mcfg_entries_of table ≡ es
