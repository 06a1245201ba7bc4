-- The root tables that are written: the RSDT and the XSDT (ACPI 6.4, sections 5.2.7 and 5.2.8).
use Rattle.std.specs.Prelude.{◌≡◌, ℕ, ◌^◌, ◌<◌, List, drop, flat_map, Result, All}
use Rattle.acpi.specs.Words.{signature_of}
use Rattle.acpi_writer.specs.Types.{pointers, width_of, RootKind, WriterError, TableIds, spelling}
use Rattle.acpi_table_writer.specs.Words.{IsTableOf, IsValid, table_written}

-- after the header: Entry, the addresses in order
abbrev pub root_body : RootKind → List ℕ → List ℕ
root_body kind addresses = flat_map (spelling (width_of kind)) addresses

-- the table, of revision 1, in so much room, or the first error
abbrev pub root_written : RootKind → ℕ → TableIds → List ℕ → Result (List ℕ) WriterError
root_written kind room ids addresses =
    table_written room (signature_of kind) 1 ids (root_body kind addresses)

-- the bytes are the root table of addresses that have a place
pub record IsRoot (kind : RootKind) (ids : TableIds) (addresses table : List ℕ) : Type 0 where
  pub written : IsTableOf (signature_of kind) 1 ids (root_body kind addresses) table
  pub fit : All (λ a. a < 256 ^ width_of kind) addresses

-- such a table is valid
abbrev pub RootIsValid : Type 0
RootIsValid = (kind : RootKind) (ids : TableIds) (addresses table : List ℕ)
    → IsRoot kind ids addresses table → IsValid (signature_of kind) table

-- and its pointers are exactly the addresses that were given, in order
abbrev pub RootIsRead : Type 0
RootIsRead = (kind : RootKind) (ids : TableIds) (addresses table : List ℕ)
    → IsRoot kind ids addresses table → pointers (width_of kind) (drop 36 table) ≡ addresses
