-- The tables of AML that are written (ACPI 6.4, section 5.2.11).
use Rattle.std.specs.Prelude.{◌≡◌, ℕ, ◌==◌, ◌&&◌, Bool, not, List, drop, length, Result, bytes_eq}
use Rattle.acpi_table_writer.specs.Words.{IsTableOf, IsValid, table_written}
use Rattle.acpi_writer.specs.Types.{field_of, filled_part, letters_of, ◌>>=◌, holds, Signature, DSDT, SSDT, WriterError, HasHeader, TableIds}

-- whether bytes are a table, as a compiler of AML writes it, and not the AML after its header: they begin with
-- Signature, and Length, at 4, is how many there are
abbrev pub has_header : Signature → List ℕ → Bool
has_header s bytes = bytes_eq (filled_part bytes 0 4) (letters_of s) && (field_of bytes 4 4 == length bytes)

-- they aren't, or the error
abbrev pub aml_checked : Signature → List ℕ → Result (Unit {0}) WriterError
aml_checked s aml = holds (not (has_header s aml)) HasHeader

-- the table in so much room, or the first error
abbrev pub aml_written : ℕ → Signature → ℕ → TableIds → List ℕ → Result (List ℕ) WriterError
aml_written room s revision ids aml = do
  _ ← aml_checked s aml
  table_written room s revision ids aml

-- a table of AML is valid, and its AML, from 36 on, is what was given
pub record IsAmlOf (s : Signature) (aml table : List ℕ) : Type 0 where
  pub valid : IsValid s table
  pub aml_is : drop 36 table ≡ aml

-- such a DSDT is one
abbrev pub DsdtIsRead : Type 0
DsdtIsRead = (revision : ℕ) (ids : TableIds) (aml table : List ℕ)
    → IsTableOf DSDT revision ids aml table → IsAmlOf DSDT aml table

-- and so is such an SSDT
abbrev pub SsdtIsRead : Type 0
SsdtIsRead = (revision : ℕ) (ids : TableIds) (aml table : List ℕ)
    → IsTableOf SSDT revision ids aml table → IsAmlOf SSDT aml table
