-- The header that every table begins with, DESCRIPTION_HEADER, and its checks (ACPI 6.4, section 5.2.6).
use Rattle.std.specs.Prelude.{ℕ, ◌&&◌, ◌==◌, List, take, length, nat_le, Result, bytes_eq}
use Rattle.acpi_bytes.specs.FromStd.{is_utf8}
use Rattle.acpi_bytes.specs.Types.{AcpiError, SdtInvalidSignature, SdtInvalidOemId, SdtInvalidTableId, SdtInvalidChecksum, SdtInvalidLength, Signature, SdtHeader}
use Rattle.acpi_bytes.specs.Bytes.{field_of, part, sum_of}
use Rattle.acpi_bytes.specs.Steps.{◌>>=◌, holds}

-- the header that the bytes begin with
unfoldable pub header_at : List ℕ → SdtHeader
header_at b = record {
  signature = record { 0 = part b 0 4 };  -- Signature
  length = field_of b 4 4;  -- Length
  revision = field_of b 8 1;  -- Revision
  checksum = field_of b 9 1;  -- Checksum
  oem_id = part b 10 6;  -- OEMID
  oem_table_id = part b 16 8;  -- OEM Table ID
  oem_revision = field_of b 24 4;  -- OEM Revision
  creator_id = field_of b 28 4;  -- Creator ID
  creator_revision = field_of b 32 4;  -- Creator Revision
}

-- the signature is this one and a text
abbrev pub check_signature : Signature → SdtHeader → Result (Unit {0}) AcpiError
check_signature s h = holds (bytes_eq h.signature.0 s.0 && is_utf8 h.signature.0) (SdtInvalidSignature s)

-- both ids are texts
abbrev pub check_ids : Signature → SdtHeader → Result (Unit {0}) AcpiError
check_ids s h = do
  _ ← holds (is_utf8 h.oem_id) (SdtInvalidOemId s)
  holds (is_utf8 h.oem_table_id) (SdtInvalidTableId s)

-- the names are as a table of this signature has to have them
unfoldable pub check_names : Signature → SdtHeader → Result (Unit {0}) AcpiError
check_names s h = do
  _ ← check_signature s h
  check_ids s h

-- what `SdtHeader::validate` returns: the names, then Length, which is at 4, then the sum of that many bytes
unfoldable pub check_table : Signature → List ℕ → Result (Unit {0}) AcpiError
check_table s b = do
  _ ← check_names s (header_at b)
  _ ← holds (nat_le 36 (field_of b 4 4) && nat_le (field_of b 4 4) (length b)) (SdtInvalidLength s)
  holds (sum_of (take (field_of b 4 4) b) == 0) (SdtInvalidChecksum s)
