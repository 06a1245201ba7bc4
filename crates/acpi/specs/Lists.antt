-- What a list of pointers leads to: headers, streams of AML and faults.
use Rattle.std.specs.Prelude.{ℕ, ◌+◌, ◌-◌, List, [], ◌∷◌, length, filter_map, Result, Ok, Err}
use Rattle.acpi_base.specs.FromStd.{result_ok}
use Rattle.acpi.specs.Types.{AcpiError, SdtHeader, Signature, DSDT, FADT, SSDT, AmlTable, TableFault}
use Rattle.acpi_base.specs.Words.{header_at, Memory, ◌>>=◌, Kind, accepted, sdt_kind, own_table_at, plain_kind, table_at}
use Rattle.acpi_fixed.specs.Words.{dsdt_address_of, fadt_at}
use Rattle.acpi.specs.Lookup.{lookup}
use Rattle.acpi_bytes.specs.declared.error.AcpiError.TheVariants as refusal

-- the header of the table at an address, if the table is valid under the signature that it has
unfoldable pub own_header_at : Memory → ℕ → Result SdtHeader AcpiError
own_header_at m p = do
  table ← own_table_at m p
  Ok (header_at table)

-- the tables of all members that are valid under their own signatures, in order; one that is listed twice comes twice
abbrev pub valid_tables : Memory → List ℕ → List (List ℕ)
valid_tables m ps = filter_map (λ p. result_ok (own_table_at m p)) ps

-- the headers of all members that are valid under their own signatures, in order
abbrev pub valid_headers : Memory → List ℕ → List SdtHeader
valid_headers m ps = filter_map (λ p. result_ok (own_header_at m p)) ps

-- Definition Block: the AML after the 36 bytes of the header of a table (sections 5.2.11.1 and 5.2.11.2)
abbrev pub stream_of : ℕ → List ℕ → AmlTable
stream_of p table = record { address = p + 36; length = length table - 36 }

-- the AML of the table at an address, if the table is valid for a kind
unfoldable pub stream_by : Memory → Kind → ℕ → Result AmlTable AcpiError
stream_by m k p = do
  table ← table_at m k p
  Ok (stream_of p table)

-- that of a signature
abbrev pub stream_at : Memory → Signature → ℕ → Result AmlTable AcpiError
stream_at m s = stream_by m (plain_kind s)

-- the AML of all members that are valid for a kind, in order
abbrev pub streams_by : Memory → Kind → List ℕ → List AmlTable
streams_by m k ps = filter_map (λ p. result_ok (stream_by m k p)) ps

-- the AML of all members that are valid SSDTs, in order
abbrev pub ssdt_streams : Memory → List ℕ → List AmlTable
ssdt_streams m = streams_by m (plain_kind SSDT)

-- a table of another signature is not a fault, and any other refusal is one
abbrev pub with_fault : ℕ → AcpiError → List TableFault → List TableFault
with_fault p (refusal.SdtInvalidSignature s) faults = faults
with_fault p e faults = record { address = p; error = e } ∷ faults

abbrev pub unless_valid : ℕ → Result (List ℕ) AcpiError → List TableFault → List TableFault
unless_valid p (Ok table) faults = []
unless_valid p (Err e) faults = with_fault p e faults

-- the faults of the members before the first valid one, or of all if none is valid, in order
abbrev pub faults_of : Memory → Kind → List ℕ → List TableFault
faults_of m k [] = []
faults_of m k (p ∷ ps) = unless_valid p (table_at m k p) (faults_of m k ps)

-- ---- the DSDT, which the FADT leads to

abbrev pub fadt_kind : Kind
fadt_kind = sdt_kind FADT 116

-- the AML of the DSDT: the first FADT that the bits of `accept` accept, its address of the DSDT, and the table there
abbrev pub accepted_dsdt : ℕ → Memory → List ℕ → Result AmlTable AcpiError
accepted_dsdt accept m ps = do
  found ← lookup m (accepted accept fadt_kind) ps
  address ← dsdt_address_of (fadt_at found.1)
  stream_by m (accepted accept (plain_kind DSDT)) address

-- that of valid tables
abbrev pub dsdt_stream : Memory → List ℕ → Result AmlTable AcpiError
dsdt_stream = accepted_dsdt 0
