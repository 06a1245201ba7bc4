-- What the calls return of the tables that a caller names.
use Rattle.std.specs.Prelude.{ℕ, List, replicate, filter_map, length, Option, Result, Ok, unwrap_or}
use Rattle.acpi_base.specs.FromStd.{result_ok}
use Rattle.acpi_base.specs.Words.{filled_part, header_at, Memory, ◌>>=◌, plain_kind, letters_of, accepted, own_accepted, table_at}
pub use Rattle.acpi_bytes.specs.declared.signature.Signature.{Signature}
use Rattle.acpi.specs.Types.{DSDT, SSDT}
use Rattle.acpi_fixed.specs.Words.{dsdt_address_of, fadt_at}
use Rattle.acpi.specs.Words.{Opened, fadt_kind, stream_of, width_of, lookup}
use Rattle.acpi_c_lib.specs.Types.{Root}
use Rattle.acpi_c_lib.specs.Answers.{result_map}
use Rattle.acpi_c_lib.specs.Below.{AcpiError, Refusal, Source, below_source, check_policy, opened_below, refused_as, rsdp_place_in}
use Rattle.acpi_c_lib.specs.Records as records
use Rattle.acpi_c_lib.specs.Regions.{memory_in}
pub use Rattle.acpi_c_lib.specs.declared.records.Table.{Table}

-- ---- the root table

-- the root table, with the RSDP's address and length, or zeros if none pointed to it
abbrev pub root_record : Opened → ℕ × ℕ → Root
root_record o rsdp = record {
  address = o.address;
  length = length o.root;
  revision = o.revision;
  pointer_width = width_of o.kind;
  rsdp_address = rsdp.0;
  rsdp_length = rsdp.1;
  reserved_1 = replicate 2 0;
  reserved_2 = replicate 4 0;
}

abbrev pub root_below : Source → Result Root Refusal
root_below s = opened_below s (λ m o. Ok (root_record o (unwrap_or (rsdp_place_in m s) (0, 0))))

-- ---- tables

-- a table, by its address and its bytes
abbrev pub table_record : ℕ × List ℕ → Table
table_record found = record {
  address = found.0;
  length = (header_at found.1).length;
  signature = record { letters = letters_of (header_at found.1).signature };
  revision = (header_at found.1).revision;
  oem_id = (header_at found.1).oem_id;
  oem_table_id = (header_at found.1).oem_table_id;
  oem_revision = (header_at found.1).oem_revision;
  creator_id = filled_part found.1 28 4;  -- Creator ID
  creator_revision = (header_at found.1).creator_revision;
  reserved_1 = 0;
  reserved_2 = replicate 4 0;
}

-- the table of a member, if it is valid under its own signature
abbrev pub table_in : ℕ → Memory → ℕ → Option Table
table_in accept m p = result_ok (result_map (λ b. table_record (p, b)) (own_accepted accept m p))

-- the tables of all members, in order
abbrev pub tables_in : ℕ → Memory → List ℕ → List Table
tables_in accept m ps = filter_map (table_in accept m) ps

abbrev pub tables_below : Source → Result (List Table) Refusal
tables_below s = below_source s (λ m ps. Ok (tables_in s.accept m ps))

-- the signature of four letters
abbrev pub signature_named : records.Signature → Signature
signature_named name = record { 0 = name.letters }

-- the first valid table of a name
abbrev pub table_below : Source → records.Signature → Result Table Refusal
table_below s name = below_source s (λ m ps. result_map table_record
    (lookup m (accepted s.accept (plain_kind (signature_named name))) ps))

-- the table at an address, if it is valid under its own signature. Where the source starts doesn't count
abbrev pub table_there : Source → ℕ → Result Table Refusal
table_there s address = do
  m ← memory_in s.regions.now
  _ ← check_policy s
  table ← refused_as (own_accepted s.accept m address)
  Ok (table_record (address, table))

-- the AML of a table, by its address and its bytes
abbrev pub aml_record : ℕ × List ℕ → records.AmlTable
aml_record found = record {
  address = (stream_of found.0 found.1).address;
  length = (stream_of found.0 found.1).length;
  revision = (header_at found.1).revision;
  table_address = found.0;
  reserved = replicate 3 0;
}

-- the AML of the table at an address, if it is valid under a signature
abbrev pub aml_at : ℕ → Memory → Signature → ℕ → Result records.AmlTable AcpiError
aml_at accept m s p = result_map (λ b. aml_record (p, b)) (table_at m (accepted accept (plain_kind s)) p)

-- the AML of the DSDT that the first valid FADT points to
abbrev pub dsdt_in : ℕ → Memory → List ℕ → Result records.AmlTable AcpiError
dsdt_in accept m ps = do
  found ← lookup m (accepted accept fadt_kind) ps
  address ← dsdt_address_of (fadt_at found.1)
  aml_at accept m DSDT address

abbrev pub dsdt_below : Source → Result records.AmlTable Refusal
dsdt_below s = below_source s (dsdt_in s.accept)

-- the AML of the SSDT of a member, if it is a valid one
abbrev pub ssdt_in : ℕ → Memory → ℕ → Option records.AmlTable
ssdt_in accept m p = result_ok (aml_at accept m SSDT p)

abbrev pub ssdts_in : ℕ → Memory → List ℕ → List records.AmlTable
ssdts_in accept m ps = filter_map (ssdt_in accept m) ps

abbrev pub ssdts_below : Source → Result (List records.AmlTable) Refusal
ssdts_below s = below_source s (λ m ps. Ok (ssdts_in s.accept m ps))
