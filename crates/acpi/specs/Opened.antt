-- The root tables that constructors open.
use Rattle.std.specs.Prelude.{ℕ, List, Result, Ok}
use Rattle.acpi.specs.Types.{AcpiError, RootKind, RootPointer}
use Rattle.acpi_base.specs.Words.{Memory, ◌>>=◌}
use Rattle.acpi.specs.Root.{accepted_root_at, root_at, root_of_revision}
use Rattle.acpi.specs.Rsdp.{accepted_root, accepted_rsdp_at}
use Rattle.acpi.specs.Search.{accepted_found_rsdp}
use Rattle.acpi.specs.Tables.{kind_of, revision_of, root_address_of, root_of}
use Rattle.acpi.specs.declared.tables.AcpiTables.{AcpiTables}

-- what tables were opened with: the revision of what named the root table, and that table's kind,
-- address and bytes
pub record Opened : Type 0 where
  pub revision : ℕ
  pub kind : RootKind
  pub address : ℕ
  pub root : List ℕ

abbrev pub opened_of : {H P h p : _} → AcpiTables H P h p → Opened
opened_of t = record {
  revision = revision_of t;
  kind = kind_of t;
  address = root_address_of t;
  root = root_of t;
}

-- by what leads to the root table. Each of these finds that first, and its error is that of the first step that fails
abbrev pub opened_from : Memory → RootPointer → Result Opened AcpiError
opened_from m place = do
  root ← root_at m place.kind place.address
  Ok (record { revision = place.revision; kind = place.kind; address = place.address; root = root })

-- by what leads to the root table, if that is accepted by the bits of `accept`
abbrev pub accepted_opened : ℕ → Memory → RootPointer → Result Opened AcpiError
accepted_opened accept m place = do
  root ← accepted_root_at accept m place.kind place.address
  Ok (record { revision = place.revision; kind = place.kind; address = place.address; root = root })

-- by a revision and the address of the root table
abbrev pub opened_at : Memory → ℕ × ℕ → Result Opened AcpiError
opened_at m given = opened_from m (root_of_revision given.0 given.1)

-- by the RSDP at an address, if it and the root table are accepted
abbrev pub accepted_opened_by_rsdp : ℕ → Memory → ℕ → Result Opened AcpiError
accepted_opened_by_rsdp accept m a = do
  rsdp ← accepted_rsdp_at accept m a
  accepted_opened accept m (accepted_root accept m (a, rsdp))

abbrev pub opened_by_rsdp : Memory → ℕ → Result Opened AcpiError
opened_by_rsdp = accepted_opened_by_rsdp 0

-- by the RSDP that the search of the BIOS areas finds, if the root table is accepted
abbrev pub accepted_opened_by_search : ℕ → Memory → Result Opened AcpiError
accepted_opened_by_search accept m = do
  found ← accepted_found_rsdp accept m
  accepted_opened accept m (accepted_root accept m found)

abbrev pub opened_by_search : Memory → Result Opened AcpiError
opened_by_search = accepted_opened_by_search 0
