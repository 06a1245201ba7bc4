-- The ranges of a memory that answers below a root table depend on: for each definition the ranges
-- that it comes to, in its own shape.
use Rattle.std.specs.Prelude.{ℕ, List, [], ◌∷◌, ◌++◌, drop, flat_map, Result}
use Rattle.acpi.specs.Types.{AcpiError, DSDT, SSDT, RootKind}
use Rattle.acpi_base.specs.Words.{Memory, Allows, Footprint, Ranges, accepted, own_table_ranges, table_ranges, unless_found, Kind, plain_kind, table_at}
use Rattle.acpi_base.specs.Ranges.{◌>>=◌}
use Rattle.acpi_fixed.specs.Words.{dsdt_address_of, fadt_at}
use Rattle.acpi.specs.Lists.{fadt_kind}
use Rattle.acpi.specs.Lookup.{lookup}
use Rattle.acpi.specs.Platform.{madt_kind}
use Rattle.acpi.specs.Root.{accepted_root_at, pointers, root_kind, width_of}
use Rattle.acpi.specs.Tables.{accept_of, kind_of, may_of, memory_of, pointers_of, root_address_of}
use Rattle.acpi.specs.declared.tables.AcpiTables.{AcpiTables}
use Rattle.acpi_bytes.specs.Steps as steps

-- those of `root_at`
abbrev pub root_ranges : Memory → RootKind → ℕ → Ranges
root_ranges m kind address = table_ranges m (root_kind kind) address

-- those of `accepted_root_at`
abbrev pub accepted_root_ranges : ℕ → Memory → RootKind → ℕ → Ranges
accepted_root_ranges accept m kind address = table_ranges m (accepted accept (root_kind kind)) address

-- those of `lookup` and of `faults_of`: each member's, up to and with the first valid one. They are also those of what
-- the HPET, the PCI regions and the mailbox say, by the lookup of their table
abbrev pub lookup_ranges : Memory → Kind → List ℕ → Ranges
lookup_ranges m k [] = []
lookup_ranges m k (p ∷ ps) =
    table_ranges m k p ++ unless_found (table_at m k p) (lookup_ranges m k ps)

-- those of `valid_headers` and of `valid_tables`: each member's, under its own signature
abbrev pub header_ranges : Memory → List ℕ → Ranges
header_ranges m ps = flat_map (own_table_ranges m) ps

-- those of `ssdt_streams`: each member's, as an SSDT
abbrev pub ssdt_ranges : Memory → List ℕ → Ranges
ssdt_ranges m ps = flat_map (table_ranges m (plain_kind SSDT)) ps

-- those of `accepted_dsdt`: the FADT's, and those of the table that it leads to
abbrev pub accepted_dsdt_ranges : ℕ → Memory → List ℕ → Ranges
accepted_dsdt_ranges accept m ps = lookup_ranges m (accepted accept fadt_kind) ps ++ do
  found ← lookup m (accepted accept fadt_kind) ps
  address ← dsdt_address_of (fadt_at found.1)
  table_ranges m (accepted accept (plain_kind DSDT)) address

-- those of `dsdt_stream`
abbrev pub dsdt_ranges : Memory → List ℕ → Ranges
dsdt_ranges = accepted_dsdt_ranges 0

-- those of `platform_of`: the FADT's, and if one is found, the MADT's
abbrev pub platform_ranges : Memory → List ℕ → Ranges
platform_ranges m ps = lookup_ranges m fadt_kind ps ++ do
  _ ← lookup m fadt_kind ps
  lookup_ranges m madt_kind ps

-- ---- from a root table

-- what a definition over pointers says of those below the root table at an address, if that is accepted by these bits
abbrev pub accepted_below : {A : Type 0} → ℕ → Memory → RootKind → ℕ → (List ℕ → Result A AcpiError)
    → Result A AcpiError
accepted_below accept m kind address defined =
    steps.◌>>=◌ (accepted_root_at accept m kind address) (λ root. defined (pointers (width_of kind) (drop 36 root)))

-- if it is valid
abbrev pub below : {A : Type 0} → Memory → RootKind → ℕ → (List ℕ → Result A AcpiError) → Result A AcpiError
below = accepted_below 0

-- the handler of tables may be asked for these ranges of their pointers
abbrev pub AllowsBelow : {H P h p : _} → AcpiTables H P h p → (Memory → List ℕ → Ranges) → Type 0
AllowsBelow t ranges = Allows (may_of t) (ranges (memory_of t) (pointers_of t))

-- what a call says of tables by a definition over their pointers, it says by that definition over every memory that
-- agrees with theirs at the root table's ranges and at these, below the root table of the same kind at the same address
abbrev pub FootprintBelow : {A : Type 0} {H P h p : _} → AcpiTables H P h p
    → (Memory → List ℕ → Ranges) → (Memory → List ℕ → Result A AcpiError)
    → (Result A AcpiError → Type 0) → Type 0
FootprintBelow t ranges defined Says = Footprint (memory_of t)
    (accepted_root_ranges (accept_of t) (memory_of t) (kind_of t) (root_address_of t)
    ++ ranges (memory_of t) (pointers_of t))
    (λ n. accepted_below (accept_of t) n (kind_of t) (root_address_of t) (defined n)) Says
