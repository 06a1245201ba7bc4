-- The ranges that the guarded caller requests.
use Rattle.std.specs.Prelude.{ℕ}
use Rattle.acpi_bytes.specs.declared.signature.TheConstants.Signature.{BGRT}
use Rattle.acpi_bytes.specs.Header.{check_table}
use Rattle.acpi_bytes.specs.Memory.{Memory}
use Rattle.acpi_base.specs.Ranges.{Ranges}
use Rattle.acpi_bytes.specs.Table.{kind}
use Rattle.acpi.specs.Footprint.{lookup_ranges}
use Rattle.acpi.specs.OpenedRanges.{root_and_ranges}
use Rattle.acpi.specs.Root.{root_of_revision}

-- the ranges of the RSDT at an address and, if it is opened, of each table that it lists up to the first valid
-- BGRT
abbrev pub graphic_ranges : Memory → ℕ → Ranges
graphic_ranges m rsdt =
    root_and_ranges m (root_of_revision 0 rsdt) (λ m. lookup_ranges m (kind BGRT 56 (check_table BGRT)))
