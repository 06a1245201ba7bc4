use Rattle.std.proofs.Common.{◌++◌, take}
use Rattle.acpi_base.specs.Words.{Memory}
use Rattle.acpi_image.specs.Words.{IsPlaced, places_of}
use Rattle.acpi_image.proofs.write.places.tables_share.Given as goal

abbrev pub invariant-loop-table : goal.invariant-loop-table
invariant-loop-table g l = (m : Memory) → IsPlaced l.fn.starts m
    → IsPlaced l.starts (m ++ places_of (take l.table-index l.tables))
