use Rattle.std.proofs.Common.{◌≡◌, ◌*◌, ◌^◌, ◌≤◌, drop, take, All}
use Rattle.acpi_writer.specs.Words.{listed_sized}
use Rattle.acpi_writer.proofs.Sized.{listed_after}
use Rattle.acpi_writer.proofs.machine.listed_size.Given as goal

-- what is to come, after that number of bytes
abbrev pub invariant-loop-table : goal.invariant-loop-table
invariant-loop-table g l =
    (listed_after g.T.Listed.written l.size l.ids (drop l.table-index l.tables)
    ≡ listed_sized g.T.Listed.written l.ids l.tables) × (l.size ≤ l.table-index * 2 ^ 32)
    × All g.T.Listed.fits (take l.table-index l.tables)
