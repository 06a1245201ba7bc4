-- How many entries there are at most.
use Rattle.std.proofs.Common.{ℕ, List, arith, ◌-◌, ◌≤◌, length}
use Rattle.acpi_base.specs.Words.{cut_of}
use Rattle.acpi_base.proofs.EntryLists.{cut_of_few}
use Rattle.acpi.proofs.First.{filter_map_few}
use Rattle.acpi_riscv.specs.Words.{entries_of, entry_of}

pub entries_few : (table : List ℕ) → length (entries_of table) ≤ length table - 44
entries_few table = omega (arith, filter_map_few entry_of (cut_of table).0, cut_of_few table)
