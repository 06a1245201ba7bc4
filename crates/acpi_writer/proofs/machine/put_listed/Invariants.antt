use Rattle.std.proofs.Common.{◌≡◌, ◌+◌, ◌++◌, drop, take, length, map}
use Rattle.acpi_writer.specs.Words.{bytes_by, laid}
use Rattle.acpi_writer.proofs.machine.put_listed.Given as goal

-- what is put, and what is to come
abbrev pub invariant-loop-table : goal.invariant-loop-table
invariant-loop-table g l =
    let rest = map (bytes_by g.T.Listed.written l.ids) (drop l.table-index l.tables) in
    (take l.at l.out ++ laid rest ≡ laid (map (bytes_by g.T.Listed.written l.ids) l.tables))
    × (l.at + length (laid rest) ≡ length l.out) × (length l.out ≡ length l.fn.out)
