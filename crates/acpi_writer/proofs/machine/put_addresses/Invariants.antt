use Rattle.std.proofs.Common.{◌≡◌, ◌*◌, ◌+◌, ◌++◌, drop, take, length, map, flat_map}
use Rattle.acpi_writer.specs.Words.{spelling, bytes_by, addresses, laid}
use Rattle.acpi_writer.proofs.machine.put_addresses.Given as goal

-- what is put, and what is to come
abbrev pub invariant-loop-table : goal.invariant-loop-table
invariant-loop-table g l =
    let rest = map (bytes_by g.T.Listed.written l.ids) (drop l.table-index l.tables) in
    let all = map (bytes_by g.T.Listed.written l.ids) l.tables in
    (take l.at l.out ++ flat_map (spelling 8) (addresses l.place rest) ≡ flat_map (spelling 8) (addresses l.start all))
    × (l.at ≡ 8 * l.table-index) × (length l.out ≡ length l.fn.out)
    × (l.place + length (laid rest) ≡ l.start + length (laid all))
