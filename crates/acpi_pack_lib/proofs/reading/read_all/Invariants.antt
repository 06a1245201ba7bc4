use Rattle.std.proofs.Common.{drop, map}
use Rattle.acpi_pack_lib.specs.Reads.{AsksUntil}
use Rattle.acpi_pack_lib.proofs.reading.read_all.Given as goal

-- the names still to come are left
abbrev pub invariant-loop-name : goal.invariant-loop-name
invariant-loop-name g l =
    AsksUntil (map (λ n. n.now) (drop l.name-index l.names)) (map (λ n. n.now) l.names)
    (g.F.Files.asked l.fn.files) (g.F.Files.asked l.files)
