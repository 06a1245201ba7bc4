use Rattle.std.proofs.Common.{◌≡◌, ◌++◌, drop, map, option_copied}
use Rattle.acpi_pack_lib.specs.Reads.{read_of}
use Rattle.acpi_pack_lib.proofs.reading.contents.Given as goal

abbrev pub invariant-loop-reading : goal.invariant-loop-reading
invariant-loop-reading l =
    map option_copied l.contents.items ++ map (λ r. (read_of r).content) (drop l.reading-index l.readings)
    ≡ map (λ r. (read_of r).content) l.readings
