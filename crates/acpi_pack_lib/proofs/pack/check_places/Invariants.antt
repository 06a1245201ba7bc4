use Rattle.std.proofs.Common.{◌≡◌, [], drop, take}
use Rattle.acpi_pack_lib.specs.Words.{contents, check_places, regions}
use Rattle.acpi_pack_lib.proofs.pack.check_places.Given as goal

abbrev pub invariant-loop-index : goal.invariant-loop-index
invariant-loop-index l =
    check_places l.index (regions (take l.index l.addresses) (contents (take l.index l.files)))
    (regions (drop l.index l.addresses) (contents (drop l.index l.files)))
    ≡ check_places 0 [] (regions l.addresses (contents l.files))
