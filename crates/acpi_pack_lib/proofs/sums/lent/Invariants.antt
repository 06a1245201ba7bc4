use Rattle.std.proofs.Common.{◌≡◌, ◌++◌, drop, map, option_map}
use Rattle.acpi_pack_lib.specs.Words.{contents}
use Rattle.acpi_pack_lib.proofs.sums.lent.Given as goal

abbrev pub invariant-loop-copy : goal.invariant-loop-copy
invariant-loop-copy l =
    contents l.files.items ++ map (λ c. option_map (λ b. b.items) c) (drop l.copy-index l.copies)
    ≡ map (λ c. option_map (λ b. b.items) c) l.copies
