use Rattle.std.proofs.Common.{◌≡◌, ◌++◌, drop, map, option_map}
use Rattle.acpi_pack_lib.specs.Words.{all_summed, contents}
use Rattle.acpi_pack_lib.proofs.sums.all_summed.Given as goal

abbrev pub invariant-loop-file : goal.invariant-loop-file
invariant-loop-file l =
    map (λ c. option_map (λ b. b.items) c) l.copies.items ++ all_summed (contents (drop l.file-index l.files))
    ≡ all_summed (contents l.files)
