use Rattle.std.proofs.Common.{◌≡◌, length, map}
use Rattle.acpi_pack_lib.specs.Words.{no_options, options_from}
use Rattle.acpi_pack_lib.proofs.arguments.options_of.Given as goal

abbrev pub invariant-loop-rest : goal.invariant-loop-rest
invariant-loop-rest l = options_from l.options (map (λ w. w.now) l.rest)
    ≡ options_from no_options (map (λ w. w.now) l.words)

abbrev pub decreases-loop-rest : goal.decreases-loop-rest
decreases-loop-rest l = length l.rest
