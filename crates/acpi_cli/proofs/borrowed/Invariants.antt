use Rattle.std.proofs.Common.{◌≡◌, ◌++◌, drop, map, string_bytes}
use Rattle.acpi_cli.proofs.borrowed.Given as goal

abbrev pub invariant-loop-text : goal.invariant-loop-text
invariant-loop-text l =
    map (λ w. w.now) l.borrowed.items ++ map string_bytes (drop l.text-index l.texts)
    ≡ map string_bytes l.texts
