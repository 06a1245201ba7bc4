use Rattle.std.proofs.Common.{◌≡◌, ◌+◌, length, vec_capacity, vec_len}
use Rattle.acpi_base.specs.Words.{mcfg_entries_left}
use Rattle.acpi.proofs.mcfg.collected.Given as goal

-- what is kept is what came, and there is room for just what is left
abbrev pub invariant-loop-entry : goal.invariant-loop-entry
invariant-loop-entry g l =
    (l.regions.items ≡ l.yielded) × (vec_len l.regions + length (mcfg_entries_left l.entry-iterator)
    ≡ vec_capacity l.regions)
