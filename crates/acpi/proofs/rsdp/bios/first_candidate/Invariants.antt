use Rattle.std.proofs.Common.{◌≡◌, ◌+◌, ◌-◌, ◌*◌}
use Rattle.acpi_base.specs.Words.{Allows}
use Rattle.acpi.specs.Words.{walk_ranges, count_of, walk}
use Rattle.acpi.proofs.rsdp.bios.first_candidate.Given as goal

abbrev pub invariant-loop-k : goal.invariant-loop-k
invariant-loop-k g l =
    let m = g.H.Lender.memory l.handler in
    (walk l.accept m (count_of l.area - l.k) (l.area.start + 16 * l.k) ≡ walk l.accept m (count_of l.area) l.area.start)
    × Allows (g.H.Lender.may l.handler) (walk_ranges l.accept m (count_of l.area - l.k) (l.area.start + 16 * l.k))
