use Rattle.std.proofs.Common.{◌≡◌, ◌+◌, ◌-◌, ◌*◌, ◌≤◌}
use Rattle.acpi_base.specs.Words.{Allows}
use Rattle.acpi.specs.Words.{walk_ranges, walk}
use Rattle.acpi.proofs.rsdp.areas.first_valid.Given as goal

-- those that are left have the first valid one of all
abbrev pub invariant-loop-passed : goal.invariant-loop-passed
invariant-loop-passed g l =
    let m = g.H.Lender.memory l.handler in
    (l.passed ≤ l.count) × (walk l.accept m (l.count - l.passed) (l.first + 16 * l.passed)
    ≡ walk l.accept m l.count l.first)
    × Allows (g.H.Lender.may l.handler) (walk_ranges l.accept m (l.count - l.passed) (l.first + 16 * l.passed))

abbrev pub decreases-loop-passed : goal.decreases-loop-passed
decreases-loop-passed g l = l.count - l.passed
