use Rattle.std.proofs.Common.{◌≡◌, ℕ, ◌<◌, length, get_or, None}
use Rattle.acpi_base.specs.Words.{entries_of}
use Rattle.acpi_c_interrupts.specs.Words.{isa_in, no_route, route_of}
use Rattle.acpi_c_interrupts.proofs.routes.isa_list.write_interrupts.Given as goal

-- there are 16; the routes before this one are written
abbrev pub invariant-loop-irq : goal.invariant-loop-irq
invariant-loop-irq l =
    (length l.routes ≡ 16)
    × ((n : ℕ) → n < l.irq → get_or l.routes n no_route ≡ route_of (isa_in (entries_of l.table) n) None)
