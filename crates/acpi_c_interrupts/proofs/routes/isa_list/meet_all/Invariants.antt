use Rattle.std.proofs.Common.{◌≡◌, ℕ, ◌<◌, ◌≤◌, length, get_or}
use Rattle.acpi_c_interrupts.specs.Words.{no_route}
use Rattle.acpi_c_interrupts.proofs.IsaList.{MeetsAt}
use Rattle.acpi_c_interrupts.proofs.routes.isa_list.meet_all.Given as goal

-- there are 16; the routes before this one have met the I/O APIC, and from it on they are as they were
abbrev pub invariant-loop-irq : goal.invariant-loop-irq
invariant-loop-irq l =
    (length l.routes ≡ 16)
    × ((n : ℕ) → n < l.irq → MeetsAt l.io_apic (get_or l.initial.routes n no_route) (get_or l.routes n no_route))
    × ((n : ℕ) → l.irq ≤ n → get_or l.routes n no_route ≡ get_or l.initial.routes n no_route)
