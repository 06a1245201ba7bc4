use Rattle.std.proofs.Common.{◌≡◌, ◌≤◌, IfSome, filter_map}
use Rattle.acpi_base.proofs.Words.{or_nearer}
use Rattle.acpi_base.specs.Words.{base_of, entries_left, nearest}
use Rattle.acpi_c_interrupts.specs.Words.{apic_in}
use Rattle.acpi_c_interrupts.proofs.routes.nearest.Given as goal

-- the nearer one of the one so far and of those that are left is the nearest of all, and
-- the one so far has a base that is at most the interrupt
abbrev pub invariant-loop-entry : goal.invariant-loop-entry
invariant-loop-entry l =
    (or_nearer l.found (nearest l.interrupt (filter_map apic_in (entries_left l.entry-iterator)))
    ≡ nearest l.interrupt (filter_map apic_in (entries_left l.initial.entry-iterator)))
    × IfSome l.found (λ x. base_of x ≤ l.interrupt)
