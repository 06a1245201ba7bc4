use Rattle.std.proofs.Common.{◌≡◌, length, filter_map}
use Rattle.acpi_base.specs.Words.{entries_left, entries_of}
use Rattle.acpi_c_interrupts.specs.Words.{apic_in, isa_in}
use Rattle.acpi_c_interrupts.proofs.IsaList.{Routed}
use Rattle.acpi_c_interrupts.proofs.routes.isa_list.write_routes.Given as goal

-- each interrupt has the nearest of the I/O APICs so far
abbrev pub invariant-loop-entry : goal.invariant-loop-entry
invariant-loop-entry l =
    (length l.routes ≡ 16)
    × Routed (isa_in (entries_of l.table)) l.routes (filter_map apic_in (entries_left l.entry-iterator))
    (filter_map apic_in (entries_left l.initial.entry-iterator))
