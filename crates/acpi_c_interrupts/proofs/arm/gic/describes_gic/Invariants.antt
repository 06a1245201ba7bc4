use Rattle.std.proofs.Common.{◌≡◌}
use Rattle.acpi_c_interrupts.specs.Words.{list_any, entries_left, is_of_gic}
use Rattle.acpi_c_interrupts.proofs.arm.gic.describes_gic.Given as goal

-- one of those that are left is of a GIC exactly if one of all is
abbrev pub invariant-loop-entry : goal.invariant-loop-entry
invariant-loop-entry l =
    list_any is_of_gic (entries_left l.entry-iterator) ≡ list_any is_of_gic (entries_left l.initial.entry-iterator)
