use Rattle.std.proofs.Common.{◌≡◌}
use Rattle.acpi_base.specs.FromStd.{list_any}
use Rattle.acpi_base.specs.Words.{entries_left}
use Rattle.acpi_c_interrupts.specs.Words.{is_of_apics}
use Rattle.acpi_c_interrupts.proofs.apics.describes_apics.Given as goal

-- one of those that are left is of APICs exactly if one of all is
abbrev pub invariant-loop-entry : goal.invariant-loop-entry
invariant-loop-entry l =
    list_any is_of_apics (entries_left l.entry-iterator) ≡ list_any is_of_apics (entries_left l.initial.entry-iterator)
