use Rattle.std.proofs.Common.{◌≡◌, find}
use Rattle.acpi_c_devices.specs.Words.{mcfg_entries_left, is_of}
use Rattle.acpi_c_devices.proofs.pci.region_for.Given as goal

abbrev pub invariant-loop-entry : goal.invariant-loop-entry
invariant-loop-entry l = find (is_of l.segment l.bus) (mcfg_entries_left l.entry-iterator)
    ≡ find (is_of l.segment l.bus) (mcfg_entries_left l.initial.entry-iterator)
