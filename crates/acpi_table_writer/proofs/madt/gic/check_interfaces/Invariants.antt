use Rattle.std.proofs.Common.{◌≡◌, drop, map}
use Rattle.acpi_table_writer.specs.Words.{all_checked, interface_checked}
use Rattle.acpi_table_writer.proofs.madt.gic.check_interfaces.Given as goal

abbrev pub invariant-loop-interface : goal.invariant-loop-interface
invariant-loop-interface g l =
    all_checked interface_checked (map g.C.StandsFor.meant (drop l.interface-index l.interfaces))
    ≡ all_checked interface_checked (map g.C.StandsFor.meant l.interfaces)
