use Rattle.std.proofs.Common.{◌≡◌, filter_map}
use Rattle.acpi_base.specs.Model.{local_apic_address_in}
use Rattle.acpi_base.specs.Words.{items_left, last_address}
use Rattle.acpi_c_interrupts.proofs.apics.local_apic.address_in.Given as goal

-- with those that are left it is what it is with all
abbrev pub invariant-loop-item : goal.invariant-loop-item
invariant-loop-item g l =
    last_address l.address (filter_map local_apic_address_in (items_left l.item-iterator))
    ≡ last_address l.initial.address (filter_map local_apic_address_in (items_left l.initial.item-iterator))
