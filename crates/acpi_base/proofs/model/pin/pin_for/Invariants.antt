use Rattle.std.proofs.Common.{◌≡◌, ◌≤◌, drop, IfSome, option_map}
use Rattle.acpi_base.specs.Words.{base_of, nearest}
use Rattle.acpi_base.proofs.Pin.{or_nearer}
use Rattle.acpi_base.proofs.model.pin.pin_for.Given as goal

-- the nearer one of the one so far and of those that are left is the nearest of all
abbrev pub invariant-loop-io_apic : goal.invariant-loop-io_apic
invariant-loop-io_apic l =
    (or_nearer (option_map (λ x. x.now) l.found) (nearest l.interrupt (drop l.io_apic-index l.io_apics))
    ≡ nearest l.interrupt l.io_apics)
    × IfSome l.found (λ x. base_of x.now ≤ l.interrupt)
