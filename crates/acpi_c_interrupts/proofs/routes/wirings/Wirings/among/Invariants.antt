use Rattle.std.proofs.Common.{◌≡◌, ◌++◌, ℕ, ◌<◌, List, length, get_or, None, filter_map}
use Rattle.std.specs.Prelude.{◌==◌, filter}
use Rattle.acpi_base.specs.FromStd.{last_or}
use Rattle.acpi.specs.Types.{InterruptSourceOverride}
use Rattle.acpi_base.specs.Words.{IsGathered, entries_left}
use Rattle.acpi_c_interrupts.specs.Words.{isa_override_in, last_override, wirings_of}
use Rattle.acpi_c_interrupts.proofs.routes.wirings.Wirings.among.Given as goal

-- those before are gathered, and with those that are left they are all; of each ISA interrupt the last one that is
-- left, or else the one so far, is the last one of all
abbrev pub invariant-loop-entry : goal.invariant-loop-entry
invariant-loop-entry l =
    (before : List InterruptSourceOverride)
    × (before ++ wirings_of (entries_left l.entry-iterator) ≡ wirings_of (entries_left l.initial.entry-iterator))
    × IsGathered before l.overrides
    × (length l.own ≡ 16)
    × ((irq : ℕ) → irq < 16
    → last_or (get_or l.own irq None) (filter (λ o. o.isa_source == irq)
    (filter_map isa_override_in (entries_left l.entry-iterator)))
    ≡ last_override (entries_left l.initial.entry-iterator) irq)
