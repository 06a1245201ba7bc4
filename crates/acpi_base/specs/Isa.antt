-- How ISA interrupts, and the one of the machine's events, come to the I/O APICs (ACPI 6.4, sections
-- 5.2.9 and 5.2.12.5).
use Rattle.std.specs.Prelude.{◌≡◌, ◌≢◌, ◌==◌, ℕ, Bool, true, false, List, filter, nat_lt, Option, Some, None, if◌then◌else◌}
use Rattle.acpi_base.specs.FromStd.{last_or, list_any}
use Rattle.acpi_base.specs.Types.{InterruptSourceOverride, Polarity, TriggerMode, IsaInterrupt}
use Rattle.acpi_base.specs.declared.model.interrupt.Polarity.TheVariants as polarity
use Rattle.acpi_base.specs.declared.model.interrupt.TriggerMode.TheVariants as trigger

-- the override of a source that counts: the last one
abbrev pub override_for : List InterruptSourceOverride → ℕ → Option InterruptSourceOverride
override_for overrides source = last_or None (filter (λ o. o.isa_source == source) overrides)

-- an override is there, and leads to the interrupt of a number
abbrev pub goes_to : ℕ → Option InterruptSourceOverride → Bool
goes_to number (Some o) = o.global_system_interrupt == number
goes_to number None = false

-- the override of a source leads to the interrupt of a number
abbrev pub leads_to : List InterruptSourceOverride → ℕ → ℕ → Bool
leads_to overrides number source = goes_to number (override_for overrides source)

-- the override of some source leads to the interrupt of a number
abbrev pub is_taken : List InterruptSourceOverride → ℕ → Bool
is_taken overrides number = list_any (λ o. leads_to overrides number o.isa_source) overrides

-- a polarity, if that of the bus is this one
abbrev pub polarity_or : Polarity → Polarity → Polarity
polarity_or bus polarity.SameAsBus = bus
polarity_or bus polarity.ActiveHigh = polarity.ActiveHigh
polarity_or bus polarity.ActiveLow = polarity.ActiveLow

-- a trigger mode, if that of the bus is this one
abbrev pub trigger_mode_or : TriggerMode → TriggerMode → TriggerMode
trigger_mode_or bus trigger.SameAsBus = bus
trigger_mode_or bus trigger.Edge = trigger.Edge
trigger_mode_or bus trigger.Level = trigger.Level

-- the interrupt that an override leads to, on a bus of this polarity and this trigger mode
abbrev pub wired : Polarity → TriggerMode → InterruptSourceOverride → IsaInterrupt
wired polarity trigger_mode o = record {
  global_system_interrupt = o.global_system_interrupt;
  polarity = polarity_or polarity o.polarity;
  trigger_mode = trigger_mode_or trigger_mode o.trigger_mode;
}

-- the interrupt of a number, wired one to one
abbrev pub straight : Polarity → TriggerMode → ℕ → IsaInterrupt
straight polarity trigger_mode number = record {
  global_system_interrupt = number;
  polarity = polarity;
  trigger_mode = trigger_mode;
}

-- one of the 16 ISA interrupts: by its override, else one to one, unless that input is taken. Flags that conform to the
-- bus mean ActiveHigh and Edge
abbrev pub isa_interrupt : List InterruptSourceOverride → ℕ → Option IsaInterrupt
isa_interrupt overrides irq =
    if nat_lt 15 irq then None
    else elim (override_for overrides irq) [
      | Some o ↦ Some (wired polarity.ActiveHigh trigger.Edge o)
      | None ↦
          if is_taken overrides irq then None
          else Some (straight polarity.ActiveHigh trigger.Edge irq)
    ]

-- the one of the machine's events: below 16 by its override, else one to one, also if that input is taken. Flags that
-- conform to the bus mean ActiveLow and Level
abbrev pub sci_interrupt : List InterruptSourceOverride → ℕ → IsaInterrupt
sci_interrupt overrides sci =
    elim (if nat_lt sci 16 then override_for overrides sci else None) [
      | Some o ↦ wired polarity.ActiveLow trigger.Level o
      | None ↦ straight polarity.ActiveLow trigger.Level sci
    ]

-- another ISA interrupt has the same global system interrupt only if overrides of both lead there
abbrev pub SharedByOverrides : List InterruptSourceOverride → ℕ → IsaInterrupt → Type 0
SharedByOverrides overrides irq this =
    (other : ℕ) (that : IsaInterrupt) → other ≢ irq → isa_interrupt overrides other ≡ Some that
    → that.global_system_interrupt ≡ this.global_system_interrupt
    → (leads_to overrides this.global_system_interrupt irq ≡ true)
    × (leads_to overrides this.global_system_interrupt other ≡ true)
