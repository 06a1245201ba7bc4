-- The I/O APIC and its pin that a global system interrupt comes to (ACPI 6.4, section 5.2.12.3).
use Rattle.std.specs.Prelude.{◌≡◌, ℕ, ◌+◌, ◌-◌, ◌<◌, ◌≤◌, ◌&&◌, nat_le, List, [], ◌∷◌, ◌++◌, Option, Some, None, if◌then◌else◌, option_map}
use Rattle.acpi_base.specs.FromStd.{AllByRecursion}
use Rattle.acpi_base.specs.Types.{IoApic, IoApicPin}

-- the first interrupt of an I/O APIC
abbrev pub base_of : IoApic → ℕ
base_of x = x.global_system_interrupt_base

-- of an I/O APIC and the nearest one after it, the nearer one; of one base the first
abbrev pub nearer : ℕ → IoApic → Option IoApic → Option IoApic
nearer interrupt x None = if nat_le (base_of x) interrupt then Some x else None
nearer interrupt x (Some y) =
    if nat_le (base_of x) interrupt && nat_le (base_of y) (base_of x) then Some x else Some y

-- the first one of the greatest base that is at most the interrupt
abbrev pub nearest : ℕ → List IoApic → Option IoApic
nearest interrupt [] = None
nearest interrupt (x ∷ more) = nearer interrupt x (nearest interrupt more)

-- with the pin, which is how far the interrupt is above the base
abbrev pub io_apic_for : List IoApic → ℕ → Option (IoApic × ℕ)
io_apic_for io_apics interrupt =
    option_map (λ x. (x, interrupt - base_of x)) (nearest interrupt io_apics)

-- an I/O APIC and a pin
abbrev pub pin_of : IoApicPin → IoApic × ℕ
pin_of p = (p.io_apic.now, p.pin)

-- the base is no nearer than another one
abbrev pub IsNoNearer : ℕ → ℕ → IoApic → Type 0
IsNoNearer interrupt base x = base_of x ≤ interrupt → base_of x ≤ base

-- in the reader's words: the list is some I/O APICs, then this one, then others; the interrupt is at
-- its pin, counted from its base; no base is nearer, and none before it is as near
pub record IsPin (io_apics : List IoApic) (interrupt : ℕ) (x : IoApic) (pin : ℕ) : Type 0 where
  pub before : List IoApic
  pub after : List IoApic
  pub listed : io_apics ≡ before ++ x ∷ after
  pub at_pin : base_of x + pin ≡ interrupt
  pub none_nearer : AllByRecursion (IsNoNearer interrupt (base_of x)) io_apics
  pub none_before : AllByRecursion (λ y. base_of y ≤ interrupt → base_of y < base_of x) before

-- such an I/O APIC and pin, or none if every base is above the interrupt
abbrev pub IsNearest : List IoApic → ℕ → Option (IoApic × ℕ) → Type 0
IsNearest io_apics interrupt (Some found) = IsPin io_apics interrupt found.0 found.1
IsNearest io_apics interrupt None = AllByRecursion (λ x. interrupt < base_of x) io_apics
