-- The 16 ISA interrupts at once, each as the calls for one return it.
use Rattle.std.specs.Prelude.{◌≡◌, ℕ, ◌-◌, ◌<◌, ◌&&◌, nat_le, List, map, replicate, slice_index_or, Option, Some, Result, Ok, Err, if◌then◌else◌, option_map}
use Rattle.acpi_base.specs.FromStd.{range_with_len}
use Rattle.acpi_base.specs.Words.{base_of}
use Rattle.acpi.specs.Types.{IoApic}
use Rattle.acpi_c_lib.specs.Answers.{result_map}
use Rattle.acpi_c_interrupts.specs.Apics.{MadtEntry, apic_entries}
use Rattle.acpi_c_interrupts.specs.Routes.{Interrupt, IoApicPin, is_nearer, isa_below, isa_in, pin_below, pin_in, pin_or}
pub use Rattle.acpi_c_interrupts.specs.declared.apics.records.IsaInterrupts.{IsaInterrupts}
pub use Rattle.acpi_c_interrupts.specs.declared.apics.records.IsaRoute.{IsaRoute}
use Rattle.acpi_c_interrupts.specs.Types.{Refusal, Source}

abbrev pub no_interrupt : Interrupt
no_interrupt = record { global_system_interrupt = 0; polarity = 0; trigger = 0; reserved = replicate 2 0 }

abbrev pub no_pin : IoApicPin
no_pin = record {
  io_apic = record { address = 0; global_system_interrupt_base = 0; id = 0; reserved = replicate 3 0 };
  pin = 0;
}

abbrev pub no_route : IsaRoute
no_route = record { interrupt = no_interrupt; pin = no_pin; present = 0; has_pin = 0; reserved = replicate 2 0 }

-- an interrupt, and the result for its pin
abbrev pub routed : Interrupt → Result IoApicPin Refusal → IsaRoute
routed i (Ok pin) = record { interrupt = i; pin = pin; present = 1; has_pin = 1; reserved = replicate 2 0 }
routed i (Err e) = record { interrupt = i; pin = no_pin; present = 1; has_pin = 0; reserved = replicate 2 0 }

-- the result for an interrupt, and then for its pin
abbrev pub route_by : (ℕ → Result IoApicPin Refusal) → Result Interrupt Refusal → IsaRoute
route_by pin (Ok i) = routed i (pin i.global_system_interrupt)
route_by pin (Err e) = no_route

-- what the calls for one return for this one
abbrev pub isa_route : List MadtEntry → ℕ → IsaRoute
isa_route entries irq = route_by (pin_in entries) (isa_in entries irq)

-- the numbers of the ISA interrupts
unfoldable pub isa_numbers : List ℕ
isa_numbers = range_with_len 0 16

abbrev pub isa_list : List MadtEntry → IsaInterrupts
isa_list entries = record { routes = map (isa_route entries) isa_numbers }

-- the list of the tables that a caller names
abbrev pub isa_list_below : Source → Result IsaInterrupts Refusal
isa_list_below s = result_map isa_list (apic_entries s)

-- the law: each item is what the calls for one return
abbrev pub ItemsAreAnswers : Type 0
ItemsAreAnswers = (s : Source) (list : IsaInterrupts) → isa_list_below s ≡ Ok list
    → (irq : ℕ) → irq < 16
    → slice_index_or list.routes irq no_route ≡ route_by (pin_below s) (isa_below s irq)

-- ---- as far as a walk along the I/O APICs has come

-- the number of an interrupt, if there is one
abbrev pub number_of : Result Interrupt Refusal → ℕ
number_of (Ok i) = i.global_system_interrupt
number_of (Err e) = 0

-- an interrupt, if there is one, that comes to this I/O APIC
abbrev pub route_of : Result Interrupt Refusal → Option IoApic → IsaRoute
route_of (Ok i) found = routed i (pin_or (option_map (λ x. (x, i.global_system_interrupt - base_of x)) found))
route_of (Err e) found = no_route

-- the I/O APIC so far, or this one if it is nearer to the interrupt
abbrev pub nearer_of : ℕ → Option IoApic → IoApic → Option IoApic
nearer_of interrupt found x =
    if nat_le (base_of x) interrupt && is_nearer found x then Some x else found
