-- How interrupts come to the I/O APICs, as C gets it.
use Rattle.std.specs.Prelude.{◌≡◌, ℕ, ◌<◌, ◌==◌, Bool, true, nat_lt, List, filter, replicate, Option, Some, None, option_and_then, Result, Ok, Err, if◌then◌else◌, filter_map, ok_or, option_map, slice_index_or}
use Rattle.acpi_base.specs.FromStd.{last_or}
use Rattle.acpi_base.specs.Words.{io_apic_of, isa_interrupt, polarity_code, polarity_for, sci_interrupt, trigger_code, trigger_for, Gathered, IsGathered, Memory, base_of, io_apic_for, ◌>>=◌}
use Rattle.acpi_bytes.specs.declared.error.AcpiError.TheVariants.{InvalidMadt}
use Rattle.acpi_base.specs.declared.model.interrupt.InterruptModel.TheVariants as model
use Rattle.acpi.specs.Types.{InterruptSourceOverride, IoApic, IsaInterrupt, MadtError}
use Rattle.acpi_base.specs.declared.tables.madt.entry.MadtEntry.TheVariants as entry
use Rattle.acpi_fixed.specs.Words.{fadt_at}
use Rattle.acpi.specs.Words.{fadt_kind}
use Rattle.acpi_c_lib.specs.Answers.{result_map}
use Rattle.acpi_c_interrupts.specs.Apics.{MadtEntry, apic_entries, override_in}
use Rattle.acpi_c_lib.specs.Below.{below, first_table, refused_as}
use Rattle.acpi_c_interrupts.specs.Model.{Platform, io_apic_record, platform_model}
use Rattle.acpi_c_interrupts.specs.Records as records
use Rattle.acpi_c_interrupts.specs.WrittenMadt.{override_of}
pub use Rattle.acpi_c_interrupts.specs.declared.apics.records.Interrupt.{Interrupt}
pub use Rattle.acpi_c_interrupts.specs.declared.apics.records.IoApicPin.{IoApicPin}
use Rattle.acpi_c_interrupts.specs.Types.{Refusal, Source, Acpi, NoApics, NoSuchInterrupt, NoSuchIoApic}

-- ---- a machine with APICs, none of whose entries is at fault

-- that a platform has APICs
abbrev pub has_apics : Platform → Result Platform Refusal
has_apics (model.Apic apic, processors) = Ok (model.Apic apic, processors)
has_apics (model.Unknown, processors) = Err NoApics

abbrev pub platform_in : ℕ → Memory → List ℕ → Result Platform Refusal
platform_in accept m ps = do
  platform ← refused_as (platform_model accept m ps)
  has_apics platform

-- the platform that has some, of the tables that a caller names, and what is shown of it
unfoldable pub known_platform : Source → Result Platform Refusal
known_platform s = below s (platform_in s.accept)

abbrev pub below_known : {A : Type 0} → Source → (Platform → A) → Result A Refusal
below_known s show = result_map show (known_platform s)

-- ---- ISA interrupts (section 5.2.12.5)

abbrev pub interrupt_record : IsaInterrupt → Interrupt
interrupt_record i = record {
  global_system_interrupt = i.global_system_interrupt;
  polarity = polarity_code i.polarity;
  trigger = trigger_code i.trigger_mode;
  reserved = replicate 2 0;
}

-- an override, if it is of the ISA bus
abbrev pub on_isa : records.InterruptSourceOverride → Option records.InterruptSourceOverride
on_isa o = if o.bus == 0 then Some o else None

abbrev pub isa_override_in : MadtEntry → Option records.InterruptSourceOverride
isa_override_in e = option_and_then on_isa (override_in e)

-- the last override of a source on the ISA bus
abbrev pub last_override : List MadtEntry → ℕ → Option records.InterruptSourceOverride
last_override entries source =
    last_or None (filter (λ o. o.isa_source == source) (filter_map isa_override_in entries))

-- that of an ISA interrupt; from 16 on there is none
abbrev pub own_override : List MadtEntry → ℕ → Option records.InterruptSourceOverride
own_override entries irq = if nat_lt irq 16 then last_override entries irq else None

-- an error of the MADT's entries is one of the call's
abbrev pub madt_refused : {A : Type 0} → Result A MadtError → Result A Refusal
madt_refused (Ok x) = Ok x
madt_refused (Err e) = Err (Acpi (InvalidMadt e))

-- neither of its codes is reserved
abbrev pub has_codes : Option records.InterruptSourceOverride → Result (Unit {0}) Refusal
has_codes None = Ok tt
has_codes (Some o) = do
  _ ← madt_refused (polarity_for o.polarity)
  _ ← madt_refused (trigger_for o.trigger)
  Ok tt

-- all overrides of the ISA bus; a reserved code is read as that of the bus, and no result shows it
abbrev pub wiring_in : MadtEntry → Option InterruptSourceOverride
wiring_in e = option_map override_of (isa_override_in e)

abbrev pub wirings_of : List MadtEntry → List InterruptSourceOverride
wirings_of entries = filter_map wiring_in entries

-- these are gathered out of the entries: all wirings, and of each ISA interrupt its own override
pub record AreWirings (entries : List MadtEntry) (wirings : Gathered)
    (own : List (Option records.InterruptSourceOverride)) : Type 0 where
  pub gathered : IsGathered (wirings_of entries) wirings
  pub owns : (irq : ℕ) → irq < 16 → slice_index_or own irq None ≡ last_override entries irq

-- an interrupt, or that there is none such
abbrev pub interrupt_or : Option IsaInterrupt → Result Interrupt Refusal
interrupt_or o = do
  found ← ok_or o NoSuchInterrupt
  Ok (interrupt_record found)

-- an ISA interrupt, unless its own override has a reserved code
abbrev pub isa_in : List MadtEntry → ℕ → Result Interrupt Refusal
isa_in entries irq = do
  _ ← has_codes (own_override entries irq)
  interrupt_or (isa_interrupt (wirings_of entries) irq)

abbrev pub isa_below : Source → ℕ → Result Interrupt Refusal
isa_below s irq = do
  entries ← apic_entries s
  isa_in entries irq

-- the interrupt of the machine's events (section 5.2.9), of this number
abbrev pub sci_in : List MadtEntry → ℕ → Result Interrupt Refusal
sci_in entries sci = do
  _ ← has_codes (own_override entries sci)
  Ok (interrupt_record (sci_interrupt (wirings_of entries) sci))

-- by SCI_INT of the first valid FADT
abbrev pub sci_below : Source → Result Interrupt Refusal
sci_below s = do
  entries ← apic_entries s
  fadt ← first_table fadt_kind s
  sci_in entries (fadt_at fadt).sci_interrupt

-- ---- pins (section 5.2.12.3)

abbrev pub apic_in : MadtEntry → Option IoApic
apic_in (entry.IoApic e) = Some (io_apic_of e)
apic_in _ = None

-- whether an I/O APIC is nearer than the one so far
abbrev pub is_nearer : Option IoApic → IoApic → Bool
is_nearer None x = true
is_nearer (Some y) x = nat_lt (base_of y) (base_of x)

-- an I/O APIC and a pin, or that there is none such
abbrev pub pin_or : Option (IoApic × ℕ) → Result IoApicPin Refusal
pin_or o = do
  found ← ok_or o NoSuchIoApic
  Ok (record { io_apic = io_apic_record found.0; pin = found.1 })

-- the I/O APIC that an interrupt comes to, and the pin there
abbrev pub pin_in : List MadtEntry → ℕ → Result IoApicPin Refusal
pin_in entries interrupt = pin_or (io_apic_for (filter_map apic_in entries) interrupt)

abbrev pub pin_below : Source → ℕ → Result IoApicPin Refusal
pin_below s interrupt = do
  entries ← apic_entries s
  pin_in entries interrupt
