-- The interrupt model: what the entries of the MADT contain together (ACPI 6.4, section 5.2.12).
use Rattle.std.specs.Prelude.{◌≡◌, ℕ, Bool, true, false, List, [], ◌∷◌, Option, Some, None, Result, Ok, Err, IsTrue, if◌then◌else◌, filter_map}
use Rattle.acpi_base.specs.FromStd.{list_any, result_err, result_ok}
use Rattle.acpi_bytes.specs.Bits.{has_bit}
use Rattle.acpi_base.specs.Interrupts.{item_of}
use Rattle.acpi_base.specs.Madt.{cut_of, entries_of, madt_at}
use Rattle.acpi_base.specs.Types.{AcpiError, InvalidMadt, MadtError, InvalidEntryLength, Madt, MadtEntry, Apic, InterruptModel, InterruptSourceOverride, IoApic, NmiLine, NmiSource, MadtItem, Processor, ProcessorInfo, ProcessorState, Disabled, Running, WaitingForSipi}
use Rattle.acpi_base.specs.declared.model.interrupt.InterruptModel.TheVariants as model
use Rattle.acpi_base.specs.declared.model.item.MadtItem.TheVariants as item

-- ---- errors

-- what is wrong with an entry, if something is
abbrev pub fault_in : MadtEntry → Option MadtError
fault_in e = result_err (item_of e)

-- the first error: of an entry, or of the rest in which none begins
abbrev pub first_fault : List MadtError → List ℕ → Option MadtError
first_fault (fault ∷ more) rest = Some fault
first_fault [] (b ∷ rest) = Some InvalidEntryLength
first_fault [] [] = None

abbrev pub fault_of : List ℕ → Option MadtError
fault_of table = first_fault (filter_map fault_in (entries_of table)) (cut_of table).1

-- ---- what the entries contain

-- what an entry contains, if nothing is wrong with it
abbrev pub item_in : MadtEntry → Option MadtItem
item_in e = result_ok (item_of e)

abbrev pub items_of : List ℕ → List MadtItem
items_of table = filter_map item_in (entries_of table)

abbrev pub io_apic_in : MadtItem → Option IoApic
io_apic_in (item.IoApic x) = Some x
io_apic_in _ = None

abbrev pub override_in : MadtItem → Option InterruptSourceOverride
override_in (item.Override x) = Some x
override_in _ = None

abbrev pub nmi_source_in : MadtItem → Option NmiSource
nmi_source_in (item.NmiSource x) = Some x
nmi_source_in _ = None

abbrev pub nmi_line_in : MadtItem → Option NmiLine
nmi_line_in (item.NmiLine x) = Some x
nmi_line_in _ = None

abbrev pub local_apic_address_in : MadtItem → Option ℕ
local_apic_address_in (item.LocalApicAddress x) = Some x
local_apic_address_in _ = None

-- what a processor does: an application processor waits, the boot processor runs
abbrev pub state_of : Bool → Bool → ProcessorState
state_of is_ap is_enabled =
    if is_enabled then (if is_ap then WaitingForSipi else Running) else Disabled

-- a processor, as an application processor or as the boot processor
abbrev pub processor_in : Bool → MadtItem → Option Processor
processor_in is_ap (item.Processor uid id is_enabled) = Some (record {
  processor_uid = uid;
  local_apic_id = id;
  state = state_of is_ap is_enabled;
  is_ap = is_ap;
})
processor_in is_ap _ = None

-- whether it belongs to a model of APICs
abbrev pub is_of_apic : MadtItem → Bool
is_of_apic item.Wakeup = false
is_of_apic _ = true

-- ---- the model

-- the last address, or else this one
abbrev pub last_address : ℕ → List ℕ → ℕ
last_address address [] = address
last_address address (x ∷ more) = last_address x more

-- what the table and its entries contain of APICs: each list has the items of one sort, in order, and the address of
-- the local APICs is the last override's, or else the table's
abbrev pub apic_of : {A : Type 0} → Madt → List MadtItem → Apic A
apic_of madt items = record {
  local_apic_address = last_address madt.local_apic_address (filter_map local_apic_address_in items);
  io_apics = filter_map io_apic_in items;
  local_apic_nmi_lines = filter_map nmi_line_in items;
  interrupt_source_overrides = filter_map override_in items;
  nmi_sources = filter_map nmi_source_in items;
  also_has_legacy_pics = has_bit madt.flags 0;  -- Flags (Multiple APIC Flags), bit 0: PCAT_COMPAT
}

-- of the processors' entries the first is the boot processor, and the others come after it
abbrev pub processors_of : {A : Type 0} → List MadtItem → Option (ProcessorInfo A)
processors_of [] = None
processors_of (x ∷ items) = elim (processor_in false x) [
  | Some boot ↦ Some (record {
    boot_processor = boot;
    application_processors = filter_map (processor_in true) items;
  })
  | None ↦ processors_of items
]

-- the model, and the processors; A is the allocator, which neither contains
abbrev pub Model : Type 0 → Type 0
Model A = InterruptModel A × Option (ProcessorInfo A)

-- the model of a table that has APICs
abbrev pub gathered : {A : Type 0} → Madt → List MadtItem → Model A
gathered madt items = (model.Apic (apic_of madt items), processors_of items)

-- a model of APICs if an entry is of them, else nothing is known
abbrev pub model_from : {A : Type 0} → Madt → List MadtItem → Model A
model_from madt items =
    if list_any is_of_apic items then gathered madt items else (model.Unknown, None)

-- the model of a table whose first fields mean this, or the first error
abbrev pub model_with : {A : Type 0} → Madt → List ℕ → Result (Model A) AcpiError
model_with madt table = elim (fault_of table) [
  | Some fault ↦ Err (InvalidMadt fault)
  | None ↦ Ok (model_from madt (items_of table))
]

-- the model of a table, or InvalidMadt with the first fault
abbrev pub model_of : {A : Type 0} → List ℕ → Result (Model A) AcpiError
model_of table = model_with (madt_at table) table

-- ---- out of memory

-- memory is requested only if nothing is wrong with an entry, and one is of a model of APICs
abbrev pub AsksMemory : List ℕ → Type 0
AsksMemory table = (fault_of table ≡ None) × IsTrue (list_any is_of_apic (items_of table))
