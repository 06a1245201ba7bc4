-- What a walk along the MADT's entries shows of what they say.
use Rattle.std.specs.Prelude.{ℕ, ◌+◌, ◌||◌, List, length, false, true, Option, None, Some, option_and_then, Result, Ok, Err, filter_map, option_map}
use Rattle.acpi_base.specs.FromStd.{last_or, list_any, result_err, result_ok}
use Rattle.acpi_bytes.specs.Entries.{cut}
use Rattle.acpi_base.specs.Interrupts.{item_of}
use Rattle.acpi_base.specs.Madt.{entry_of, madt_grammar}
use Rattle.acpi_base.specs.Model.{fault_of, io_apic_in, is_of_apic, local_apic_address_in, nmi_line_in, nmi_source_in, override_in, items_of, processor_in}
use Rattle.acpi_base.specs.Types.{AcpiError, InvalidMadt, MadtError, Counts, MadtItem, MadtItems}

-- what an entry's bytes say, or why it is refused; nothing if its type isn't defined
unfoldable pub item_or_fault_of : List ℕ → Option (Result MadtItem MadtError)
item_or_fault_of e = option_map item_of (entry_of e)

-- what an entry says, if its type is defined and it isn't refused
abbrev pub item_of_entry : List ℕ → Option MadtItem
item_of_entry e = option_and_then result_ok (item_or_fault_of e)

-- why an entry is refused, if its type is defined and it is
abbrev pub fault_of_entry : List ℕ → Option MadtError
fault_of_entry e = option_and_then result_err (item_or_fault_of e)

-- what the entries in which these bytes are cut say, and the refusals
abbrev pub items_or_faults_in : List ℕ → List (Result MadtItem MadtError)
items_or_faults_in bytes = filter_map item_or_fault_of (cut madt_grammar bytes).0

-- how many there are of each, and where the local APICs lie, if these counts have been made and these items come after
-- them
abbrev pub counted_behind : Counts → List MadtItem → Counts
counted_behind c items = record {
  processors = c.processors + length (filter_map (processor_in true) items);
  io_apics = c.io_apics + length (filter_map io_apic_in items);
  overrides = c.overrides + length (filter_map override_in items);
  nmi_sources = c.nmi_sources + length (filter_map nmi_source_in items);
  nmi_lines = c.nmi_lines + length (filter_map nmi_line_in items);
  is_of_apic = c.is_of_apic || list_any is_of_apic items;
  local_apic_address = last_or c.local_apic_address (filter_map local_apic_address_in items);
}

abbrev pub no_counts : Counts
no_counts = record {
  processors = 0;
  io_apics = 0;
  overrides = 0;
  nmi_sources = 0;
  nmi_lines = 0;
  is_of_apic = false;
  local_apic_address = None;
}

abbrev pub counts_of : List MadtItem → Counts
counts_of items = counted_behind no_counts items

-- all counts, or the first refusal
abbrev pub model_counts : List ℕ → Result Counts AcpiError
model_counts table = elim (fault_of table) [
  | Some fault ↦ Err (InvalidMadt fault)
  | None ↦ Ok (counts_of (items_of table))
]

-- the items that are still to come in a walk
abbrev pub items_left : MadtItems → List MadtItem
items_left s = filter_map result_ok (items_or_faults_in s.rest.now)
