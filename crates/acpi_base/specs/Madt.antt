-- The entries of the MADT (ACPI 6.4, section 5.2.12).
use Rattle.std.specs.Prelude.{ℕ, List, [], ◌∷◌, map, drop, slice_get, slice_index, Option, Some, None, Result, filter_map, ok_or, option_map}
use Rattle.acpi_bytes.specs.Bytes.{field_of}
use Rattle.acpi_bytes.specs.Header.{header_at}
use Rattle.acpi_base.specs.Types.{AcpiError, InvalidMadt, MadtError, InvalidEntryLength, UnexpectedEntry, Madt, EntryLayout, Grammar, One, MadtEntry}
use Rattle.acpi_bytes.specs.Entries.{cut}
use Rattle.acpi_base.specs.MadtEntries as entries
use Rattle.acpi_base.specs.declared.tables.madt.entry.MadtEntry.TheVariants as variants

-- the types in order, from type 0 on: the least length of an entry, and what its bytes mean
abbrev pub entry_types : List (ℕ × (List ℕ → MadtEntry))
entry_types =
    (8, λ e. variants.LocalApic (entries.local_apic_at e)) ∷
    (12, λ e. variants.IoApic (entries.io_apic_at e)) ∷
    (10, λ e. variants.InterruptSourceOverride (entries.interrupt_source_override_at e)) ∷
    (8, λ e. variants.NmiSource (entries.nmi_source_at e)) ∷
    (6, λ e. variants.LocalApicNmi (entries.local_apic_nmi_at e)) ∷
    (12, λ e. variants.LocalApicAddressOverride (entries.local_apic_address_override_at e)) ∷
    (16, λ e. variants.IoSapic (entries.io_sapic_at e)) ∷
    (16, λ e. variants.LocalSapic (entries.local_sapic_at e)) ∷
    (16, λ e. variants.PlatformInterruptSource (entries.platform_interrupt_source_at e)) ∷
    (16, λ e. variants.LocalX2Apic (entries.local_x2apic_at e)) ∷
    (12, λ e. variants.X2ApicNmi (entries.x2apic_nmi_at e)) ∷
    (76, λ e. variants.Gicc (entries.gicc_at e)) ∷
    (24, λ e. variants.Gicd (entries.gicd_at e)) ∷
    (24, λ e. variants.GicMsiFrame (entries.gic_msi_frame_at e)) ∷
    (16, λ e. variants.GicRedistributor (entries.gic_redistributor_at e)) ∷
    (20, λ e. variants.GicInterruptTranslationService (entries.gic_translation_service_at e)) ∷
    (16, λ e. variants.MultiprocessorWakeup (entries.multiprocessor_wakeup_at e)) ∷ []

-- the least lengths alone
abbrev pub madt_lengths : List ℕ
madt_lengths = map (λ k. k.0) entry_types

-- an entry begins with its type and its length, one byte each
abbrev pub madt_layout : EntryLayout 17
madt_layout = record {
  kind_place = record { at = 0; width = One };  -- Type
  length_place = record { at = 1; width = One };  -- Length
  least_lengths = madt_lengths;
  least_of_others = 2;
}

-- there may be any number of entries
abbrev pub madt_grammar : Grammar 17
madt_grammar = record { layout = madt_layout; most = None }

-- what an entry contains; nothing if its type is after the last one
abbrev pub entry_of : List ℕ → Option MadtEntry
entry_of e = option_map (λ k. k.1 e) (slice_get entry_types (slice_index e 0))

-- the entries (Interrupt Controller Structure[n], from 44 on) after a table's 44 fixed bytes, and the rest in which no
-- entry begins
abbrev pub cut_of : List ℕ → List (List ℕ) × List ℕ
cut_of table = cut madt_grammar (drop 44 table)

-- the entries of known types, in order
abbrev pub entries_of : List ℕ → List MadtEntry
entries_of table = filter_map entry_of (cut_of table).0

-- ---- the table

-- the table MADT, at least 44 bytes: section 5.2.12
unfoldable pub madt_at : List ℕ → Madt
madt_at b = record {
  header = header_at b;
  local_apic_address = field_of b 36 4;  -- Local Interrupt Controller Address
  flags = field_of b 40 4;  -- Flags (Multiple APIC Flags)
}

-- ---- the mailbox

-- MailBoxAddress: the address of a mailbox, if an entry has one
abbrev pub mailbox_in : MadtEntry → Option ℕ
mailbox_in (variants.MultiprocessorWakeup wakeup) = Some wakeup.mailbox_address
mailbox_in _ = None

-- why the entries have no mailbox: they ended before the table did, or there is none
abbrev pub no_mailbox : List ℕ → MadtError
no_mailbox [] = UnexpectedEntry
no_mailbox (b ∷ rest) = InvalidEntryLength

-- the address of the first mailbox
abbrev pub mailbox_of : List ℕ → Result ℕ AcpiError
mailbox_of table =
    let mailboxes = filter_map mailbox_in (entries_of table) in
    ok_or (slice_get mailboxes 0) (InvalidMadt (no_mailbox (cut_of table).1))
