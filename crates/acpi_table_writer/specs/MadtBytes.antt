-- The bytes of a MADT with given contents (ACPI 6.4, section 5.2.12).
use Rattle.std.specs.Prelude.{ℕ, ◌+◌, ◌*◌, ◌^◌, ◌&&◌, Bool, true, false, not, if◌then◌else◌, List, [], ◌∷◌, ◌++◌, flat_map, nat_lt, Option, Some, None, Result}
use Rattle.acpi_base.specs.FromStd.{list_all}
use Rattle.acpi_base.specs.Words.{all_apics, line_code, polarity_code, trigger_code, ◌>>=◌, holds}
use Rattle.acpi.specs.Types.{MADT, InterruptSourceOverride, IoApic, NmiProcessor, NmiSource, Polarity, TriggerMode}
use Rattle.acpi_base.specs.declared.model.interrupt.NmiProcessor.TheVariants as nmi
use Rattle.acpi_table_writer.specs.Fields.{fields_bytes}
use Rattle.acpi_table_writer.specs.Spelled.{items_of}
use Rattle.acpi_table_writer.specs.Table.{bit_of, table_written}
use Rattle.acpi_table_writer.specs.Types.{WriterError, IdOfAll, NoProcessor, UidOfAll, TableIds, MadtContents, MadtNmiLine, MadtProcessor}
use Rattle.acpi_table_writer.specs.declared.fields.Field.{Field}
use Rattle.acpi_table_writer.specs.declared.fields.Field.TheVariants.{U8, U16, U32, U64, Zeros}
use Rattle.acpi_table_writer.specs.declared.madt.MadtContents as declared

-- ---- entries

-- Local APIC Flags: bit 0 is Enabled, bit 1 Online Capable
abbrev pub processor_flags : MadtProcessor → ℕ
processor_flags p = bit_of p.is_enabled + 2 * bit_of p.is_online_capable

-- Processor Local APIC (section 5.2.12.2)
unfoldable pub local_apic_fields : MadtProcessor → List Field
local_apic_fields p =
    U8 0 ∷ U8 8 ∷ U8 p.processor_uid ∷ U8 p.local_apic_id  -- 0: Type, 1: Length, 2: ACPI Processor UID, 3: APIC ID
    ∷ U32 (processor_flags p) ∷ Zeros 0  -- 4: Flags
    ∷ []

-- Processor Local x2APIC (section 5.2.12.12)
unfoldable pub local_x2apic_fields : MadtProcessor → List Field
local_x2apic_fields p =
    U8 9 ∷ U8 16 ∷ Zeros 2 ∷ U32 p.local_apic_id  -- 0: Type, 1: Length, 2: Reserved, 4: X2APIC ID
    ∷ U32 (processor_flags p) ∷ U32 p.processor_uid  -- 8: Flags, 12: ACPI Processor UID
    ∷ []

-- it isn't to be the second, and the ids have a place in the first, in which 255 means all
abbrev pub is_small : MadtProcessor → Bool
is_small p = not p.is_x2apic && (nat_lt p.processor_uid 255 && nat_lt p.local_apic_id 255)

abbrev pub processor_fields : MadtProcessor → List Field
processor_fields p = if is_small p then local_apic_fields p else local_x2apic_fields p

abbrev pub processor_entry : MadtProcessor → List ℕ
processor_entry p = fields_bytes (processor_fields p)

-- Local APIC Address Override (section 5.2.12.8)
unfoldable pub override_address_fields : ℕ → List Field
override_address_fields a =
    U8 5 ∷ U8 12 ∷ Zeros 2 ∷ U64 a  -- 0: Type, 1: Length, 2: Reserved, 4: Local APIC Address
    ∷ []

-- only if the table's own field has no place for the address
abbrev pub address_fields : ℕ → List Field
address_fields a = if nat_lt a (2 ^ 32) then [] else override_address_fields a

abbrev pub address_entries : ℕ → List ℕ
address_entries a = fields_bytes (address_fields a)

-- I/O APIC (section 5.2.12.3)
unfoldable pub io_apic_fields : IoApic → List Field
io_apic_fields x =
    U8 1 ∷ U8 12 ∷ U8 x.id ∷ Zeros 1  -- 0: Type, 1: Length, 2: I/O APIC ID, 3: Reserved
    ∷ U32 x.address ∷ U32 x.global_system_interrupt_base  -- 4: I/O APIC Address, 8: Global System Interrupt Base
    ∷ []

abbrev pub io_apic_entry : IoApic → List ℕ
io_apic_entry x = fields_bytes (io_apic_fields x)

-- MPS INTI Flags: the lower byte; the higher one is 0
abbrev pub inti_flags : Polarity → TriggerMode → ℕ
inti_flags p t = polarity_code p + 4 * trigger_code t

-- Interrupt Source Override (section 5.2.12.5)
unfoldable pub override_fields : InterruptSourceOverride → List Field
override_fields x =
    U8 2 ∷ U8 10 ∷ U8 0 ∷ U8 x.isa_source  -- 0: Type, 1: Length, 2: Bus, 3: Source
    ∷ U32 x.global_system_interrupt  -- 4: Global System Interrupt
    ∷ U16 (inti_flags x.polarity x.trigger_mode)  -- 8: Flags
    ∷ []

abbrev pub override_entry : InterruptSourceOverride → List ℕ
override_entry x = fields_bytes (override_fields x)

-- NMI Source (section 5.2.12.6)
unfoldable pub nmi_source_fields : NmiSource → List Field
nmi_source_fields x =
    U8 3 ∷ U8 8 ∷ U16 (inti_flags x.polarity x.trigger_mode)  -- 0: Type, 1: Length, 2: Flags
    ∷ U32 x.global_system_interrupt  -- 4: Global System Interrupt
    ∷ []

abbrev pub nmi_source_entry : NmiSource → List ℕ
nmi_source_entry x = fields_bytes (nmi_source_fields x)

-- Local APIC NMI (section 5.2.12.7)
unfoldable pub apic_nmi_fields : ℕ → ℕ → ℕ → List Field
apic_nmi_fields uid flags line =
    U8 4 ∷ U8 6 ∷ U8 uid  -- 0: Type, 1: Length, 2: ACPI Processor UID
    ∷ U16 flags ∷ U8 line ∷ Zeros 0  -- 3: Flags, 5: Local APIC LINT#
    ∷ []

-- Local x2APIC NMI (section 5.2.12.13)
unfoldable pub x2apic_nmi_fields : ℕ → ℕ → ℕ → List Field
x2apic_nmi_fields uid flags line =
    U8 10 ∷ U8 12 ∷ U16 flags ∷ U32 uid  -- 0: Type, 1: Length, 2: Flags, 4: ACPI Processor UID
    ∷ U8 line ∷ Zeros 3  -- 8: Local x2APIC LINT#, 9: Reserved
    ∷ []

-- the first if the uid has a place there, in which 255 means all
abbrev pub nmi_fields : NmiProcessor → ℕ → ℕ → List Field
nmi_fields nmi.All flags line = apic_nmi_fields all_apics flags line
nmi_fields (nmi.ProcessorUid uid) flags line =
    if nat_lt uid all_apics then apic_nmi_fields uid flags line else x2apic_nmi_fields uid flags line

abbrev pub nmi_line_fields : MadtNmiLine → List Field
nmi_line_fields x = nmi_fields x.processor (inti_flags x.polarity x.trigger_mode) (line_code x.line)

abbrev pub nmi_line_entry : MadtNmiLine → List ℕ
nmi_line_entry x = fields_bytes (nmi_line_fields x)

-- Multiprocessor Wakeup (section 5.2.12.19)
unfoldable pub wakeup_fields : ℕ → List Field
wakeup_fields a =
    U8 16 ∷ U8 16 ∷ Zeros 2  -- 0: Type, 1: Length, 2: MailBoxVersion
    ∷ Zeros 4 ∷ U64 a  -- 4: Reserved, 8: MailBoxAddress
    ∷ []

abbrev pub mailbox_fields : Option ℕ → List Field
mailbox_fields (Some a) = wakeup_fields a
mailbox_fields None = []

abbrev pub wakeup_entries : Option ℕ → List ℕ
wakeup_entries o = fields_bytes (mailbox_fields o)

-- ---- the table

-- the contents in the reader's items, by contents with a caller's records of them
abbrev pub madt_meant : {P I O S L : Type 0} → (P → MadtProcessor) → (I → IoApic) → (O → InterruptSourceOverride)
    → (S → NmiSource) → (L → MadtNmiLine) → declared.MadtContents P I O S L → MadtContents
madt_meant processor io_apic override source line c = record {
  local_apic_address = c.local_apic_address;
  also_has_legacy_pics = c.also_has_legacy_pics;
  processors = items_of processor c.processors;
  io_apics = items_of io_apic c.io_apics;
  interrupt_source_overrides = items_of override c.interrupt_source_overrides;
  nmi_sources = items_of source c.nmi_sources;
  local_apic_nmi_lines = items_of line c.local_apic_nmi_lines;
  wakeup_mailbox = c.wakeup_mailbox;
}

-- all entries, sort by sort, with the address of the local APICs after the processors, and the mailbox last
abbrev pub madt_entries : MadtContents → List ℕ
madt_entries c =
    flat_map processor_entry c.processors.now
    ++ (address_entries c.local_apic_address
    ++ (flat_map io_apic_entry c.io_apics.now
    ++ (flat_map override_entry c.interrupt_source_overrides.now
    ++ (flat_map nmi_source_entry c.nmi_sources.now
    ++ (flat_map nmi_line_entry c.local_apic_nmi_lines.now ++ wakeup_entries c.wakeup_mailbox)))))

-- the fields after the header: the address is 0 if it has no place
unfoldable pub madt_fields : ℕ → Bool → List Field
madt_fields a pics =
    U32 (if nat_lt a (2 ^ 32) then a else 0)  -- 36: Local Interrupt Controller Address
    ∷ U32 (bit_of pics)  -- 40: Flags, of which bit 0 is PCAT_COMPAT
    ∷ []

abbrev pub madt_fixed : ℕ → Bool → List ℕ
madt_fixed a pics = fields_bytes (madt_fields a pics)

-- after the header
abbrev pub madt_body : MadtContents → List ℕ
madt_body c = madt_fixed c.local_apic_address c.also_has_legacy_pics ++ madt_entries c

-- ---- errors

abbrev pub is_empty : {A : Type 0} → List A → Bool
is_empty [] = true
is_empty (x ∷ xs) = false

-- neither the uid nor the id is the one that means all
abbrev pub is_single : MadtProcessor → Bool
is_single p = nat_lt p.processor_uid 0xffffffff && nat_lt p.local_apic_id 0xffffffff

-- and so it is of an NMI line's uid
abbrev pub names_one : NmiProcessor → Bool
names_one nmi.All = true
names_one (nmi.ProcessorUid uid) = nat_lt uid 0xffffffff

-- the first error of the contents
abbrev pub madt_checked : MadtContents → Result (Unit {0}) WriterError
madt_checked c = do
  _ ← holds (not (is_empty c.processors.now)) NoProcessor
  _ ← holds (list_all is_single c.processors.now) IdOfAll
  holds (list_all (λ x. names_one x.processor) c.local_apic_nmi_lines.now) UidOfAll

-- the table, of revision 5, in so much room, or the first error
unfoldable pub madt_written : ℕ → TableIds → MadtContents → Result (List ℕ) WriterError
madt_written room ids c = do
  _ ← madt_checked c
  table_written room MADT 5 ids (madt_body c)
