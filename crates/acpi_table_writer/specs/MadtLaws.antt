-- What holds of a MADT that is written: what was given is what is read.
use Rattle.std.specs.Prelude.{◌≡◌, ℕ, Bool, true, false, List, [], ◌∷◌, map, Option, Some, None, Ok, All, ok_or}
use Rattle.acpi_base.specs.FromStd.{list_all}
use Rattle.acpi_base.specs.Words.{mailbox_of, Model, model_of, state_of}
use Rattle.acpi.specs.Types.{InvalidMadt, UnexpectedEntry, MADT, Apic, NmiLine, Processor, ProcessorInfo}
use Rattle.acpi_base.specs.declared.model.interrupt.InterruptModel.TheVariants as model
use Rattle.acpi_table_writer.specs.Fields.{Fits}
use Rattle.acpi_table_writer.specs.MadtBytes.{address_fields, mailbox_fields, io_apic_fields, is_empty, madt_body, names_one, nmi_source_fields, override_fields, processor_fields}
use Rattle.acpi_table_writer.specs.Table.{IsTableOf, IsValid}
use Rattle.acpi_table_writer.specs.Types.{TableIds, MadtContents, MadtNmiLine, MadtProcessor}

-- ---- which numbers have a place in an entry

pub record AreFit (c : MadtContents) : Type 0 where
  pub local_apic_address : Fits address_fields c.local_apic_address
  pub processors : All (Fits processor_fields) c.processors.now
  pub io_apics : All (Fits io_apic_fields) c.io_apics.now
  pub overrides : All (Fits override_fields) c.interrupt_source_overrides.now
  pub nmi_sources : All (Fits nmi_source_fields) c.nmi_sources.now
  pub wakeup : Fits mailbox_fields c.wakeup_mailbox

-- the bytes are the table of contents whose numbers have a place, with a processor among them, and no NMI line of the
-- uid that means all
pub record IsMadt (ids : TableIds) (c : MadtContents) (table : List ℕ) : Type 0 where
  pub written : IsTableOf MADT 5 ids (madt_body c) table
  pub fit : AreFit c
  pub some : is_empty c.processors.now ≡ false
  pub lines : list_all (λ x. names_one x.processor) c.local_apic_nmi_lines.now ≡ true

-- ---- what is to be read

-- a processor as a summary has it
abbrev pub processor_read : Bool → MadtProcessor → Processor
processor_read is_ap p = record {
  processor_uid = p.processor_uid;
  local_apic_id = p.local_apic_id;
  state = state_of is_ap p.is_enabled;
  is_ap = is_ap;
}

-- the first one is the boot processor
abbrev pub processors_read : {A : Type 0} → List MadtProcessor → Option (ProcessorInfo A)
processors_read [] = None
processors_read (p ∷ ps) = Some (record {
  boot_processor = processor_read false p;
  application_processors = map (processor_read true) ps;
})

-- an NMI line as the model has it, in which no flags are
abbrev pub line_read : MadtNmiLine → NmiLine
line_read x = record { processor = x.processor; line = x.line }

-- the model that is to be read: exactly what was given
abbrev pub apic_read : {A : Type 0} → MadtContents → Apic A
apic_read c = record {
  local_apic_address = c.local_apic_address;
  io_apics = c.io_apics.now;
  local_apic_nmi_lines = map line_read c.local_apic_nmi_lines.now;
  interrupt_source_overrides = c.interrupt_source_overrides.now;
  nmi_sources = c.nmi_sources.now;
  also_has_legacy_pics = c.also_has_legacy_pics;
}

abbrev pub model_read : {A : Type 0} → MadtContents → Model A
model_read c = (model.Apic (apic_read c), processors_read c.processors.now)

-- ---- laws

-- such a table is valid
abbrev pub MadtIsValid : Type 0
MadtIsValid = (ids : TableIds) (c : MadtContents) (table : List ℕ) → IsMadt ids c table → IsValid MADT table

-- its interrupt model, and its processors, are exactly those that were given, in order
abbrev pub MadtIsRead : Type 0 → Type 0
MadtIsRead A = (ids : TableIds) (c : MadtContents) (table : List ℕ) → IsMadt ids c table
    → model_of {A = A} table ≡ Ok (model_read c)

-- and so is its mailbox, or that there is none
abbrev pub MailboxIsRead : Type 0
MailboxIsRead = (ids : TableIds) (c : MadtContents) (table : List ℕ) → IsMadt ids c table
    → mailbox_of table ≡ ok_or c.wakeup_mailbox (InvalidMadt UnexpectedEntry)
