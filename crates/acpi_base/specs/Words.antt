-- Made by scripts/words: what proofs, contracts and the crates above bring in from this crate's specs.
pub use Rattle.acpi_base.specs.Claim.{
  IsLentOf,
  IsWholeClaim,
  all_of,
  claimed_at,
  claimed_from,
  shown_by,
  unchecked,
}
pub use Rattle.acpi_base.specs.Codes.{
  CodesDecode,
  IsNumbering,
  all_apics,
  all_x2apics,
  interface_code,
  interface_of,
  is_interface,
  line_code,
  line_of,
  polarity_code,
  polarity_for,
  processor_for,
  trigger_code,
  trigger_for,
  uid_code,
}
pub use Rattle.acpi_base.specs.Ecam.{
  ecam_in,
  ecam_place,
  ecam_range,
}
pub use Rattle.acpi_base.specs.Guarded.{
  guarded_by,
  listed_by,
}
pub use Rattle.acpi_base.specs.Interrupts.{
  flags_fault,
  io_apic_of,
  nmi_line_of,
  nmi_source_of,
  online_capable,
  override_fault,
  override_of,
  polarity_of,
  trigger_mode_of,
  unless_fault,
}
unfoldable pub use Rattle.acpi_base.specs.Interrupts.{item_of}
pub use Rattle.acpi_base.specs.Isa.{
  SharedByOverrides,
  goes_to,
  is_taken,
  isa_interrupt,
  leads_to,
  override_for,
  sci_interrupt,
  straight,
  wired,
}
pub use Rattle.acpi_base.specs.IsaOverrides.{
  AreCounted,
  Gathered,
  IsGathered,
}
pub use Rattle.acpi_base.specs.Items.{
  counted_behind,
  counts_of,
  fault_of_entry,
  item_of_entry,
  items_left,
  items_or_faults_in,
  model_counts,
}
unfoldable pub use Rattle.acpi_base.specs.Items.{item_or_fault_of}
pub use Rattle.acpi_base.specs.Madt.{
  cut_of,
  entries_of,
  entry_of,
  madt_grammar,
  madt_layout,
  mailbox_in,
  mailbox_of,
  no_mailbox,
}
unfoldable pub use Rattle.acpi_base.specs.Madt.{madt_at}
pub use Rattle.acpi_base.specs.MadtWalk.{
  BeginsDefined,
  EndsAtRest,
  entries_in,
  entries_left,
  has_ended,
  is_left,
  is_malformed,
  rest_left,
}
pub use Rattle.acpi_base.specs.Mapping.{
  IsOfMemory,
  bytes_of,
  handler_of,
  lent_of,
  start_of,
}
pub use Rattle.acpi_base.specs.Mcfg.{
  mcfg_entries_in,
  mcfg_entries_left,
  mcfg_entries_of,
  mcfg_entry_at,
  whole_mcfg_entries,
}
pub use Rattle.acpi_base.specs.Model.{
  AsksMemory,
  Model,
  fault_in,
  fault_of,
  first_fault,
  gathered,
  item_in,
  items_of,
  last_address,
  model_from,
  model_of,
  model_with,
  processor_in,
  processors_of,
  state_of,
}
pub use Rattle.acpi_base.specs.ModelBuilder.{
  HasRoom,
  HoldsRoom,
  model_behind,
}
pub use Rattle.acpi_base.specs.NmiLines.{
  is_line_of,
  lines_for,
  lines_left,
}
pub use Rattle.acpi_base.specs.Pin.{
  IsNearest,
  IsNoNearer,
  base_of,
  io_apic_for,
  nearer,
  nearest,
  pin_of,
}
pub use Rattle.acpi_base.specs.Ranges.{
  AgreesOn,
  Allows,
  DependsOn,
  Footprint,
  Ranges,
  is_listed,
  own_accepted_ranges,
  own_table_ranges,
  table_ranges,
  unless_found,
  whole_ranges,
}
pub use Rattle.acpi_base.specs.Spcr.{
  baud_of,
  bus_of,
  clock_of,
  configured_baud,
  device_id_of,
  device_of,
  flow_byte,
  function_of,
  interface_in,
  interrupt_byte,
  interrupt_of,
  irq_of,
  name_of,
  namespace_in,
  namespace_of,
  terminal_byte,
  unless,
  vendor_id_of,
}
unfoldable pub use Rattle.acpi_base.specs.Spcr.{spcr_at}
pub use Rattle.acpi_base.specs.SpcrFlags.{
  FlagsAreNumbered,
  flow_bits,
  interrupt_bits,
  terminal_bits,
}
pub use Rattle.acpi_base.specs.Types.{
  AcpiError,
  Counts,
  InterruptSourceOverride,
  InvalidEntryLength,
  InvalidMadt,
  IoApic,
  IsaInterrupt,
  MadtEntry,
  MadtError,
  MadtItem,
  ModelBuilder,
  Processor,
  ProcessorInfo,
  SdtHeader,
  SdtInvalidChecksum,
  SdtInvalidLength,
  SdtInvalidOemId,
  SdtInvalidSignature,
  SdtInvalidTableId,
  Signature,
}
pub use Rattle.acpi_base.specs.Wakeup.{command_of}
pub use Rattle.acpi_base.specs.declared.memory.claim.Claim.{Claim}
pub use Rattle.acpi_bytes.specs.Accepted.{
  AcceptsNothing,
  AcceptsValid,
  IsGivenUp,
  KeepsChecks,
  KeepsNames,
  KeepsSums,
  OwnIsValid,
  accepted,
  left_of,
  loosened,
  own_kind,
  own_table_at,
}
unfoldable pub use Rattle.acpi_bytes.specs.Accepted.{own_accepted}
unfoldable pub use Rattle.acpi_bytes.specs.Address.{generic_address_of}
pub use Rattle.acpi_bytes.specs.Bits.{
  bits_of,
  has_bit,
}
pub use Rattle.acpi_bytes.specs.Bytes.{
  IsBytes,
  filled_part,
  number,
  part,
}
unfoldable pub use Rattle.acpi_bytes.specs.Bytes.{
  field_of,
  spelling,
  sum_of,
}
pub use Rattle.acpi_bytes.specs.Entries.{
  IsCutOf,
  IsEntry,
  IsFew,
  after_one,
  cut_by,
  least_length,
  number_at,
  number_in,
  width_of,
  with_entry,
}
unfoldable pub use Rattle.acpi_bytes.specs.Entries.{
  cut,
  front,
}
pub use Rattle.acpi_bytes.specs.EntryLaws.{
  CutIsCut,
  OneCut,
}
pub use Rattle.acpi_bytes.specs.ErrorText.{error_text}
pub use Rattle.acpi_bytes.specs.Extended.{
  extended_at,
  shown_of,
}
pub use Rattle.acpi_bytes.specs.Header.{
  check_ids,
  check_signature,
}
unfoldable pub use Rattle.acpi_bytes.specs.Header.{
  check_names,
  check_table,
  header_at,
}
pub use Rattle.acpi_bytes.specs.Laws.{
  FieldPastEnd,
  LentIsInside,
}
pub use Rattle.acpi_bytes.specs.Memory.{
  AreApart,
  AreApart-prop,
  HoldsRange,
  IsMemory,
  IsMemory-prop,
  IsRegion,
  Memory,
  Region,
  end_of,
  lies_in,
}
unfoldable pub use Rattle.acpi_bytes.specs.Memory.{
  at,
  rest_from,
}
pub use Rattle.acpi_bytes.specs.Names.{NamesAreSpelled}
pub use Rattle.acpi_bytes.specs.OneRegion.{one_region}
pub use Rattle.acpi_bytes.specs.Range.{
  range_fits,
  range_holds,
}
pub use Rattle.acpi_bytes.specs.Steps.{
  Gives,
  GivesOrFull,
  holds,
  lent,
  ◌>>=◌,
}
pub use Rattle.acpi_bytes.specs.Table.{
  Kind,
  kind,
  plain_kind,
  sdt_kind,
}
unfoldable pub use Rattle.acpi_bytes.specs.Table.{table_at}
pub use Rattle.acpi_bytes.specs.Text.{
  IsTextOf,
  Shows,
  bytes_text,
  letters_of,
  signature_text,
}
pub use Rattle.acpi_bytes.specs.Words.{
  access_size_of,
  and_own,
  check_of,
  is_named_space,
  own_of,
  size_code,
  space_code,
  space_of,
  with_own,
}
