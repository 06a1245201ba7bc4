-- Made by scripts/words: what proofs, contracts and the crates above bring in from this crate's specs.
pub use Rattle.acpi.specs.Types.{
  All,
  InvalidEntryLength,
  Lint0,
  LocalInterruptLine,
  MadtError,
  Polarity,
  ProcessorUid,
  TriggerMode,
}
pub use Rattle.acpi_arm.specs.Gic.{distributor_in}
pub use Rattle.acpi_arm.specs.Timers.{
  Timer,
  each_left,
  first_frames,
  frame_count,
  frames_left,
  frames_there,
  kind_of,
  missing_left,
  shown_in,
  timer_bytes,
  timer_count,
  timer_there,
  timers_grammar,
  timers_layout,
  timers_offset,
  watchdog_at,
}
pub use Rattle.acpi_base.specs.FromStd.{
  AllByRecursion,
  concat,
  cons_option,
  list_all,
  list_any,
  result_err,
  result_ok,
  result_unwrap_or,
}
pub use Rattle.acpi_base.specs.Interrupts.{
  flags_fault,
  override_fault,
  trigger_mode_of,
  unless_fault,
}
unfoldable pub use Rattle.acpi_base.specs.Interrupts.{item_of}
pub use Rattle.acpi_base.specs.Words.{
  IsEntry,
  all_apics,
  all_x2apics,
  bits_of,
  cut_of,
  entries_left,
  entries_of,
  has_bit,
  line_of,
  madt_grammar,
  madt_layout,
  polarity_code,
  processor_for,
  rest_left,
  trigger_code,
  uid_code,
  ◌>>=◌,
}
unfoldable pub use Rattle.acpi_base.specs.Words.{
  cut,
  field_of,
}
pub use Rattle.acpi_base.specs.declared.tables.madt.apic.InterruptSourceOverrideEntry.{InterruptSourceOverrideEntry}
pub use Rattle.acpi_base.specs.declared.tables.madt.apic.NmiSourceEntry.{NmiSourceEntry}
pub use Rattle.acpi_bytes.specs.declared.error.MadtError.TheVariants.{InterruptOverrideEntryHasInvalidBus}
pub use Rattle.acpi_c_interrupts.specs.AcceptLaws.{AcceptsAsReaders}
pub use Rattle.acpi_c_interrupts.specs.ApicLaws.{
  ListsAreModels,
  line_said,
  line_shown,
  nmi_source_record,
  of_all,
  override_record,
  processor_said,
  processor_shown,
  state_code,
}
pub use Rattle.acpi_c_interrupts.specs.Apics.{
  MadtEntry,
  apic_entries,
  below_apics,
  boot_first,
  booted,
  io_apic_in,
  is_of_apics,
  mailbox_below,
  nmi_line,
  nmi_line_in,
  nmi_source_in,
  override_in,
  processor_in,
  processors_below,
  processors_of,
}
unfoldable pub use Rattle.acpi_c_interrupts.specs.Apics.{apic_table}
pub use Rattle.acpi_c_interrupts.specs.Arm.{
  below_gic,
  cpu_interfaces_shown,
  distributor_below,
  is_of_gic,
  msi_frames_shown,
  redistributors_shown,
  translation_services_shown,
}
pub use Rattle.acpi_c_interrupts.specs.ArmTimers.{
  GtFrame,
  arm_timer_or,
  arm_timer_record,
  frame_record,
  frames_in,
  frames_of,
  frames_shown,
  gtdt_below,
  or_ones,
  timers_record,
  timers_shown,
  watchdog_in,
  watchdogs_of,
  watchdogs_shown,
}
pub use Rattle.acpi_c_interrupts.specs.GtdtFaults.{
  gtdt_faults_below,
  gtdt_faults_of,
  last_faults,
  timer_fault,
  timers_cut,
}
pub use Rattle.acpi_c_interrupts.specs.IsaList.{
  IsaInterrupts,
  IsaRoute,
  ItemsAreAnswers,
  isa_list,
  isa_list_below,
  isa_route,
  nearer_of,
  no_route,
  number_of,
  route_by,
  route_of,
}
unfoldable pub use Rattle.acpi_c_interrupts.specs.IsaList.{isa_numbers}
pub use Rattle.acpi_c_interrupts.specs.LocalApic.{local_apic_below}
pub use Rattle.acpi_c_interrupts.specs.MadtFaults.{
  madt_fault,
  madt_faults_below,
  madt_faults_of,
  madt_refusal,
}
pub use Rattle.acpi_c_interrupts.specs.Model.{
  AtSamePlaces,
  CountsBeside,
  MadtItem,
  accepted_model,
  apics_by,
  below_platform,
  counts_of,
  io_apic_record,
  listed,
  model_by,
  platform_model,
}
pub use Rattle.acpi_c_interrupts.specs.Riscv.{
  aplic_in,
  below_riscv,
  imsic_in,
  plic_in,
  rintc_in,
}
pub use Rattle.acpi_c_interrupts.specs.Routes.{
  AreWirings,
  Interrupt,
  apic_in,
  below_known,
  has_codes,
  interrupt_record,
  is_nearer,
  isa_below,
  isa_in,
  isa_override_in,
  last_override,
  pin_below,
  pin_in,
  pin_or,
  sci_below,
  sci_in,
  wirings_of,
}
unfoldable pub use Rattle.acpi_c_interrupts.specs.Routes.{known_platform}
pub use Rattle.acpi_c_interrupts.specs.Types.{Refusal}
pub use Rattle.acpi_c_interrupts.specs.WrittenMadt.{is_wiring}
pub use Rattle.acpi_c_interrupts.specs.declared.apics.records.Processor.{Processor}
pub use Rattle.acpi_table_writer.specs.Types.{RiscvEntry}
