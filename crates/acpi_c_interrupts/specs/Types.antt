-- Made by scripts/words: what the files of this crate bring in from the crates below, and its types.
pub use Rattle.acpi.specs.Types.{
  ActiveHigh,
  InterruptSourceOverride,
  InvalidEntryLength,
  InvalidMadt,
  IoApic,
  Level,
  Lint0,
  Lint1,
  MadtEntry,
  MadtError,
  NmiSource,
  Polarity,
  TriggerMode,
}
pub use Rattle.acpi.specs.Words.{madt_kind}
pub use Rattle.acpi_arm.specs.Gic.{
  cpu_interface_in,
  distributor_in,
  items_of,
  msi_frame_in,
  redistributors_in,
  translation_service_in,
}
pub use Rattle.acpi_arm.specs.Gtdt.{
  control_base_of,
  gtdt_kind,
  read_base_of,
}
unfoldable pub use Rattle.acpi_arm.specs.Gtdt.{gtdt_at}
pub use Rattle.acpi_arm.specs.Timers.{
  Timer,
  each_of,
  frames_end,
  is_sound,
  missing_of,
  timer_bytes,
  timer_count,
  timers_grammar,
  timers_offset,
}
pub use Rattle.acpi_arm.specs.declared.gtdt.Gtdt.{Gtdt}
pub use Rattle.acpi_base.specs.FromStd.{
  is_some,
  list_all,
  list_any,
  result_unwrap_or,
}
pub use Rattle.acpi_base.specs.Words.{
  cut_of,
  entries_of,
  fault_of_entry,
  is_left,
  polarity_code,
  polarity_for,
  trigger_code,
  trigger_for,
  ◌>>=◌,
}
unfoldable pub use Rattle.acpi_base.specs.Words.{
  cut,
  field_of,
}
pub use Rattle.acpi_c_interrupts.specs.declared.apics.records.InterruptModel.{InterruptModel}
pub use Rattle.acpi_c_interrupts.specs.declared.apics.records.PlatformLists.{PlatformLists}
pub use Rattle.acpi_c_interrupts.specs.declared.arm.records.ArmTimers.{ArmTimers}
pub use Rattle.acpi_c_interrupts.specs.declared.arm.records.Watchdog.{Watchdog}
pub use Rattle.acpi_c_interrupts.specs.declared.written_records.GicContents.{GicContents}
pub use Rattle.acpi_c_interrupts.specs.declared.written_records.GtdtContents.{GtdtContents}
pub use Rattle.acpi_c_interrupts.specs.declared.written_records.MadtContents.{MadtContents}
pub use Rattle.acpi_c_interrupts.specs.declared.written_records.PlatformTimer.{PlatformTimer}
pub use Rattle.acpi_c_lib.specs.declared.entry_faults.EntryFault.{EntryFault}
pub use Rattle.acpi_c_lib.specs.declared.records.Range.{Range}
pub use Rattle.acpi_c_lib.specs.declared.records.Source.{Source}
pub use Rattle.acpi_c_lib.specs.declared.refusal.Refusal.{Refusal}
pub use Rattle.acpi_c_lib.specs.declared.refusal.Refusal.TheVariants.{
  Acpi,
  InvalidTimerLength,
  NoApics,
  NoGic,
  NoRiscv,
  NoSuchInterrupt,
  NoSuchIoApic,
  ShortRiscvEntry,
  UnknownCode,
  Writer,
}
pub use Rattle.acpi_table_writer.specs.Types.{
  Aplic,
  ArmTimer,
  GicCpuInterface,
  GicDistributor,
  GicMsiFrame,
  GicRedistributors,
  GicTranslationService,
  GtFrame,
  Imsic,
  PlatformInfo,
  Plic,
  PmTimer,
  Rintc,
  RiscvEntry,
  SbsaWatchdog,
  SpiRange,
  TimerInterrupt,
}
pub use Rattle.acpi_table_writer.specs.Words.{
  GtdtOf,
  TimerOf,
  frame_bytes,
  frame_checked,
  gic_meant,
  madt_meant,
  structure_bytes_by,
  structure_checked_by,
}
unfoldable pub use Rattle.acpi_table_writer.specs.Words.{gtdt_written_by}
pub use Rattle.acpi_table_writer.specs.declared.error.WriterError.{WriterError}
pub use Rattle.acpi_table_writer.specs.declared.error.WriterError.TheVariants.{BadRange}
pub use Rattle.acpi_table_writer.specs.declared.ids.TableIds.{TableIds}
pub use Rattle.acpi_table_writer.specs.declared.madt.MadtNmiLine.{MadtNmiLine}
pub use Rattle.acpi_table_writer.specs.declared.madt.MadtProcessor.{MadtProcessor}
