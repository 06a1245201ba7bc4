-- Made by scripts/words: what the files of this crate bring in from the crates below, and its types.
pub use Rattle.acpi.specs.Types.{
  AcpiError,
  Edge,
  EntryLayout,
  Four,
  GTDT,
  GenericAddress,
  Grammar,
  HPET,
  InvalidEntryLength,
  InvalidMadt,
  Level,
  MADT,
  MCFG,
  MadtEntry,
  McfgEntry,
  One,
  Polarity,
  SLIT,
  SRAT,
  SdtHeader,
  Signature,
  SystemMemory,
  TriggerMode,
  Two,
  Undefined,
  Width,
}
pub use Rattle.acpi.specs.Words.{
  info_of,
  protection_code,
  protection_of,
}
unfoldable pub use Rattle.acpi.specs.Words.{hpet_at}
pub use Rattle.acpi.specs.declared.hpet.HpetInfo.{HpetInfo}
pub use Rattle.acpi.specs.declared.hpet.PageProtection.{PageProtection}
pub use Rattle.acpi.specs.declared.platform.PlatformInfo.{PlatformInfo}
pub use Rattle.acpi.specs.declared.platform.timer.PmTimer.{PmTimer}
pub use Rattle.acpi.specs.declared.root.RootKind.{RootKind}
pub use Rattle.acpi.specs.declared.root.RootKind.TheVariants.{
  Rsdt,
  Xsdt,
}
pub use Rattle.acpi_arm.specs.Gic.{gic_of}
pub use Rattle.acpi_arm.specs.Gtdt.{
  arm_timer_at,
  control_base_of,
  polarity_in,
  read_base_of,
  trigger_in,
  unless_ones,
  virtual_el2_of,
}
unfoldable pub use Rattle.acpi_arm.specs.Gtdt.{gtdt_at}
pub use Rattle.acpi_arm.specs.Timers.{
  Timer,
  missing_of,
  timers_of,
}
pub use Rattle.acpi_arm.specs.declared.frames.GtFrame.{GtFrame}
pub use Rattle.acpi_arm.specs.declared.frames.TimerInterrupt.{TimerInterrupt}
pub use Rattle.acpi_arm.specs.declared.gic.GicModel.{GicModel}
pub use Rattle.acpi_arm.specs.declared.gic.part.GicCpuInterface.{GicCpuInterface}
pub use Rattle.acpi_arm.specs.declared.gic.part.GicDistributor.{GicDistributor}
pub use Rattle.acpi_arm.specs.declared.gic.part.GicMsiFrame.{GicMsiFrame}
pub use Rattle.acpi_arm.specs.declared.gic.part.GicRedistributors.{GicRedistributors}
pub use Rattle.acpi_arm.specs.declared.gic.part.GicTranslationService.{GicTranslationService}
pub use Rattle.acpi_arm.specs.declared.gic.part.SpiRange.{SpiRange}
pub use Rattle.acpi_arm.specs.declared.gtdt.ArmTimer.{ArmTimer}
pub use Rattle.acpi_arm.specs.declared.timers.SbsaWatchdog.{SbsaWatchdog}
pub use Rattle.acpi_base.specs.FromStd.{
  AllByRecursion,
  concat,
  cons_option,
  from_le_bytes,
  last_or,
  list_all,
  list_any,
  result_err,
  result_ok,
  to_le_bytes,
}
unfoldable pub use Rattle.acpi_base.specs.FromStd.{is_utf8}
pub use Rattle.acpi_base.specs.Words.{
  Gives,
  IsEntry,
  IsFew,
  bits_of,
  cut_of,
  entry_of,
  has_bit,
  holds,
  is_left,
  is_named_space,
  least_length,
  letters_of,
  madt_grammar,
  madt_layout,
  mcfg_entries_in,
  mcfg_entries_of,
  mcfg_entry_at,
  number,
  number_at,
  part,
  shown_of,
  size_code,
  space_code,
  whole_mcfg_entries,
  ◌>>=◌,
}
unfoldable pub use Rattle.acpi_base.specs.Words.{
  check_names,
  check_table,
  cut,
  field_of,
  header_at,
  spelling,
  sum_of,
}
pub use Rattle.acpi_bytes.specs.Entries.{end_of}
unfoldable pub use Rattle.acpi_image.specs.Words.{
  is_table,
  sum_byte,
  with_sum,
}
pub use Rattle.acpi_numa.specs.Words.{
  affinities_of,
  apic_domain,
  domain_of_apic,
  domain_of_processor,
  ends_below,
  localities_of,
  processor_domain,
  range_in,
  ranges_of,
  revision_of,
  srat_grammar,
  srat_layout,
}
unfoldable pub use Rattle.acpi_numa.specs.Words.{distance_of}
pub use Rattle.acpi_numa.specs.declared.srat.affinities.MemoryRange.{MemoryRange}
pub use Rattle.acpi_numa.specs.declared.srat.entry.SratEntry.{SratEntry}
pub use Rattle.acpi_riscv.specs.Words.{
  aplic_at,
  entries_of,
  imsic_at,
  plic_at,
  rintc_at,
}
pub use Rattle.acpi_riscv.specs.declared.entry.Aplic.{Aplic}
pub use Rattle.acpi_riscv.specs.declared.entry.Imsic.{Imsic}
pub use Rattle.acpi_riscv.specs.declared.entry.Plic.{Plic}
pub use Rattle.acpi_riscv.specs.declared.entry.Rintc.{Rintc}
pub use Rattle.acpi_riscv.specs.declared.entry.RiscvEntry.{RiscvEntry}
pub use Rattle.acpi_table_writer.specs.declared.error.WriterError.{WriterError}
pub use Rattle.acpi_table_writer.specs.declared.error.WriterError.TheVariants.{
  BadMatrix,
  BadName,
  BadRange,
  IdOfAll,
  NoAddress,
  NoProcessor,
  NoRoom,
  SameAsBus,
  TooLong,
  TooManyFrames,
  UidOfAll,
}
pub use Rattle.acpi_table_writer.specs.declared.fields.Field.{Field}
pub use Rattle.acpi_table_writer.specs.declared.fields.Field.TheVariants.{
  U16,
  U32,
  U64,
  U8,
  Zeros,
}
pub use Rattle.acpi_table_writer.specs.declared.ids.TableIds.{TableIds}
pub use Rattle.acpi_table_writer.specs.declared.madt.MadtNmiLine.{MadtNmiLine}
pub use Rattle.acpi_table_writer.specs.declared.madt.MadtProcessor.{MadtProcessor}
pub use Rattle.acpi_table_writer.specs.declared.madt.riscv.RiscvContents.{RiscvContents}
pub use Rattle.acpi_table_writer.specs.declared.rhct.RhctContents.{RhctContents}
pub use Rattle.acpi_table_writer.specs.declared.srat.ApicDomain.{ApicDomain}
pub use Rattle.acpi_table_writer.specs.declared.srat.GiccDomain.{GiccDomain}
use Rattle.acpi_base.specs.declared.model.interrupt.InterruptSourceOverride.{InterruptSourceOverride}
use Rattle.acpi_base.specs.declared.model.interrupt.IoApic.{IoApic}
use Rattle.acpi_base.specs.declared.model.interrupt.NmiSource.{NmiSource}
use Rattle.acpi_table_writer.specs.declared.gtdt.GtdtContents as gtdt
use Rattle.acpi_table_writer.specs.declared.gtdt.PlatformTimerContents as timers
use Rattle.acpi_table_writer.specs.declared.madt.MadtContents as madt
use Rattle.acpi_table_writer.specs.declared.madt.gic.GicContents as gic
use Rattle.acpi_table_writer.specs.declared.srat.SratContents as srat

-- contents whose items are the items themselves
abbrev pub MadtContents : Type 0
MadtContents = madt.MadtContents MadtProcessor IoApic InterruptSourceOverride NmiSource MadtNmiLine

abbrev pub GicContents : Type 0
GicContents = gic.GicContents GicCpuInterface GicRedistributors GicTranslationService GicMsiFrame

abbrev pub SratContents : Type 0
SratContents = srat.SratContents MemoryRange

-- contents whose timers and frames are things of a type that is written as these, and contents of the timers themselves
abbrev pub GtdtOf : Type 0 → Type 0
GtdtOf T = gtdt.GtdtContents T

abbrev pub TimerOf : Type 0 → Type 0
TimerOf F = timers.PlatformTimerContents F

abbrev pub PlatformTimerContents : Type 0
PlatformTimerContents = TimerOf GtFrame

abbrev pub GtdtContents : Type 0
GtdtContents = GtdtOf PlatformTimerContents
