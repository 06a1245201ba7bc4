-- Made by scripts/words: what the files of this crate bring in from the crates below, and its types.
pub use Rattle.acpi.specs.Rsdp.{root_of}
pub use Rattle.acpi.specs.Types.{
  AcpiError,
  MadtError,
  MapFailed,
  Signature,
}
pub use Rattle.acpi.specs.declared.root.RootPointer.{RootPointer}
pub use Rattle.acpi.specs.declared.rsdp.Rsdp.{Rsdp}
pub use Rattle.acpi_base.specs.FromStd.{
  AllByRecursion,
  cons_option,
  list_all,
  list_any,
}
pub use Rattle.acpi_base.specs.Words.{
  Memory,
  letters_of,
  lies_in,
  ◌>>=◌,
}
unfoldable pub use Rattle.acpi_base.specs.Words.{field_of}
pub use Rattle.acpi_c_lib.specs.declared.candidates.Candidates.{Candidates}
pub use Rattle.acpi_c_lib.specs.declared.entry_faults.EntryFault.{EntryFault}
pub use Rattle.acpi_c_lib.specs.declared.records.Entry.{Entry}
pub use Rattle.acpi_c_lib.specs.declared.records.Facs.{Facs}
pub use Rattle.acpi_c_lib.specs.declared.records.Fault.{Fault}
pub use Rattle.acpi_c_lib.specs.declared.records.Range.{Range}
pub use Rattle.acpi_c_lib.specs.declared.records.Root.{Root}
pub use Rattle.acpi_c_lib.specs.declared.records.Walk.{Walk}
pub use Rattle.acpi_c_lib.specs.declared.refusal.Refusal.{Refusal}
pub use Rattle.acpi_c_lib.specs.declared.refusal.Refusal.TheVariants.{
  Acpi,
  AmlInvalid,
  InvalidIommuMemoryRange,
  InvalidIommuStructureLength,
  NoRegister,
  NoReset,
  NoSuchState,
  RangeTooHigh,
  RegionTooHigh,
  RegionsNotAscending,
  SleepTypeTooHigh,
  UnknownPolicy,
  UnknownStart,
  UnknownWidth,
}
pub use Rattle.acpi_iommu.specs.declared.error.IommuError.{IommuError}
pub use Rattle.acpi_sleep.specs.declared.error.PlanError.{PlanError}
pub use Rattle.acpi_sleep.specs.declared.error.SleepError.{SleepError}
pub use Rattle.acpi_table_writer.specs.Types.{
  GicRedistributors,
  RootKind,
  Rsdt,
  Xsdt,
}
pub use Rattle.acpi_table_writer.specs.declared.error.WriterError.{WriterError}
