-- Made by scripts/words: what the files of this crate bring in from the crates below, and its types.
pub use Rattle.acpi_base.specs.FromStd.{list_all}
pub use Rattle.acpi_base.specs.Words.{◌>>=◌}
unfoldable pub use Rattle.acpi_base.specs.Words.{
  field_of,
  sum_of,
}
pub use Rattle.acpi_c_lib.specs.declared.refusal.Refusal.TheVariants.{
  BadTable,
  UnknownCode,
  Writer,
}
pub use Rattle.acpi_c_machine.specs.declared.machine.Contents.TheVariants.{
  Bgrt,
  Fadt,
  Gic,
  Hpet,
  Madt,
  Mcfg,
  Spcr,
  Srat,
}
pub use Rattle.acpi_c_machine.specs.declared.written_records.ListedTable.{ListedTable}
pub use Rattle.acpi_table_writer.specs.Words.{
  hpet_written,
  mcfg_written,
}
unfoldable pub use Rattle.acpi_table_writer.specs.Words.{
  gic_written,
  madt_written,
  srat_written,
}
pub use Rattle.acpi_table_writer.specs.declared.error.WriterError.TheVariants.{
  NoAddress,
  TooLong,
}
pub use Rattle.acpi_writer.specs.Words.{
  MachineOf,
  bgrt_written,
  dsdt_at,
  facs_at,
  machine_size,
  machine_written,
  tree_written,
}
unfoldable pub use Rattle.acpi_writer.specs.Words.{fadt_written}
pub use Rattle.acpi_writer.specs.declared.contents.AmlContents.{AmlContents}
pub use Rattle.acpi_writer.specs.declared.facs.FacsContents.{FacsContents}
