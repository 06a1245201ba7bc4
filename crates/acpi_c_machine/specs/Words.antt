-- Made by scripts/words: what proofs, contracts and the crates above bring in from this crate's specs.
pub use Rattle.acpi_base.specs.FromStd.{
  Bor,
  list_all,
}
pub use Rattle.acpi_base.specs.Words.{Gives}
pub use Rattle.acpi_c_machine.specs.Writing.{
  IsKeptOr,
  TableIds,
  WritesTable,
  writer_refused,
}
pub use Rattle.acpi_c_machine.specs.WrittenMachine.{
  dsdt_said,
  facs_said,
  machine_said,
  size_said,
  table_said,
  tree_said,
}
pub use Rattle.acpi_table_writer.specs.Words.{Keeps}
unfoldable pub use Rattle.acpi_table_writer.specs.Words.{table_written}
unfoldable pub use Rattle.acpi_writer.specs.Words.{
  facs_written,
  fixed_list,
  spcr_written,
}
pub use Rattle.acpi_writer.specs.declared.spcr.SpcrContents.{SpcrContents}
