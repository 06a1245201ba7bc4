-- Made by scripts/words: what proofs, contracts and the crates above bring in from this crate's specs.
pub use Rattle.acpi_image.specs.ErrorText.{write_error_text}
pub use Rattle.acpi_image.specs.Places.{
  IsPlaced,
  place_of,
  places_of,
}
pub use Rattle.acpi_image.specs.WriteChecks.{
  WritesOrRunsOut,
  check_tables,
  pointers_fit,
  some_share,
}
unfoldable pub use Rattle.acpi_image.specs.WriteChecks.{
  check_places,
  check_plan,
  is_table,
  written,
}
pub use Rattle.acpi_image.specs.WriteLaws.{
  IsWritten,
  SaysOfTables,
  SumIsSet,
  WrittenIsRead,
  opened_of,
  said_of,
}
pub use Rattle.acpi_image.specs.Written.{
  HasFront,
  Plan,
  kind_of,
  placed,
  placed_region,
  plan,
  pointers_of,
  records_of,
  root_length,
  root_record,
  root_to,
  root_unsummed,
  rsdp_record,
  spaces,
  starts_of,
  summed,
  tables_of,
}
unfoldable pub use Rattle.acpi_image.specs.Written.{
  root_header,
  rsdp_to,
  rsdp_unsummed,
  sum_byte,
  with_first_sum,
  with_sum,
}
pub use Rattle.acpi_image.specs.declared.error.WriteError.{WriteError}
pub use Rattle.acpi_image.specs.declared.error.WriteError.TheVariants.{
  OutOfMemory,
  Overlap,
}
pub use Rattle.acpi_image.specs.declared.write.PlacedTable.{PlacedTable}
