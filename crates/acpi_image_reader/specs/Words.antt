-- Made by scripts/words: what proofs, contracts and the crates above bring in from this crate's specs.
pub use Rattle.acpi_image_reader.specs.ErrorText.{image_error_text}
pub use Rattle.acpi_image_reader.specs.Held.{memory_of}
pub use Rattle.acpi_image_reader.specs.Image.{
  GivesOrRunsOut,
  IsImage,
  Refuses,
  RunsOut,
  record_spelling,
  records_from,
  shares_any,
}
unfoldable pub use Rattle.acpi_image_reader.specs.Image.{
  next_at,
  record_at,
  records_in,
  share,
}
pub use Rattle.acpi_image_reader.specs.Regions.{
  region_in,
  region_of,
  regions_of,
}
pub use Rattle.acpi_image_reader.specs.Starts.{
  AreAllApart,
  ListsStarts,
}
unfoldable pub use Rattle.acpi_image_reader.specs.Starts.{bytes_at}
pub use Rattle.acpi_image_reader.specs.declared.error.ImageError.{ImageError}
pub use Rattle.acpi_image_reader.specs.declared.image.MemoryImage.{MemoryImage}
pub use Rattle.acpi_image_reader.specs.declared.record.Record.{Record}
