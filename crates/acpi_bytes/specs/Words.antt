-- Made by scripts/words: what proofs, contracts and the crates above bring in from this crate's specs.
pub use Rattle.acpi_bytes.specs.Accepted.{accepted}
unfoldable pub use Rattle.acpi_bytes.specs.Address.{generic_address_of}
pub use Rattle.acpi_bytes.specs.Bits.{
  bits_of,
  has_bit,
}
pub use Rattle.acpi_bytes.specs.Bytes.{
  IsBytes,
  filled_part,
  number,
  part,
}
unfoldable pub use Rattle.acpi_bytes.specs.Bytes.{
  field_of,
  spelling,
  sum_of,
}
pub use Rattle.acpi_bytes.specs.Codes.{
  access_size_of,
  is_named_space,
  size_code,
  space_code,
  space_of,
}
pub use Rattle.acpi_bytes.specs.Entries.{
  IsCutOf,
  IsEntry,
  after_one,
  cut_by,
  is_full,
  least_length,
  number_at,
  number_in,
  width_of,
  with_entry,
}
unfoldable pub use Rattle.acpi_bytes.specs.Entries.{
  cut,
  front,
  next_front,
}
pub use Rattle.acpi_bytes.specs.EntryLaws.{
  CutIsCut,
  OneCut,
}
pub use Rattle.acpi_bytes.specs.ErrorText.{
  error_text,
  madt_error_text,
}
pub use Rattle.acpi_bytes.specs.Extended.{
  extended_at,
  held_of,
  shown_of,
}
pub use Rattle.acpi_bytes.specs.Header.{
  check_ids,
  check_signature,
}
unfoldable pub use Rattle.acpi_bytes.specs.Header.{
  check_names,
  check_table,
  header_at,
}
pub use Rattle.acpi_bytes.specs.Laws.{
  DamageShows,
  FieldPastEnd,
  LentIsInside,
}
pub use Rattle.acpi_bytes.specs.Memory.{
  AreApart,
  HoldsRange,
  IsMemory,
  IsRegion,
  Memory,
  Region,
  end_of,
  lies_in,
}
unfoldable pub use Rattle.acpi_bytes.specs.Memory.{
  at,
  rest_from,
}
pub use Rattle.acpi_bytes.specs.Names.{NamesAreSpelled}
pub use Rattle.acpi_bytes.specs.OneRegion.{one_region}
pub use Rattle.acpi_bytes.specs.Range.{
  range_fits,
  range_holds,
}
pub use Rattle.acpi_bytes.specs.Steps.{
  holds,
  lent,
  ◌>>=◌,
}
pub use Rattle.acpi_bytes.specs.Sums.{AddsUp}
pub use Rattle.acpi_bytes.specs.Table.{
  and_own,
  check_of,
  own_of,
  sdt_kind,
  with_own,
}
pub use Rattle.acpi_bytes.specs.Text.{
  IsTextOf,
  bytes_text,
  hex_digit,
  hex_text,
  letters_of,
  signature_text,
}
pub use Rattle.acpi_bytes.specs.Types.{
  AcpiError,
  EntryLayout,
  Four,
  Grammar,
  MapFailed,
  One,
  Place,
  SdtHeader,
  SdtInvalidLength,
  SdtInvalidSignature,
  Signature,
  Two,
  Width,
}
