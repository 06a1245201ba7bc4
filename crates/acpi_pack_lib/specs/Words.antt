-- Made by scripts/words: what proofs, contracts and the crates above bring in from this crate's specs.
pub use Rattle.acpi_pack_lib.specs.Arguments.{
  Request,
  addresses_in,
  addresses_of,
  form_request,
  memory_request,
  names_in,
  no_options,
  options_from,
  request_in,
  request_of,
  tables_request,
}
pub use Rattle.acpi_pack_lib.specs.Held.{
  content,
  contents,
  entries_left,
  entry_of,
  region_at,
  regions_left,
}
pub use Rattle.acpi_pack_lib.specs.Help.{
  help_or_version_of,
  text_of_argument,
}
pub use Rattle.acpi_pack_lib.specs.Listing.{
  AreNamed,
  label_text,
  labels_of,
  name_of,
  record_lines,
  table_label,
}
pub use Rattle.acpi_pack_lib.specs.Outcome.{
  IsFormOf,
  Packs,
  left_out_by,
  left_out_lines,
  packed_by,
  refused_line,
  refused_name,
}
pub use Rattle.acpi_pack_lib.specs.Pack.{
  RefusesOrRunsOut,
  all_regions,
  check_places,
  dsdt_address,
  dsdt_at,
  file_of,
  first_address,
  fixed_of,
  listed_or,
  regions,
  rsdp_address,
  rsdp_place,
  unless_second,
}
unfoldable pub use Rattle.acpi_pack_lib.specs.Pack.{
  check_place,
  laid_out,
  packed_files,
  packed_tables,
}
pub use Rattle.acpi_pack_lib.specs.Packed.{
  IsMemoryFile,
  IsPacked,
  IsRight,
  opened_with,
}
pub use Rattle.acpi_pack_lib.specs.Place.{
  ArePlaced,
  IsPlaced,
  aligned,
  place_or,
  placed_from,
  room,
}
unfoldable pub use Rattle.acpi_pack_lib.specs.Place.{
  place_at,
  start_at,
}
pub use Rattle.acpi_pack_lib.specs.Plain.{
  HasNoPlain,
  IsPlainOf,
  LiesIn,
  end_from,
  end_in,
  first_from,
  first_in,
  with_bytes,
  with_regions,
}
pub use Rattle.acpi_pack_lib.specs.Program.{
  Does,
  IsOutcome,
  IsOutcomeFor,
  Runs,
  SavesOutcome,
  SavesRead,
  files_named,
}
pub use Rattle.acpi_pack_lib.specs.Sources.{
  bytes_in,
  bytes_of,
  check_contents,
  check_tables,
  entries,
  is_dsdt,
  is_of,
  is_unlisted,
  listed,
}
pub use Rattle.acpi_pack_lib.specs.Sums.{
  all_summed,
  has_sum,
  is_unsummed,
  sources_for,
}
unfoldable pub use Rattle.acpi_pack_lib.specs.Sums.{summed}
pub use Rattle.acpi_pack_lib.specs.Texts.{
  file_error_text,
  refusal_text,
}
pub use Rattle.acpi_pack_lib.specs.declared.error.Refusal.{Refusal}
pub use Rattle.acpi_pack_lib.specs.declared.error.Refusal.TheVariants.{
  NoRoom,
  OutOfMemory,
}
pub use Rattle.acpi_pack_lib.specs.declared.sources.FileRole.{FileRole}
pub use Rattle.acpi_pack_lib.specs.declared.sources.FileRole.TheVariants.{
  Dsdt,
  Listed,
}
