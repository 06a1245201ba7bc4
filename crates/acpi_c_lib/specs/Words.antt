-- Made by scripts/words: what proofs, contracts and the crates above bring in from this crate's specs.
pub use Rattle.acpi.specs.Search.{IsFound}
pub use Rattle.acpi.specs.Types.{
  AddressRange,
  EntryLayout,
  Four,
  Grammar,
  MapFailed,
  One,
  Two,
  Width,
}
pub use Rattle.acpi.specs.Words.{
  IsAscending,
  IsFirstIn,
  length_ranges,
}
unfoldable pub use Rattle.acpi.specs.Words.{
  accepted_rsdp_at,
  word_in,
}
pub use Rattle.acpi_base.specs.FromStd.{
  AllByRecursion,
  IsPartitionPoint,
  concat,
  is_ok,
  result_unwrap_or,
}
pub use Rattle.acpi_base.specs.Words.{
  AreApart,
  IsBytes,
  IsEntry,
  IsMemory,
  IsRegion,
  Memory,
  after_one,
  end_of,
  lies_in,
  number_in,
  with_entry,
  ◌>>=◌,
}
unfoldable pub use Rattle.acpi_base.specs.Words.{
  at,
  cut,
  rest_from,
}
pub use Rattle.acpi_c_lib.specs.Answers.{
  Answers,
  AnswersList,
  AnswersPlain,
  AnswersSome,
  Fills,
  GivesSome,
  Writes,
  flag,
  items_beside,
  items_said,
  name_or,
  put_from,
  result_map,
}
pub use Rattle.acpi_c_lib.specs.Below.{
  AcpiError,
  Refusal,
  Source,
  check_policy,
  ebda_in,
  opened_in,
  refused_as,
  root_pointer_in,
  rsdp_in,
  rsdp_place_in,
}
unfoldable pub use Rattle.acpi_c_lib.specs.Below.{
  first_table,
  found_table,
}
pub use Rattle.acpi_c_lib.specs.Clip.{
  AnswersClip,
  AreInOrder,
  FillsClipped,
  IsNext,
  IsOrdered,
  Range,
  all_fit,
  any_holds,
  ascends_from,
  change_in,
  change_of,
  fits,
  holds,
  wanted,
}
pub use Rattle.acpi_c_lib.specs.Copied.{
  ends_early,
  padded,
  source_of_rsdp,
  started_by,
}
pub use Rattle.acpi_c_lib.specs.Entries.{
  entries_below,
  entries_from,
  entries_said,
  entry_record,
  left_said,
  number_place,
  plain_grammar,
  walk_layout,
  width_of_bytes,
}
pub use Rattle.acpi_c_lib.specs.EntryFaults.{
  entry_fault,
  fault_at,
  faults_from,
  rest_faults,
}
pub use Rattle.acpi_c_lib.specs.Facs.{
  facs_below,
  facs_in,
}
pub use Rattle.acpi_c_lib.specs.Faults.{
  accepted_fault,
  fault_record,
  faults_among,
  faults_below,
  kind_named,
}
unfoldable pub use Rattle.acpi_c_lib.specs.Faults.{least_named}
pub use Rattle.acpi_c_lib.specs.FoundRsdp.{
  rsdp_below,
  rsdp_record,
}
pub use Rattle.acpi_c_lib.specs.Held.{mapped_memory}
pub use Rattle.acpi_c_lib.specs.Listed.{
  lists_by,
  lists_each,
  lists_some,
}
pub use Rattle.acpi_c_lib.specs.Located.{
  LiesOnlyAt,
  Place,
  located,
  spot_from,
}
pub use Rattle.acpi_c_lib.specs.Members.{
  member_at,
  member_status,
  members_below,
  unmapped,
}
pub use Rattle.acpi_c_lib.specs.Missing.{
  Areas,
  CandidatesLackRanges,
  DsdtAndFacsLackRanges,
  Fits,
  IsUnmapped,
  MembersLackRanges,
  OpeningLacksRange,
  areas_missing_ranges,
  areas_of,
  dsdt_missing_range,
  last_range,
  member_missing_range,
  missing_below,
  missing_in,
  missing_range,
  no_areas,
  opening_missing_range,
  pieces,
  range_of,
  root_missing_range,
  rsdp_missing_range,
  stretch,
  table_missing_range,
  unmapped_range,
}
unfoldable pub use Rattle.acpi_c_lib.specs.Missing.{
  candidate_missing_range,
  candidate_missing_ranges,
  has_valid,
  walk_missing_ranges,
}
pub use Rattle.acpi_c_lib.specs.Parts.{
  AnswersListFrom,
  FillsFrom,
  WritesFrom,
  items_from,
}
pub use Rattle.acpi_c_lib.specs.RangeOrder.{
  AreSorted,
  IsGreatestBelow,
  IsHeap,
  KeepsFrom,
  begins,
  cut_from,
  end_after,
  rest_of,
}
pub use Rattle.acpi_c_lib.specs.Redistributors.{
  is_short,
  redistributors_of,
}
pub use Rattle.acpi_c_lib.specs.Refusals.{
  iommu_refusal,
  plan_refusal,
  sleep_refusal,
}
pub use Rattle.acpi_c_lib.specs.Regions.{
  Region,
  check_from,
  check_regions,
  memory_in,
  memory_of,
  region_of,
}
pub use Rattle.acpi_c_lib.specs.Shown.{
  aml_at,
  dsdt_below,
  root_below,
  signature_named,
  ssdt_in,
  ssdts_below,
  ssdts_in,
  table_below,
  table_in,
  table_record,
  table_there,
  tables_below,
  tables_in,
}
pub use Rattle.acpi_c_lib.specs.SkippedLaws.{
  FaultsAreTheirs,
  IsNoRsdp,
  IsSkipped,
  RangesAreTheirs,
  RsdpEndsRanges,
  TakenEndsFaults,
  candidates_from,
  skipped,
  skipped_by,
}
pub use Rattle.acpi_c_lib.specs.Walked.{
  dsdt_and_facs_ranges,
  dsdt_range,
  facs_range,
  nth_below,
  nth_in,
  range_in,
  ranges_below,
}
pub use Rattle.acpi_c_lib.specs.declared.refusal.Refusal.TheVariants.{
  Acpi,
  UnknownStart,
  Writer,
}
