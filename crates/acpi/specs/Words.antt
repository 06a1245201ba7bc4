-- Made by scripts/words: what proofs, contracts and the crates above bring in from this crate's specs.
pub use Rattle.acpi.specs.Areas.{
  IsCandidateIn,
  IsFirstIn,
  IsSearchedIn,
  NoneIn,
  accepted_opened_in_areas,
  accepted_opened_in_areas_ranges,
  areas_ranges,
  bios_areas,
  count_in,
  ebda_area,
  end_of,
  first_in,
  found_among,
  found_in_areas,
  is_refused_in,
  opened_in_areas,
  opened_in_areas_ranges,
  walk_in,
}
unfoldable pub use Rattle.acpi.specs.Areas.{accepted_in_areas}
pub use Rattle.acpi.specs.Ecam.{
  IsBeside,
  ecam_address,
  spans_left,
  spans_of,
}
pub use Rattle.acpi.specs.Footprint.{
  AllowsBelow,
  FootprintBelow,
  accepted_below,
  accepted_dsdt_ranges,
  accepted_root_ranges,
  below,
  dsdt_ranges,
  header_ranges,
  lookup_ranges,
  platform_ranges,
  root_ranges,
  ssdt_ranges,
}
pub use Rattle.acpi.specs.Hpet.{
  hpet_kind,
  hpet_of,
  info_of,
  protection_code,
  protection_of,
}
unfoldable pub use Rattle.acpi.specs.Hpet.{hpet_at}
pub use Rattle.acpi.specs.Later.{or_later}
pub use Rattle.acpi.specs.Laws.{
  LookupIsFirst,
  OnePointers,
  SecondAreas,
  SkipsInvalid,
  ValidEndsFaults,
}
pub use Rattle.acpi.specs.Lists.{
  accepted_dsdt,
  dsdt_stream,
  fadt_kind,
  faults_of,
  ssdt_streams,
  stream_of,
  streams_by,
  unless_valid,
  valid_headers,
  valid_tables,
  with_fault,
}
unfoldable pub use Rattle.acpi.specs.Lists.{
  own_header_at,
  stream_by,
}
pub use Rattle.acpi.specs.Lookup.{
  IsFirstValid,
  NoneValid,
  lookup,
}
pub use Rattle.acpi.specs.Members.{
  kind_ranges,
  members_of,
  tables_found,
}
unfoldable pub use Rattle.acpi.specs.Members.{found_at}
pub use Rattle.acpi.specs.Opened.{
  Opened,
  accepted_opened,
  accepted_opened_by_rsdp,
  accepted_opened_by_search,
  opened_at,
  opened_by_rsdp,
  opened_by_search,
  opened_from,
  opened_of,
}
pub use Rattle.acpi.specs.OpenedRanges.{
  accepted_opened_by_rsdp_ranges,
  accepted_opened_by_search_ranges,
  accepted_opened_ranges,
  accepted_rsdp_ranges,
  accepted_search_ranges,
  area_ranges,
  extended_ranges,
  length_ranges,
  opened_by_rsdp_ranges,
  opened_by_search_ranges,
  opened_ranges,
  or_else_ranges,
  reading_ranges,
  root_and_ranges,
  root_ranges_of,
  rsdp_ranges,
  search_ranges,
  walk_ranges,
}
pub use Rattle.acpi.specs.Pci.{
  IsApart,
  RegionsAsk,
  found_regions,
  function_address,
  is_of,
  mcfg_kind,
  place_in,
  shown_left,
}
unfoldable pub use Rattle.acpi.specs.Pci.{
  pci_address,
  region_of,
}
pub use Rattle.acpi.specs.Placed.{
  found_left,
  members_left,
  places_left,
  root_place,
}
pub use Rattle.acpi.specs.Places.{
  both_place_ranges,
  by_accepted_fadt,
  by_accepted_fadt_ranges,
  by_first_fadt,
  dsdt_and_facs_ranges,
  dsdt_place_ranges,
  facs_length_in,
  facs_place,
  facs_place_ranges,
  facs_ranges,
  place_ranges,
  places_of,
  range,
}
unfoldable pub use Rattle.acpi.specs.Places.{
  dsdt_place,
  facs_at,
  facs_length,
  place_at,
}
pub use Rattle.acpi.specs.Platform.{
  ModelAsks,
  PlatformAsks,
  madt_kind,
  model_in,
  platform_of,
}
pub use Rattle.acpi.specs.PlatformAnswer.{
  GivesPlatform,
  PlatformFootprint,
  PlatformRelocation,
}
pub use Rattle.acpi.specs.Pointers.{pointers_left}
pub use Rattle.acpi.specs.Regions.{
  IsAscending,
  IsAscending-prop,
  check_after,
  check_regions,
  region_memory,
  regions_of,
}
pub use Rattle.acpi.specs.Relocation.{
  FollowsTables,
  Relocation,
  bytes_found,
}
pub use Rattle.acpi.specs.Root.{
  IsPointers,
  accepted_root_at,
  kind_of_revision,
  pieces,
  root_at,
  root_kind,
  root_of_revision,
  root_pointer,
  signature_of,
  width_of,
}
unfoldable pub use Rattle.acpi.specs.Root.{pointers}
pub use Rattle.acpi.specs.Rsdp.{
  accepted_root,
  accepted_rsdp,
  at_hand,
  check_extended,
  check_length,
  check_whole,
  checked_length,
  extended_length_of,
  is_first_enough,
  root_of_rsdp,
  rsd_ptr,
  rsdp_at,
  unless_first,
}
unfoldable pub use Rattle.acpi.specs.Rsdp.{
  accepted_length,
  accepted_rsdp_at,
  check_first,
  check_rsdp,
  check_sum,
  rsdp_of,
}
pub use Rattle.acpi.specs.Search.{
  HasNone,
  IsFound,
  IsLeast,
  IsLent,
  IsRefused,
  IsSearched,
  IsSecond,
  area,
  count_of,
  first_area,
  found_rsdp,
  last_in,
  or_else,
  placed,
  room_of,
  second_area,
  walk,
}
unfoldable pub use Rattle.acpi.specs.Search.{
  accepted_found_rsdp,
  found_in,
  word_in,
}
pub use Rattle.acpi.specs.Tables.{
  SpellsPointers,
  accept_of,
  accepted_by,
  kind_of,
  lender_of,
  may_of,
  memory_of,
  of_tables,
  pointers_of,
  revision_of,
  root_address_of,
  root_of,
}
pub use Rattle.acpi.specs.Timer.{
  timer_from,
  timer_of,
}
pub use Rattle.acpi.specs.Types.{
  Area,
  RootKind,
  RootPointer,
  Rsdt,
  TableFault,
  Xsdt,
}
pub use Rattle.acpi.specs.Wake.{
  AfterReads,
  IsWakeup,
  Makes,
  MakesUntilWoken,
  NoneBelow,
  WakesOrWaits,
  mailbox_found,
  reads,
}
pub use Rattle.acpi.specs.Walks.{
  faults_left,
  headers_left,
  ssdts_left,
}
pub use Rattle.acpi.specs.declared.handler.region.MappedRegion.{MappedRegion}
pub use Rattle.acpi.specs.declared.platform.mailbox.MailboxCall.{MailboxCall}
pub use Rattle.acpi.specs.declared.platform.mailbox.MailboxCall.TheVariants.{Read}
pub use Rattle.acpi.specs.declared.tables.AcpiTables.{AcpiTables}
