-- Made by scripts/words: what the files of this crate bring in from the crates below, and its types.
pub use Rattle.acpi.specs.Types.{
  AcpiError,
  AddressSpace,
  BGRT,
  Bitmap,
  DSDT,
  FACS,
  FADT,
  GTDT,
  GenericAddress,
  GpeBlock,
  HPET,
  InvalidDsdtAddress,
  InvalidFacsAddress,
  MADT,
  MCFG,
  McfgEntry,
  PowerProfile,
  RegisterBlock,
  SLIT,
  SPCR,
  SRAT,
  SSDT,
  SdtInvalidChecksum,
  SdtInvalidLength,
  Signature,
  SystemIo,
  TableMissing,
  Undefined,
  XSDT,
}
pub use Rattle.acpi.specs.Words.{
  at_hand,
  by_first_fadt,
  bytes_found,
  check_whole,
  checked_length,
  dsdt_stream,
  facs_length_in,
  facs_place,
  fadt_kind,
  found_regions,
  hpet_of,
  lookup,
  model_in,
  opened_by_rsdp,
  or_later,
  platform_of,
  range,
  root_of_rsdp,
  root_pointer,
  rsdp_at,
  stream_of,
  timer_of,
  width_of,
}
unfoldable pub use Rattle.acpi.specs.Words.{
  check_rsdp,
  check_sum,
  facs_length,
  pointers,
  rsdp_of,
  stream_by,
}
pub use Rattle.acpi.specs.declared.hpet.HpetInfo.{HpetInfo}
pub use Rattle.acpi.specs.declared.platform.PlatformInfo.{PlatformInfo}
pub use Rattle.acpi.specs.declared.platform.timer.PmTimer.{PmTimer}
pub use Rattle.acpi.specs.declared.root.RootKind.{RootKind}
pub use Rattle.acpi.specs.declared.root.RootKind.TheVariants.{
  Rsdt,
  Xsdt,
}
pub use Rattle.acpi_arm.specs.Gic.{found_gic}
pub use Rattle.acpi_arm.specs.Gtdt.{gtdt_kind}
pub use Rattle.acpi_base.specs.FromStd.{
  AllByRecursion,
  list_all,
  option_or,
  result_ok,
}
unfoldable pub use Rattle.acpi_base.specs.FromStd.{
  chars,
  is_utf8,
}
pub use Rattle.acpi_base.specs.Words.{
  Gives,
  HoldsRange,
  IsBytes,
  IsMemory,
  Kind,
  Memory,
  Model,
  Region,
  baud_of,
  bits_of,
  bus_of,
  clock_of,
  configured_baud,
  device_id_of,
  device_of,
  filled_part,
  flow_bits,
  flow_byte,
  function_of,
  has_bit,
  holds,
  interface_code,
  interface_in,
  interface_of,
  interrupt_bits,
  interrupt_byte,
  interrupt_of,
  irq_of,
  is_interface,
  is_named_space,
  kind,
  lent,
  letters_of,
  namespace_of,
  own_table_at,
  part,
  plain_kind,
  sdt_kind,
  size_code,
  space_code,
  terminal_bits,
  terminal_byte,
  unless,
  vendor_id_of,
  ◌>>=◌,
}
unfoldable pub use Rattle.acpi_base.specs.Words.{
  at,
  check_names,
  check_table,
  field_of,
  generic_address_of,
  header_at,
  rest_from,
  spcr_at,
  spelling,
  sum_of,
  table_at,
}
pub use Rattle.acpi_base.specs.declared.model.interrupt.InterruptModel.TheVariants.{Apic}
pub use Rattle.acpi_fixed.specs.Words.{
  address_or,
  arm_bits,
  block_of,
  dsdt_address_of,
  extended_address,
  extended_number,
  facs_address_of,
  feature_bits,
  gpe_of,
  has_extended,
  image_type_of,
  is_profile,
  optional_block_of,
  pc_bits,
  pm_timer_of,
  profile_code,
  profile_for,
  profile_of,
  register_of,
  registers_of,
  status_of,
  timer_block_of,
  usable_extended,
}
unfoldable pub use Rattle.acpi_fixed.specs.Words.{
  bgrt_at,
  block_at,
  fadt_at,
}
pub use Rattle.acpi_image.specs.Words.{
  Plan,
  records_of,
  root_length,
  root_to,
  root_unsummed,
}
unfoldable pub use Rattle.acpi_image.specs.Words.{
  root_header,
  rsdp_to,
  sum_byte,
  with_sum,
  written,
}
pub use Rattle.acpi_numa.specs.Words.{srat_kind}
unfoldable pub use Rattle.acpi_numa.specs.Words.{distance_of}
pub use Rattle.acpi_numa.specs.declared.srat.affinities.MemoryRange.{MemoryRange}
pub use Rattle.acpi_table_writer.specs.Words.{
  GicContents,
  GtdtContents,
  MadtContents,
  SratContents,
}
pub use Rattle.acpi_table_writer.specs.declared.error.WriterError.{WriterError}
pub use Rattle.acpi_table_writer.specs.declared.error.WriterError.TheVariants.{
  BadCode,
  BadName,
  BadProfile,
  BadRegister,
  HasHeader,
  LongName,
  NoAddress,
  NoRoom,
  TooLong,
}
pub use Rattle.acpi_table_writer.specs.declared.fields.Field.{Field}
pub use Rattle.acpi_table_writer.specs.declared.fields.Field.TheVariants.{
  U16,
  U32,
  U64,
  U8,
  Zeros,
}
pub use Rattle.acpi_table_writer.specs.declared.ids.TableIds.{TableIds}
pub use Rattle.acpi_writer.specs.declared.bgrt.BgrtContents.{BgrtContents}
pub use Rattle.acpi_writer.specs.declared.bgrt.BgrtOrientation.{BgrtOrientation}
pub use Rattle.acpi_writer.specs.declared.contents.AmlContents.{AmlContents}
pub use Rattle.acpi_writer.specs.declared.contents.TableContents.{TableContents}
pub use Rattle.acpi_writer.specs.declared.contents.TableContents.TheVariants.{
  Bgrt,
  Fadt,
  GicMadt,
  Gtdt,
  Hpet,
  Madt,
  Mcfg,
  Slit,
  Spcr,
  Srat,
  Ssdt,
}
pub use Rattle.acpi_writer.specs.declared.facs.FacsContents.{FacsContents}
pub use Rattle.acpi_writer.specs.declared.fadt.contents.FadtContents.{FadtContents}
pub use Rattle.acpi_writer.specs.declared.fadt.contents.FadtHardware.{FadtHardware}
pub use Rattle.acpi_writer.specs.declared.fadt.contents.FadtHardware.TheVariants.{
  Fixed,
  Reduced,
}
pub use Rattle.acpi_writer.specs.declared.fadt.contents.FixedHardware.{FixedHardware}
pub use Rattle.acpi_writer.specs.declared.fadt.contents.LegacyFields.{LegacyFields}
pub use Rattle.acpi_writer.specs.declared.made.fadt.ArmBootFeatures.{ArmBootFeatures}
pub use Rattle.acpi_writer.specs.declared.made.fadt.FixedFeatures.{FixedFeatures}
pub use Rattle.acpi_writer.specs.declared.made.fadt.PcBootFeatures.{PcBootFeatures}
pub use Rattle.acpi_writer.specs.declared.spcr.SpcrContents.{SpcrContents}
pub use Rattle.acpi_writer.specs.declared.spcr.SpcrPciDevice.{SpcrPciDevice}
