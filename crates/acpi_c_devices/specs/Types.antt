-- Made by scripts/words: what the files of this crate bring in from the crates below, and its types.
pub use Rattle.acpi.specs.Types.{
  AddressSpace,
  BGRT,
  GenericAddress,
  GpeBlock,
  McfgEntry,
  SLIT,
  SPCR,
  SystemMemory,
  Undefined,
}
pub use Rattle.acpi.specs.Words.{fadt_kind}
pub use Rattle.acpi_base.specs.FromStd.{
  Bor,
  is_some,
  result_unwrap_or,
}
pub use Rattle.acpi_base.specs.Spcr.{base_of}
pub use Rattle.acpi_base.specs.Words.{
  Kind,
  access_size_of,
  baud_of,
  bits_of,
  bus_of,
  clock_of,
  device_id_of,
  device_of,
  function_of,
  has_bit,
  interface_of,
  irq_of,
  is_left,
  sdt_kind,
  size_code,
  space_code,
  space_of,
  vendor_id_of,
  ◌>>=◌,
}
unfoldable pub use Rattle.acpi_base.specs.Words.{
  field_of,
  spcr_at,
}
pub use Rattle.acpi_c_devices.specs.declared.fixed.records.Console.{Console}
pub use Rattle.acpi_c_devices.specs.declared.fixed.records.EcamRange.{EcamRange}
pub use Rattle.acpi_c_devices.specs.declared.fixed.records.FixedHardware.{FixedHardware}
pub use Rattle.acpi_c_devices.specs.declared.iommu.records.DmarAffinity.{DmarAffinity}
pub use Rattle.acpi_c_devices.specs.declared.iommu.records.DmarFlags.{DmarFlags}
pub use Rattle.acpi_c_devices.specs.declared.iommu.records.DmarReserved.{DmarReserved}
pub use Rattle.acpi_c_devices.specs.declared.iommu.records.DmarRootPorts.{DmarRootPorts}
pub use Rattle.acpi_c_devices.specs.declared.iommu.records.DmarScope.{DmarScope}
pub use Rattle.acpi_c_devices.specs.declared.iommu.records.DmarSource.{DmarSource}
pub use Rattle.acpi_c_devices.specs.declared.iommu.records.DmarUnit.{DmarUnit}
pub use Rattle.acpi_c_devices.specs.declared.iommu.records.IvrsDevice.{IvrsDevice}
pub use Rattle.acpi_c_devices.specs.declared.iommu.records.IvrsEntry.{IvrsEntry}
pub use Rattle.acpi_c_devices.specs.declared.iommu.records.IvrsMemory.{IvrsMemory}
pub use Rattle.acpi_c_devices.specs.declared.iommu.records.IvrsUnit.{IvrsUnit}
pub use Rattle.acpi_c_devices.specs.declared.numa.records.GenericInitiator.{GenericInitiator}
pub use Rattle.acpi_c_devices.specs.declared.numa.records.ItsAffinity.{ItsAffinity}
pub use Rattle.acpi_c_devices.specs.declared.numa.records.Localities.{Localities}
pub use Rattle.acpi_c_devices.specs.declared.numa.records.MemoryAffinity.{MemoryAffinity}
pub use Rattle.acpi_c_devices.specs.declared.numa.records.ProcessorAffinity.{ProcessorAffinity}
pub use Rattle.acpi_c_devices.specs.declared.power.records.Step.{Step}
pub use Rattle.acpi_c_devices.specs.declared.records.BootGraphic.{BootGraphic}
pub use Rattle.acpi_c_devices.specs.declared.records.PciRegion.{PciRegion}
pub use Rattle.acpi_c_devices.specs.declared.records.Register.{Register}
pub use Rattle.acpi_c_devices.specs.declared.written_records.SratContents.{SratContents}
pub use Rattle.acpi_c_lib.specs.declared.entry_faults.EntryFault.{EntryFault}
pub use Rattle.acpi_c_lib.specs.declared.records.Source.{Source}
pub use Rattle.acpi_c_lib.specs.declared.refusal.Refusal.{Refusal}
pub use Rattle.acpi_c_lib.specs.declared.refusal.Refusal.TheVariants.{
  InvalidMemoryRange,
  InvalidSratEntryLength,
  NoDistance,
  NoDomain,
  NoIommu,
  NoSuchFunction,
  NoSuchState,
  SleepStateAbsent,
  SleepStateNotSeen,
  SleepTypeTooHigh,
}
pub use Rattle.acpi_fixed.specs.Words.{
  image_type_of,
  offset_of,
  profile_for,
  rank_of,
  status_of,
}
unfoldable pub use Rattle.acpi_fixed.specs.Words.{
  bgrt_at,
  fadt_at,
}
pub use Rattle.acpi_iommu.specs.declared.dmar.Dmar.{Dmar}
pub use Rattle.acpi_iommu.specs.declared.dmar.fields.Drhd.{Drhd}
pub use Rattle.acpi_iommu.specs.declared.dmar.fields.Rmrr.{Rmrr}
pub use Rattle.acpi_iommu.specs.declared.dmar.scope.Hop.{Hop}
pub use Rattle.acpi_iommu.specs.declared.dmar.units.UnitSource.{UnitSource}
pub use Rattle.acpi_iommu.specs.declared.error.IommuError.{IommuError}
pub use Rattle.acpi_iommu.specs.declared.error.IommuError.TheVariants.{InvalidStructureLength}
pub use Rattle.acpi_iommu.specs.declared.ivrs.block.Ivhd.{Ivhd}
pub use Rattle.acpi_iommu.specs.declared.ivrs.block.Ivmd.{Ivmd}
pub use Rattle.acpi_iommu.specs.declared.ivrs.blocks.DeviceUnit.{DeviceUnit}
pub use Rattle.acpi_iommu.specs.declared.ivrs.entry.SpecialDevice.{SpecialDevice}
pub use Rattle.acpi_numa.specs.Words.{
  IsSane,
  domain_of_apic,
  domain_of_processor,
  ends_below,
  entry_of,
  localities_of,
  ranges_of,
  revision_of,
  srat_kind,
}
unfoldable pub use Rattle.acpi_numa.specs.Words.{distance_of}
pub use Rattle.acpi_sleep.specs.declared.error.PlanError.{PlanError}
pub use Rattle.acpi_sleep.specs.declared.error.SleepError.{SleepError}
pub use Rattle.acpi_sleep.specs.declared.plan.Plan.{Plan}
pub use Rattle.acpi_sleep.specs.declared.plan.PlanStep.{PlanStep}
pub use Rattle.acpi_sleep.specs.declared.plan.StepKind.{StepKind}
pub use Rattle.acpi_sleep.specs.declared.sleep.SleepTypes.{SleepTypes}
pub use Rattle.acpi_table_writer.specs.declared.error.WriterError.{WriterError}
pub use Rattle.acpi_table_writer.specs.declared.ids.TableIds.{TableIds}
pub use Rattle.acpi_writer.specs.Types.{
  HpetInfo,
  MemoryRange,
  PmTimer,
}
unfoldable pub use Rattle.acpi_writer.specs.Words.{spcr_written}
pub use Rattle.acpi_writer.specs.declared.bgrt.BgrtContents.{BgrtContents}
pub use Rattle.acpi_writer.specs.declared.bgrt.BgrtOrientation.{BgrtOrientation}
pub use Rattle.acpi_writer.specs.declared.bgrt.BgrtOrientation.TheVariants.{
  Degrees0,
  Degrees180,
  Degrees270,
  Degrees90,
}
pub use Rattle.acpi_writer.specs.declared.facs.FacsContents.{FacsContents}
pub use Rattle.acpi_writer.specs.declared.fadt.contents.FadtContents.{FadtContents}
pub use Rattle.acpi_writer.specs.declared.fadt.contents.FadtHardware.{FadtHardware}
pub use Rattle.acpi_writer.specs.declared.fadt.contents.FadtHardware.TheVariants.{
  Fixed,
  Reduced,
}
pub use Rattle.acpi_writer.specs.declared.fadt.contents.LegacyFields.{LegacyFields}
pub use Rattle.acpi_writer.specs.declared.made.fadt.ArmBootFeatures.{ArmBootFeatures}
pub use Rattle.acpi_writer.specs.declared.made.fadt.FixedFeatures.{FixedFeatures}
pub use Rattle.acpi_writer.specs.declared.made.fadt.PcBootFeatures.{PcBootFeatures}
pub use Rattle.acpi_writer.specs.declared.spcr.SpcrContents.{SpcrContents}
pub use Rattle.acpi_writer.specs.declared.spcr.SpcrPciDevice.{SpcrPciDevice}
