-- Made by scripts/words: what the files of this crate bring in from the crates below, and its types.
pub use Rattle.acpi.specs.declared.hpet.HpetInfo.{HpetInfo}
pub use Rattle.acpi.specs.declared.hpet.HpetTable.{HpetTable}
pub use Rattle.acpi.specs.declared.hpet.PageProtection.{PageProtection}
pub use Rattle.acpi.specs.declared.mcfg.ecam.EcamRanges.{EcamRanges}
pub use Rattle.acpi.specs.declared.platform.PlatformInfo.{PlatformInfo}
pub use Rattle.acpi.specs.declared.platform.timer.PmTimer.{PmTimer}
pub use Rattle.acpi.specs.declared.records.AmlTable.{AmlTable}
pub use Rattle.acpi.specs.declared.records.TableFault.{TableFault}
pub use Rattle.acpi.specs.declared.root.RootKind.{RootKind}
pub use Rattle.acpi.specs.declared.root.RootKind.TheVariants.{
  Rsdt,
  Xsdt,
}
pub use Rattle.acpi.specs.declared.root.RootPointer.{RootPointer}
pub use Rattle.acpi.specs.declared.rsdp.Rsdp.{Rsdp}
pub use Rattle.acpi.specs.declared.rsdp.bios.Area.{Area}
pub use Rattle.acpi_base.specs.declared.memory.mapping.PhysicalMapping.{PhysicalMapping}
pub use Rattle.acpi_base.specs.declared.model.interrupt.Apic.{Apic}
pub use Rattle.acpi_base.specs.declared.model.interrupt.InterruptModel.{InterruptModel}
pub use Rattle.acpi_base.specs.declared.model.interrupt.InterruptModel.TheVariants.{Unknown}
pub use Rattle.acpi_base.specs.declared.model.interrupt.InterruptSourceOverride.{InterruptSourceOverride}
pub use Rattle.acpi_base.specs.declared.model.interrupt.IoApic.{IoApic}
pub use Rattle.acpi_base.specs.declared.model.interrupt.LocalInterruptLine.{LocalInterruptLine}
pub use Rattle.acpi_base.specs.declared.model.interrupt.LocalInterruptLine.TheVariants.{
  Lint0,
  Lint1,
}
pub use Rattle.acpi_base.specs.declared.model.interrupt.NmiLine.{NmiLine}
pub use Rattle.acpi_base.specs.declared.model.interrupt.NmiProcessor.{NmiProcessor}
pub use Rattle.acpi_base.specs.declared.model.interrupt.NmiProcessor.TheVariants.{
  All,
  ProcessorUid,
}
pub use Rattle.acpi_base.specs.declared.model.interrupt.NmiSource.{NmiSource}
pub use Rattle.acpi_base.specs.declared.model.interrupt.Polarity.{Polarity}
pub use Rattle.acpi_base.specs.declared.model.interrupt.Polarity.TheVariants.{
  ActiveHigh,
  ActiveLow,
}
pub use Rattle.acpi_base.specs.declared.model.interrupt.TriggerMode.{TriggerMode}
pub use Rattle.acpi_base.specs.declared.model.interrupt.TriggerMode.TheVariants.{
  Edge,
  Level,
  SameAsBus,
}
pub use Rattle.acpi_base.specs.declared.model.isa.IsaInterrupt.{IsaInterrupt}
pub use Rattle.acpi_base.specs.declared.model.item.MadtItem.{MadtItem}
pub use Rattle.acpi_base.specs.declared.model.processor.Processor.{Processor}
pub use Rattle.acpi_base.specs.declared.model.processor.ProcessorInfo.{ProcessorInfo}
pub use Rattle.acpi_base.specs.declared.model.processor.ProcessorState.{ProcessorState}
pub use Rattle.acpi_base.specs.declared.model.processor.ProcessorState.TheVariants.{
  Disabled,
  Running,
  WaitingForSipi,
}
pub use Rattle.acpi_base.specs.declared.tables.madt.Madt.{Madt}
pub use Rattle.acpi_base.specs.declared.tables.madt.entry.MadtEntry.{MadtEntry}
pub use Rattle.acpi_base.specs.declared.tables.madt.gic.GicMsiFrameEntry.{GicMsiFrameEntry}
pub use Rattle.acpi_base.specs.declared.tables.madt.gic.GiccEntry.{GiccEntry}
pub use Rattle.acpi_base.specs.declared.tables.mcfg.McfgEntry.{McfgEntry}
pub use Rattle.acpi_base.specs.declared.tables.spcr.Spcr.{Spcr}
pub use Rattle.acpi_bytes.specs.declared.address.AccessSize.TheVariants.{
  ByteAccess,
  Undefined,
}
pub use Rattle.acpi_bytes.specs.declared.address.AddressSpace.{AddressSpace}
pub use Rattle.acpi_bytes.specs.declared.address.AddressSpace.TheVariants.{
  SystemIo,
  SystemMemory,
}
pub use Rattle.acpi_bytes.specs.declared.address.GenericAddress.{GenericAddress}
pub use Rattle.acpi_bytes.specs.declared.entries.EntryLayout.{EntryLayout}
pub use Rattle.acpi_bytes.specs.declared.entries.Grammar.{Grammar}
pub use Rattle.acpi_bytes.specs.declared.entries.Width.{Width}
pub use Rattle.acpi_bytes.specs.declared.entries.Width.TheVariants.{
  Four,
  One,
  Two,
}
pub use Rattle.acpi_bytes.specs.declared.error.AcpiError.{AcpiError}
pub use Rattle.acpi_bytes.specs.declared.error.AcpiError.TheVariants.{
  AllocError,
  InvalidDsdtAddress,
  InvalidFacsAddress,
  InvalidGenericAddress,
  InvalidMadt,
  MapFailed,
  NoValidRsdp,
  RsdpIncorrectSignature,
  RsdpInvalidChecksum,
  RsdpInvalidOemId,
  SdtInvalidChecksum,
  SdtInvalidLength,
  SdtInvalidOemId,
  SdtInvalidSignature,
  TableMissing,
}
pub use Rattle.acpi_bytes.specs.declared.error.MadtError.{MadtError}
pub use Rattle.acpi_bytes.specs.declared.error.MadtError.TheVariants.{
  InvalidEntryLength,
  UnexpectedEntry,
  WakeupApsTimeout,
}
pub use Rattle.acpi_bytes.specs.declared.header.SdtHeader.{SdtHeader}
pub use Rattle.acpi_bytes.specs.declared.range.AddressRange.{AddressRange}
pub use Rattle.acpi_bytes.specs.declared.signature.Signature.{Signature}
pub use Rattle.acpi_bytes.specs.declared.signature.TheConstants.Signature.{
  BGRT,
  DMAR,
  DSDT,
  FACS,
  FADT,
  GTDT,
  HPET,
  IVRS,
  MADT,
  MCFG,
  RSDT,
  SLIT,
  SPCR,
  SRAT,
  SSDT,
  WSMT,
  XSDT,
}
pub use Rattle.acpi_fixed.specs.declared.bgrt.Bgrt.{Bgrt}
pub use Rattle.acpi_fixed.specs.declared.bgrt.ImageType.TheVariants.{Bitmap}
pub use Rattle.acpi_fixed.specs.declared.fadt.Fadt.{Fadt}
pub use Rattle.acpi_fixed.specs.declared.fadt.PowerProfile.{PowerProfile}
pub use Rattle.acpi_fixed.specs.declared.fadt.PowerProfile.TheVariants.{Desktop}
pub use Rattle.acpi_fixed.specs.declared.fadt.flags.FixedFeatureFlags.{FixedFeatureFlags}
pub use Rattle.acpi_fixed.specs.declared.fadt.registers.RegisterBlock.{RegisterBlock}
pub use Rattle.acpi_fixed.specs.declared.fadt.registers.gpe.GpeBlock.{GpeBlock}
