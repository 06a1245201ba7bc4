-- Made by scripts/words: what the files of this crate bring in from the crates below, and its types.
pub use Rattle.acpi_base.specs.declared.memory.guarded.Guarded.{Guarded}
pub use Rattle.acpi_base.specs.declared.model.builder.ModelBuilder.{ModelBuilder}
pub use Rattle.acpi_base.specs.declared.model.counts.Counts.{Counts}
pub use Rattle.acpi_base.specs.declared.model.interrupt.Apic.{Apic}
pub use Rattle.acpi_base.specs.declared.model.interrupt.InterruptModel.{InterruptModel}
pub use Rattle.acpi_base.specs.declared.model.interrupt.InterruptSourceOverride.{InterruptSourceOverride}
pub use Rattle.acpi_base.specs.declared.model.interrupt.IoApic.{IoApic}
pub use Rattle.acpi_base.specs.declared.model.interrupt.LocalInterruptLine.{LocalInterruptLine}
pub use Rattle.acpi_base.specs.declared.model.interrupt.LocalInterruptLine.TheVariants.{
  Lint0,
  Lint1,
}
pub use Rattle.acpi_base.specs.declared.model.interrupt.NmiLine.{NmiLine}
pub use Rattle.acpi_base.specs.declared.model.interrupt.NmiProcessor.{NmiProcessor}
pub use Rattle.acpi_base.specs.declared.model.interrupt.NmiProcessor.TheVariants.{
  All,
  ProcessorUid,
}
pub use Rattle.acpi_base.specs.declared.model.interrupt.NmiSource.{NmiSource}
pub use Rattle.acpi_base.specs.declared.model.interrupt.Polarity.{Polarity}
pub use Rattle.acpi_base.specs.declared.model.interrupt.TriggerMode.{TriggerMode}
pub use Rattle.acpi_base.specs.declared.model.isa.IsaInterrupt.{IsaInterrupt}
pub use Rattle.acpi_base.specs.declared.model.item.MadtItem.{MadtItem}
pub use Rattle.acpi_base.specs.declared.model.items.MadtItems.{MadtItems}
pub use Rattle.acpi_base.specs.declared.model.nmi_lines.LocalNmiLines.{LocalNmiLines}
pub use Rattle.acpi_base.specs.declared.model.pin.IoApicPin.{IoApicPin}
pub use Rattle.acpi_base.specs.declared.model.processor.Processor.{Processor}
pub use Rattle.acpi_base.specs.declared.model.processor.ProcessorInfo.{ProcessorInfo}
pub use Rattle.acpi_base.specs.declared.model.processor.ProcessorState.{ProcessorState}
pub use Rattle.acpi_base.specs.declared.model.processor.ProcessorState.TheVariants.{
  Disabled,
  Running,
  WaitingForSipi,
}
pub use Rattle.acpi_base.specs.declared.tables.madt.Madt.{Madt}
pub use Rattle.acpi_base.specs.declared.tables.madt.apic.InterruptSourceOverrideEntry.{InterruptSourceOverrideEntry}
pub use Rattle.acpi_base.specs.declared.tables.madt.apic.IoApicEntry.{IoApicEntry}
pub use Rattle.acpi_base.specs.declared.tables.madt.apic.LocalApicAddressOverrideEntry.{LocalApicAddressOverrideEntry}
pub use Rattle.acpi_base.specs.declared.tables.madt.apic.LocalApicEntry.{LocalApicEntry}
pub use Rattle.acpi_base.specs.declared.tables.madt.apic.LocalApicNmiEntry.{LocalApicNmiEntry}
pub use Rattle.acpi_base.specs.declared.tables.madt.apic.LocalX2ApicEntry.{LocalX2ApicEntry}
pub use Rattle.acpi_base.specs.declared.tables.madt.apic.NmiSourceEntry.{NmiSourceEntry}
pub use Rattle.acpi_base.specs.declared.tables.madt.apic.X2ApicNmiEntry.{X2ApicNmiEntry}
pub use Rattle.acpi_base.specs.declared.tables.madt.entry.EntryHeader.{EntryHeader}
pub use Rattle.acpi_base.specs.declared.tables.madt.entry.MadtEntry.{MadtEntry}
pub use Rattle.acpi_base.specs.declared.tables.madt.gic.GicInterruptTranslationServiceEntry.{GicInterruptTranslationServiceEntry}
pub use Rattle.acpi_base.specs.declared.tables.madt.gic.GicMsiFrameEntry.{GicMsiFrameEntry}
pub use Rattle.acpi_base.specs.declared.tables.madt.gic.GicRedistributorEntry.{GicRedistributorEntry}
pub use Rattle.acpi_base.specs.declared.tables.madt.gic.GiccEntry.{GiccEntry}
pub use Rattle.acpi_base.specs.declared.tables.madt.gic.GicdEntry.{GicdEntry}
pub use Rattle.acpi_base.specs.declared.tables.madt.sapic.IoSapicEntry.{IoSapicEntry}
pub use Rattle.acpi_base.specs.declared.tables.madt.sapic.LocalSapicEntry.{LocalSapicEntry}
pub use Rattle.acpi_base.specs.declared.tables.madt.sapic.PlatformInterruptSourceEntry.{PlatformInterruptSourceEntry}
pub use Rattle.acpi_base.specs.declared.tables.madt.wakeup.MpProtectedModeWakeupCommand.{MpProtectedModeWakeupCommand}
pub use Rattle.acpi_base.specs.declared.tables.madt.wakeup.MpProtectedModeWakeupCommand.TheVariants.{
  AcceptPages,
  Noop,
  Sleep,
  Wakeup,
}
pub use Rattle.acpi_base.specs.declared.tables.madt.wakeup.MultiprocessorWakeupEntry.{MultiprocessorWakeupEntry}
pub use Rattle.acpi_base.specs.declared.tables.madt.walk.MadtEntryIter.{MadtEntryIter}
pub use Rattle.acpi_base.specs.declared.tables.mcfg.Mcfg.{Mcfg}
pub use Rattle.acpi_base.specs.declared.tables.mcfg.McfgEntry.{McfgEntry}
pub use Rattle.acpi_base.specs.declared.tables.mcfg.McfgEntryIter.{McfgEntryIter}
pub use Rattle.acpi_base.specs.declared.tables.spcr.Spcr.{Spcr}
pub use Rattle.acpi_base.specs.declared.tables.spcr.flags.SpcrFlowControl.{SpcrFlowControl}
pub use Rattle.acpi_base.specs.declared.tables.spcr.flags.SpcrInterruptType.{SpcrInterruptType}
pub use Rattle.acpi_base.specs.declared.tables.spcr.flags.SpcrTerminalType.{SpcrTerminalType}
pub use Rattle.acpi_base.specs.declared.tables.spcr.flags.TheConstants.SpcrFlowControl.{
  DCD,
  RTS_CTS,
  XON_XOFF,
}
pub use Rattle.acpi_base.specs.declared.tables.spcr.flags.TheConstants.SpcrInterruptType.{
  ARMH_GIC,
  DUAL_8259,
  IO_APIC,
  IO_SAPIC,
  RISCV_PLIC,
}
pub use Rattle.acpi_base.specs.declared.tables.spcr.flags.TheConstants.SpcrTerminalType.{
  ANSI,
  EXTENDED_VT1000,
  VT1000,
  VT_UTF8,
}
pub use Rattle.acpi_base.specs.declared.tables.spcr.interface.SpcrInterfaceType.{SpcrInterfaceType}
pub use Rattle.acpi_bytes.specs.declared.address.GenericAddress.{GenericAddress}
pub use Rattle.acpi_bytes.specs.declared.entries.EntryLayout.{EntryLayout}
pub use Rattle.acpi_bytes.specs.declared.entries.Grammar.{Grammar}
pub use Rattle.acpi_bytes.specs.declared.entries.Width.TheVariants.{One}
pub use Rattle.acpi_bytes.specs.declared.error.AcpiError.{AcpiError}
pub use Rattle.acpi_bytes.specs.declared.error.AcpiError.TheVariants.{
  InvalidGenericAddress,
  InvalidMadt,
  InvalidNamespaceString,
  SdtInvalidChecksum,
  SdtInvalidLength,
  SdtInvalidOemId,
  SdtInvalidSignature,
  SdtInvalidTableId,
}
pub use Rattle.acpi_bytes.specs.declared.error.MadtError.{MadtError}
pub use Rattle.acpi_bytes.specs.declared.error.MadtError.TheVariants.{
  InterruptOverrideEntryHasInvalidBus,
  InvalidEntryLength,
  InvalidLocalNmiLine,
  MpsIntiInvalidPolarity,
  MpsIntiInvalidTriggerMode,
  UnexpectedEntry,
}
pub use Rattle.acpi_bytes.specs.declared.header.SdtHeader.{SdtHeader}
pub use Rattle.acpi_bytes.specs.declared.range.AddressRange.{AddressRange}
pub use Rattle.acpi_bytes.specs.declared.signature.Signature.{Signature}
