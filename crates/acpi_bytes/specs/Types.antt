-- Made by scripts/words: what the files of this crate bring in from the crates below, and its types.
pub use Rattle.acpi_bytes.specs.declared.address.AccessSize.{AccessSize}
pub use Rattle.acpi_bytes.specs.declared.address.AccessSize.TheVariants.{
  ByteAccess,
  DWordAccess,
  QWordAccess,
  Undefined,
  WordAccess,
}
pub use Rattle.acpi_bytes.specs.declared.address.AddressSpace.{AddressSpace}
pub use Rattle.acpi_bytes.specs.declared.address.AddressSpace.TheVariants.{
  EmbeddedController,
  FunctionalFixedHardware,
  GeneralIo,
  GenericSerialBus,
  Ipmi,
  OemDefined,
  PciBarTarget,
  PciConfigSpace,
  PlatformCommunicationsChannel,
  SMBus,
  SystemCmos,
  SystemIo,
  SystemMemory,
}
pub use Rattle.acpi_bytes.specs.declared.address.GenericAddress.{GenericAddress}
pub use Rattle.acpi_bytes.specs.declared.entries.EntryLayout.{EntryLayout}
pub use Rattle.acpi_bytes.specs.declared.entries.Grammar.{Grammar}
pub use Rattle.acpi_bytes.specs.declared.entries.Place.{Place}
pub use Rattle.acpi_bytes.specs.declared.entries.Width.{Width}
pub use Rattle.acpi_bytes.specs.declared.entries.Width.TheVariants.{
  Four,
  One,
  Two,
}
pub use Rattle.acpi_bytes.specs.declared.error.AcpiError.{AcpiError}
pub use Rattle.acpi_bytes.specs.declared.error.AcpiError.TheVariants.{
  AllocError,
  InvalidGenericAddress,
  MapFailed,
  SdtInvalidChecksum,
  SdtInvalidLength,
  SdtInvalidOemId,
  SdtInvalidSignature,
  SdtInvalidTableId,
}
pub use Rattle.acpi_bytes.specs.declared.error.MadtError.{MadtError}
pub use Rattle.acpi_bytes.specs.declared.extended.ExtendedField.{ExtendedField}
pub use Rattle.acpi_bytes.specs.declared.header.SdtHeader.{SdtHeader}
pub use Rattle.acpi_bytes.specs.declared.signature.Signature.{Signature}
pub use Rattle.acpi_bytes.specs.declared.signature.TheConstants.Signature.{
  AEST,
  BDAT,
  BERT,
  BGRT,
  CDIT,
  CEDT,
  CPEP,
  CRAT,
  CSRT,
  DBG2,
  DBGP,
  DMAR,
  DRTM,
  DSDT,
  ECDT,
  EINJ,
  ERST,
  ETDT,
  FACS,
  FADT,
  FPDT,
  GTDT,
  HEST,
  HPET,
  IBFT,
  IORT,
  IVRS,
  LPIT,
  MADT,
  MCFG,
  MCHI,
  MPAM,
  MPST,
  MSCT,
  MSDM,
  NFIT,
  PCCT,
  PHAT,
  PMTT,
  PRMT,
  PSDT,
  RASF,
  RGRT,
  RSDT,
  SBST,
  SDEI,
  SDEV,
  SLIC,
  SLIT,
  SPCR,
  SPMI,
  SRAT,
  SSDT,
  STAO,
  SVKL,
  TCPA,
  TPM2,
  UEFI,
  WAET,
  WDAT,
  WDRT,
  WPBT,
  WSMT,
  XENV,
  XSDT,
}
