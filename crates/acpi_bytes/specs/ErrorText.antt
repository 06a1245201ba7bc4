-- How an error is printed.
use Rattle.std.specs.Prelude.{ℕ, List, ◌++◌, codes}
use Rattle.acpi_bytes.specs.Types.{AcpiError, MadtError}
use Rattle.acpi_bytes.specs.declared.error.AcpiError.TheVariants as refusal
use Rattle.acpi_bytes.specs.declared.error.MadtError.TheVariants as madt
use Rattle.acpi_bytes.specs.Text.{signature_text}

-- the variant's name
abbrev pub madt_error_text : MadtError → List ℕ
madt_error_text madt.UnexpectedEntry = codes "UnexpectedEntry"
madt_error_text madt.InterruptOverrideEntryHasInvalidBus =
    codes "InterruptOverrideEntryHasInvalidBus"
madt_error_text madt.InvalidLocalNmiLine = codes "InvalidLocalNmiLine"
madt_error_text madt.MpsIntiInvalidPolarity = codes "MpsIntiInvalidPolarity"
madt_error_text madt.MpsIntiInvalidTriggerMode = codes "MpsIntiInvalidTriggerMode"
madt_error_text madt.WakeupApsTimeout = codes "WakeupApsTimeout"
madt_error_text madt.InvalidEntryLength = codes "InvalidEntryLength"

-- the variant's name, and after a space what it contains
abbrev pub error_text : AcpiError → List ℕ
error_text refusal.NoValidRsdp = codes "NoValidRsdp"
error_text refusal.RsdpIncorrectSignature = codes "RsdpIncorrectSignature"
error_text refusal.RsdpInvalidOemId = codes "RsdpInvalidOemId"
error_text refusal.RsdpInvalidChecksum = codes "RsdpInvalidChecksum"
error_text (refusal.SdtInvalidSignature s) = codes "SdtInvalidSignature " ++ signature_text s
error_text (refusal.SdtInvalidOemId s) = codes "SdtInvalidOemId " ++ signature_text s
error_text (refusal.SdtInvalidTableId s) = codes "SdtInvalidTableId " ++ signature_text s
error_text (refusal.SdtInvalidChecksum s) = codes "SdtInvalidChecksum " ++ signature_text s
error_text (refusal.TableMissing s) = codes "TableMissing " ++ signature_text s
error_text refusal.InvalidFacsAddress = codes "InvalidFacsAddress"
error_text refusal.InvalidDsdtAddress = codes "InvalidDsdtAddress"
error_text (refusal.InvalidMadt e) = codes "InvalidMadt " ++ madt_error_text e
error_text refusal.InvalidGenericAddress = codes "InvalidGenericAddress"
error_text refusal.AllocError = codes "AllocError"
error_text refusal.MapFailed = codes "MapFailed"
error_text (refusal.SdtInvalidLength s) = codes "SdtInvalidLength " ++ signature_text s
error_text refusal.InvalidNamespaceString = codes "InvalidNamespaceString"
