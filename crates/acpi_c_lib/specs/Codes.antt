-- The numbers that C gets for errors, as in `enum zacpi_status_code` in include/zacpi.h, and the signatures. 99 is for
-- the errors that no call returns.
use Rattle.std.specs.Prelude.{ℕ, Option, Some, None}
use Rattle.acpi_bytes.specs.declared.error.AcpiError.TheVariants as acpi
use Rattle.acpi_bytes.specs.declared.error.MadtError.TheVariants as madt
use Rattle.acpi_c_lib.specs.Types.{AcpiError, MadtError, Signature, Refusal, WriterError}
use Rattle.acpi_c_lib.specs.declared.refusal.Refusal.TheVariants as refusal
use Rattle.acpi_table_writer.specs.declared.error.WriterError.TheVariants as writer

-- the number of an error of the MADT's entries (section 5.2.12); 99 is for the one that no call returns
abbrev pub madt_code : MadtError → ℕ
madt_code madt.UnexpectedEntry = 44
madt_code madt.InterruptOverrideEntryHasInvalidBus = 45
madt_code madt.InvalidLocalNmiLine = 46
madt_code madt.MpsIntiInvalidPolarity = 47
madt_code madt.MpsIntiInvalidTriggerMode = 48
madt_code madt.InvalidEntryLength = 49
madt_code madt.WakeupApsTimeout = 99

abbrev pub acpi_code : AcpiError → ℕ
acpi_code acpi.MapFailed = 10
acpi_code acpi.NoValidRsdp = 11
acpi_code acpi.RsdpIncorrectSignature = 12
acpi_code acpi.RsdpInvalidOemId = 13
acpi_code acpi.RsdpInvalidChecksum = 14
acpi_code (acpi.SdtInvalidSignature s) = 20
acpi_code (acpi.SdtInvalidOemId s) = 21
acpi_code (acpi.SdtInvalidTableId s) = 22
acpi_code (acpi.SdtInvalidLength s) = 23
acpi_code (acpi.SdtInvalidChecksum s) = 24
acpi_code (acpi.TableMissing s) = 25
acpi_code acpi.InvalidDsdtAddress = 30
acpi_code acpi.InvalidGenericAddress = 31
acpi_code acpi.InvalidFacsAddress = 99
acpi_code acpi.InvalidNamespaceString = 99
acpi_code acpi.AllocError = 99
acpi_code (acpi.InvalidMadt e) = madt_code e

-- the number of an error of the crate `acpi` that carries no other, else 0
abbrev pub own_acpi_code : AcpiError → ℕ
own_acpi_code (acpi.InvalidMadt e) = 0
own_acpi_code e = acpi_code e

-- the number of an error of a table that is written; 99 is for the errors that no call returns
abbrev pub writer_code : WriterError → ℕ
writer_code writer.NoProcessor = 61
writer_code writer.IdOfAll = 62
writer_code writer.UidOfAll = 63
writer_code writer.BadMatrix = 64
writer_code writer.NoAddress = 65
writer_code writer.BadName = 66
writer_code writer.NoRoom = 67
writer_code writer.TooLong = 68
writer_code writer.BadRegister = 69
writer_code writer.BadRange = 70
writer_code writer.SameAsBus = 71
writer_code writer.TooManyFrames = 72
writer_code writer.HasHeader = 74
writer_code writer.BadProfile = 99
writer_code writer.BadCode = 99
writer_code writer.LongName = 99

-- each is above 0, which means success
abbrev pub code_of : Refusal → ℕ
code_of refusal.RegionsNotAscending = 1
code_of refusal.RegionTooHigh = 2
code_of refusal.UnknownStart = 3
code_of refusal.RangeTooHigh = 4
code_of refusal.UnknownWidth = 5
code_of refusal.NoSuchState = 6
code_of refusal.UnknownPolicy = 7
code_of refusal.NoSuchFunction = 32
code_of refusal.NoRegister = 33
code_of refusal.NoReset = 34
code_of refusal.SleepStateAbsent = 35
code_of refusal.SleepStateNotSeen = 36
code_of (refusal.AmlInvalid s) = 37
code_of refusal.SleepTypeTooHigh = 38
code_of refusal.NoApics = 40
code_of refusal.NoGic = 41
code_of refusal.NoSuchInterrupt = 42
code_of refusal.NoSuchIoApic = 43
code_of refusal.InvalidSratEntryLength = 50
code_of refusal.InvalidMemoryRange = 51
code_of refusal.NoDomain = 52
code_of refusal.NoDistance = 53
code_of refusal.InvalidIommuStructureLength = 54
code_of refusal.InvalidIommuMemoryRange = 55
code_of refusal.NoIommu = 56
code_of refusal.InvalidTimerLength = 57
code_of refusal.NoRiscv = 58
code_of refusal.ShortRiscvEntry = 59
code_of refusal.UnknownCode = 60
code_of refusal.BadTable = 73
code_of (refusal.Writer e) = writer_code e
code_of (refusal.Acpi e) = acpi_code e

-- the number of an error that carries no other, else 0
abbrev pub own_code : Refusal → ℕ
own_code (refusal.Writer e) = 0
own_code (refusal.Acpi e) = 0
own_code r = code_of r

-- ---- the signatures that errors carry

abbrev pub carried : AcpiError → Option Signature
carried (acpi.SdtInvalidSignature s) = Some s
carried (acpi.SdtInvalidOemId s) = Some s
carried (acpi.SdtInvalidTableId s) = Some s
carried (acpi.SdtInvalidLength s) = Some s
carried (acpi.SdtInvalidChecksum s) = Some s
carried (acpi.TableMissing s) = Some s
carried _ = None

abbrev pub signature_of : Refusal → Option Signature
signature_of (refusal.Acpi e) = carried e
signature_of (refusal.AmlInvalid s) = Some s
signature_of _ = None
