-- The errors of other crates as C gets them.
use Rattle.acpi_iommu.specs.declared.error.IommuError.TheVariants as iommu
use Rattle.acpi_sleep.specs.declared.error.PlanError.TheVariants as plans
use Rattle.acpi_sleep.specs.declared.error.SleepError.TheVariants as errors
use Rattle.acpi_c_lib.specs.Types.{Acpi, AmlInvalid, InvalidIommuMemoryRange, InvalidIommuStructureLength, IommuError, NoRegister, NoReset, NoSuchState, PlanError, Refusal, SleepError, SleepTypeTooHigh}

-- of AML an error carries the signature of the table that the AML is of
abbrev pub sleep_refusal : SleepError → Refusal
sleep_refusal errors.NoSuchState = NoSuchState
sleep_refusal (errors.Aml s e) = AmlInvalid s
sleep_refusal (errors.Acpi e) = Acpi e

abbrev pub plan_refusal : PlanError → Refusal
plan_refusal plans.NoRegister = NoRegister
plan_refusal plans.NoReset = NoReset
plan_refusal plans.SleepTypeTooHigh = SleepTypeTooHigh
plan_refusal (plans.BadRegister e) = Acpi e

abbrev pub iommu_refusal : IommuError → Refusal
iommu_refusal iommu.InvalidStructureLength = InvalidIommuStructureLength
iommu_refusal iommu.InvalidMemoryRange = InvalidIommuMemoryRange
