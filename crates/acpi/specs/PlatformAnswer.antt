-- What the four calls say that return the platform of some tables: `platform_info`, `platform_info_in`,
-- `PlatformInfo::new` and `new_in`.
use Rattle.std.specs.Prelude.{Result}
use Rattle.acpi_base.specs.Words.{GivesOrFull}
use Rattle.acpi.specs.Types.{AcpiError, PlatformInfo}
use Rattle.acpi.specs.Footprint.{FootprintBelow, platform_ranges}
use Rattle.acpi.specs.Platform.{PlatformAsks, platform_of}
use Rattle.acpi.specs.Relocation.{Relocation}
use Rattle.acpi.specs.Tables.{of_tables}
use Rattle.acpi.specs.declared.tables.AcpiTables.{AcpiTables}

-- the answer is the platform that is defined, or AllocError, and that only if memory is asked for
abbrev pub GivesPlatform : {A : Type 0} {H P h p : _} → AcpiTables H P h p → Result (PlatformInfo A) AcpiError
    → Type 0
GivesPlatform t answer = GivesOrFull (of_tables t PlatformAsks) answer (of_tables t platform_of)

-- the answer depends on what the lookup of the FADT depends on, and if one is found, on what that of the MADT depends
-- on
abbrev pub PlatformFootprint : {A : Type 0} {H P h p : _} → AcpiTables H P h p
    → Result (PlatformInfo A) AcpiError → Type 0
PlatformFootprint t answer =
    FootprintBelow t platform_ranges platform_of (GivesOrFull (of_tables t PlatformAsks) answer)

-- the answer is the same wherever the valid tables lie
abbrev pub PlatformRelocation : {A : Type 0} {H P h p : _} → AcpiTables H P h p
    → Result (PlatformInfo A) AcpiError → Type 0
PlatformRelocation t answer =
    Relocation t platform_of (GivesOrFull (of_tables t PlatformAsks) answer)
