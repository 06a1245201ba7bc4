-- The records of C's that have the name of a type of the library, which they show. A definition that is about both
-- writes `records.IoApic` for the record.
pub use Rattle.acpi_c_devices.specs.declared.fixed.records.GpeBlock.{GpeBlock}
pub use Rattle.acpi_c_devices.specs.declared.power.records.Plan.{Plan}
pub use Rattle.acpi_c_devices.specs.declared.power.records.SleepTypes.{SleepTypes}
pub use Rattle.acpi_c_devices.specs.declared.records.GenericAddress.{GenericAddress}
pub use Rattle.acpi_c_devices.specs.declared.records.HpetInfo.{HpetInfo}
pub use Rattle.acpi_c_devices.specs.declared.records.PmTimer.{PmTimer}
