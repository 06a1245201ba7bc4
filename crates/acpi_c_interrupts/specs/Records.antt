-- The records of C's that have the name of a type of the library, which they show. A definition that is about both
-- writes `records.IoApic` for the record.
pub use Rattle.acpi_c_interrupts.specs.declared.arm.records.ArmTimer.{ArmTimer}
pub use Rattle.acpi_c_interrupts.specs.declared.arm.records.GicCpuInterface.{GicCpuInterface}
pub use Rattle.acpi_c_interrupts.specs.declared.arm.records.GicDistributor.{GicDistributor}
pub use Rattle.acpi_c_interrupts.specs.declared.arm.records.GicMsiFrame.{GicMsiFrame}
pub use Rattle.acpi_c_interrupts.specs.declared.arm.records.GicTranslationService.{GicTranslationService}
pub use Rattle.acpi_c_interrupts.specs.declared.arm.records.GtFrame.{GtFrame}
pub use Rattle.acpi_c_interrupts.specs.declared.apics.records.InterruptSourceOverride.{InterruptSourceOverride}
pub use Rattle.acpi_c_interrupts.specs.declared.apics.records.IoApic.{IoApic}
pub use Rattle.acpi_c_interrupts.specs.declared.apics.records.NmiLine.{NmiLine}
pub use Rattle.acpi_c_interrupts.specs.declared.apics.records.NmiSource.{NmiSource}
pub use Rattle.acpi_c_interrupts.specs.declared.apics.records.Processor.{Processor}
