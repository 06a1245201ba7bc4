-- The records of C's that have the name of a type of the library, which they show. A definition that is about both
-- writes `records.IoApic` for the record.
pub use Rattle.acpi_c_lib.specs.declared.records.AmlTable.{AmlTable}
pub use Rattle.acpi_c_lib.specs.declared.records.Rsdp.{Rsdp}
pub use Rattle.acpi_c_lib.specs.declared.records.Signature.{Signature}
