-- The local APICs' address and the 8259s (MADT, section 5.2.12) as C gets them.
use Rattle.std.specs.Prelude.{replicate, Result}
use Rattle.acpi.specs.Words.{madt_kind}
use Rattle.acpi_c_lib.specs.Answers.{flag}
use Rattle.acpi_c_lib.specs.Below.{below_first}
use Rattle.acpi_c_interrupts.specs.Model.{Apics, apics_by}
pub use Rattle.acpi_c_interrupts.specs.declared.apics.records.LocalApic.{LocalApic}
use Rattle.acpi_c_interrupts.specs.Types.{Refusal, Source}

-- the two fields that a model of APICs has of these: the address is in the last Local APIC Address Override (section
-- 5.2.12.8), or else in the table's own field
abbrev pub local_apic_record : Apics → LocalApic
local_apic_record apics = record {
  address = apics.local_apic_address;
  also_has_8259 = flag apics.also_has_legacy_pics;
  reserved = replicate 7 0;
}

-- both of the first valid MADT, by its entries up to where none begins, whether or not the interrupt model takes them
abbrev pub local_apic_below : Source → Result LocalApic Refusal
local_apic_below s = below_first madt_kind s (λ table. local_apic_record (apics_by table))
