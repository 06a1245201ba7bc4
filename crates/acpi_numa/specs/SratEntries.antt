-- The fields of the SRAT's entries, each at its place in the entry (ACPI 6.4, section 5.2.16).
use Rattle.std.specs.Prelude.{ℕ, ◌+◌, ◌*◌, List, nat_lt, if◌then◌else◌}
use Rattle.acpi_base.specs.Words.{field_of, filled_part}
use Rattle.acpi_numa.specs.declared.srat.kinds.GenericAffinity.{GenericAffinity}
use Rattle.acpi_numa.specs.declared.srat.kinds.GicItsAffinity.{GicItsAffinity}
use Rattle.acpi_numa.specs.declared.srat.kinds.GiccAffinity.{GiccAffinity}
use Rattle.acpi_numa.specs.declared.srat.kinds.LocalApicAffinity.{LocalApicAffinity}
use Rattle.acpi_numa.specs.declared.srat.kinds.LocalX2ApicAffinity.{LocalX2ApicAffinity}
use Rattle.acpi_numa.specs.declared.srat.kinds.MemoryAffinity.{MemoryAffinity}

-- a domain whose higher bytes came with revision 2 of the table: before, its lowest byte alone
abbrev pub domain_since_2 : ℕ → ℕ → ℕ → ℕ
domain_since_2 revision lowest whole = if nat_lt revision 2 then lowest else whole

-- Processor Local APIC/SAPIC Affinity Structure, at least 16 bytes (section 5.2.16.1): Proximity Domain [7:0] at 2,
-- Proximity Domain [31:8] at 9
abbrev pub local_apic_affinity_at : ℕ → List ℕ → LocalApicAffinity
local_apic_affinity_at revision b = record {
  domain = domain_since_2 revision (field_of b 2 1) (field_of b 2 1 + 256 * field_of b 9 3);
  apic_id = field_of b 3 1;  -- APIC ID
  flags = field_of b 4 4;  -- Flags
  sapic_eid = field_of b 8 1;  -- Local SAPIC EID
  clock_domain = field_of b 12 4;  -- Clock Domain
}

-- Memory Affinity Structure, at least 40 bytes (section 5.2.16.2)
abbrev pub memory_affinity_at : ℕ → List ℕ → MemoryAffinity
memory_affinity_at revision b = record {
  domain = domain_since_2 revision (field_of b 2 1) (field_of b 2 4);  -- Proximity Domain
  base = field_of b 8 8;  -- Base Address Low, Base Address High
  length = field_of b 16 8;  -- Length Low, Length High
  flags = field_of b 28 4;  -- Flags
}

-- Processor Local x2APIC Affinity Structure, at least 24 bytes (section 5.2.16.3)
abbrev pub local_x2apic_affinity_at : List ℕ → LocalX2ApicAffinity
local_x2apic_affinity_at b = record {
  domain = field_of b 4 4;  -- Proximity Domain
  x2apic_id = field_of b 8 4;  -- X2APIC ID
  flags = field_of b 12 4;  -- Flags
  clock_domain = field_of b 16 4;  -- Clock Domain
}

-- GICC Affinity Structure, at least 18 bytes (section 5.2.16.4)
abbrev pub gicc_affinity_at : List ℕ → GiccAffinity
gicc_affinity_at b = record {
  domain = field_of b 2 4;  -- Proximity Domain
  processor_uid = field_of b 6 4;  -- ACPI Processor UID
  flags = field_of b 10 4;  -- Flags
  clock_domain = field_of b 14 4;  -- Clock Domain
}

-- GIC Interrupt Translation Service (ITS) Affinity Structure, at least 12 bytes (section 5.2.16.5)
abbrev pub gic_its_affinity_at : List ℕ → GicItsAffinity
gic_its_affinity_at b = record {
  domain = field_of b 2 4;  -- Proximity Domain
  its_id = field_of b 8 4;  -- ITS ID
}

-- Generic Initiator Affinity Structure, at least 32 bytes (section 5.2.16.6), and Generic Port Affinity Structure
-- (section 5.2.16.7), which has the same fields
abbrev pub generic_affinity_at : List ℕ → GenericAffinity
generic_affinity_at b = record {
  handle_type = field_of b 3 1;  -- Device Handle Type
  domain = field_of b 4 4;  -- Proximity Domain
  device_handle = filled_part b 8 16;  -- Device Handle
  flags = field_of b 24 4;  -- Flags
}
