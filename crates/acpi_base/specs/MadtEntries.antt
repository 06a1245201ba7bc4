-- The fields of the MADT's entries, each at its place in the entry (ACPI 6.4, section 5.2.12). A field past the end of
-- an entry is read as zeros.
use Rattle.std.specs.Prelude.{ℕ, List}
use Rattle.acpi_bytes.specs.Bytes.{field_of}
use Rattle.acpi_bytes.specs.Extended.{extended_at}
use Rattle.acpi_base.specs.Types.{EntryHeader, LocalApicEntry, IoApicEntry, InterruptSourceOverrideEntry, NmiSourceEntry, LocalApicNmiEntry, LocalApicAddressOverrideEntry, LocalX2ApicEntry, X2ApicNmiEntry, IoSapicEntry, LocalSapicEntry, PlatformInterruptSourceEntry, GiccEntry, GicdEntry, GicMsiFrameEntry, GicRedistributorEntry, GicInterruptTranslationServiceEntry, MultiprocessorWakeupEntry}

-- what each entry begins with, at least 2 bytes
abbrev pub entry_header_at : List ℕ → EntryHeader
entry_header_at b = record {
  entry_type = field_of b 0 1;  -- Type
  length = field_of b 1 1;  -- Length
}

-- Processor Local APIC, at least 8 bytes: section 5.2.12.2
abbrev pub local_apic_at : List ℕ → LocalApicEntry
local_apic_at b = record {
  header = entry_header_at b;
  processor_id = field_of b 2 1;  -- ACPI Processor UID
  apic_id = field_of b 3 1;  -- APIC ID
  flags = field_of b 4 4;  -- Flags (Local APIC Flags)
}

-- I/O APIC, at least 12 bytes: section 5.2.12.3
abbrev pub io_apic_at : List ℕ → IoApicEntry
io_apic_at b = record {
  header = entry_header_at b;
  io_apic_id = field_of b 2 1;  -- I/O APIC ID
  io_apic_address = field_of b 4 4;  -- I/O APIC Address
  global_system_interrupt_base = field_of b 8 4;  -- Global System Interrupt Base
}

-- Interrupt Source Override, at least 10 bytes: section 5.2.12.5
abbrev pub interrupt_source_override_at : List ℕ → InterruptSourceOverrideEntry
interrupt_source_override_at b = record {
  header = entry_header_at b;
  bus = field_of b 2 1;  -- Bus
  irq = field_of b 3 1;  -- Source
  global_system_interrupt = field_of b 4 4;  -- Global System Interrupt
  flags = field_of b 8 2;  -- Flags (MPS INTI Flags)
}

-- NMI Source, at least 8 bytes: section 5.2.12.6
abbrev pub nmi_source_at : List ℕ → NmiSourceEntry
nmi_source_at b = record {
  header = entry_header_at b;
  flags = field_of b 2 2;  -- Flags (MPS INTI Flags)
  global_system_interrupt = field_of b 4 4;  -- Global System Interrupt
}

-- Local APIC NMI, at least 6 bytes: section 5.2.12.7
abbrev pub local_apic_nmi_at : List ℕ → LocalApicNmiEntry
local_apic_nmi_at b = record {
  header = entry_header_at b;
  processor_id = field_of b 2 1;  -- ACPI Processor UID
  flags = field_of b 3 2;  -- Flags (MPS INTI Flags)
  nmi_line = field_of b 5 1;  -- Local APIC LINT#
}

-- Local APIC Address Override, at least 12 bytes: section 5.2.12.8
abbrev pub local_apic_address_override_at : List ℕ → LocalApicAddressOverrideEntry
local_apic_address_override_at b = record {
  header = entry_header_at b;
  local_apic_address = field_of b 4 8;  -- Local APIC Address
}

-- I/O SAPIC, at least 16 bytes: section 5.2.12.9
abbrev pub io_sapic_at : List ℕ → IoSapicEntry
io_sapic_at b = record {
  header = entry_header_at b;
  io_apic_id = field_of b 2 1;  -- I/O APIC ID
  global_system_interrupt_base = field_of b 4 4;  -- Global System Interrupt Base
  io_sapic_address = field_of b 8 8;  -- I/O SAPIC Address
}

-- Local SAPIC, at least 16 bytes: section 5.2.12.10
abbrev pub local_sapic_at : List ℕ → LocalSapicEntry
local_sapic_at b = record {
  header = entry_header_at b;
  processor_id = field_of b 2 1;  -- ACPI Processor ID
  local_sapic_id = field_of b 3 1;  -- Local SAPIC ID
  local_sapic_eid = field_of b 4 1;  -- Local SAPIC EID
  flags = field_of b 8 4;  -- Flags (Local APIC Flags)
  processor_uid = field_of b 12 4;  -- ACPI Processor UID Value
}

-- Platform Interrupt Sources, at least 16 bytes: section 5.2.12.11
abbrev pub platform_interrupt_source_at : List ℕ → PlatformInterruptSourceEntry
platform_interrupt_source_at b = record {
  header = entry_header_at b;
  flags = field_of b 2 2;  -- Flags (MPS INTI Flags)
  interrupt_type = field_of b 4 1;  -- Interrupt Type
  processor_id = field_of b 5 1;  -- Processor ID
  processor_eid = field_of b 6 1;  -- Processor EID
  io_sapic_vector = field_of b 7 1;  -- I/O SAPIC Vector
  global_system_interrupt = field_of b 8 4;  -- Global System Interrupt
  platform_interrupt_source_flags = field_of b 12 4;  -- Platform Interrupt Source Flags
}

-- Processor Local x2APIC, at least 16 bytes: section 5.2.12.12
abbrev pub local_x2apic_at : List ℕ → LocalX2ApicEntry
local_x2apic_at b = record {
  header = entry_header_at b;
  x2apic_id = field_of b 4 4;  -- X2APIC ID
  flags = field_of b 8 4;  -- Flags (Local APIC Flags)
  processor_uid = field_of b 12 4;  -- ACPI Processor UID
}

-- Local x2APIC NMI, at least 12 bytes: section 5.2.12.13
abbrev pub x2apic_nmi_at : List ℕ → X2ApicNmiEntry
x2apic_nmi_at b = record {
  header = entry_header_at b;
  flags = field_of b 2 2;  -- Flags (MPS INTI Flags)
  processor_uid = field_of b 4 4;  -- ACPI Processor UID
  nmi_line = field_of b 8 1;  -- Local x2APIC LINT#
}

-- GIC CPU Interface (GICC), at least 76 bytes: section 5.2.12.14
abbrev pub gicc_at : List ℕ → GiccEntry
gicc_at b = record {
  header = entry_header_at b;
  cpu_interface_number = field_of b 4 4;  -- CPU Interface Number
  processor_uid = field_of b 8 4;  -- ACPI Processor UID
  flags = field_of b 12 4;  -- Flags (GICC CPU Interface Flags)
  parking_protocol_version = field_of b 16 4;  -- Parking Protocol Version
  performance_interrupt_gsiv = field_of b 20 4;  -- Performance Interrupt GSIV
  parked_address = field_of b 24 8;  -- Parked Address
  gic_registers_address = field_of b 32 8;  -- Physical Base Address
  gic_virtual_registers_address = field_of b 40 8;  -- GICV
  gic_hypervisor_registers_address = field_of b 48 8;  -- GICH
  vgic_maintenance_interrupt = field_of b 56 4;  -- VGIC Maintenance interrupt
  gicr_base_address = field_of b 60 8;  -- GICR Base Address
  mpidr = field_of b 68 8;  -- MPIDR
  processor_power_efficiency_class = field_of b 76 1;  -- Processor Power Efficiency Class
  spe_overflow_interrupt = field_of b 78 2;  -- SPE overflow Interrupt
  trbe_interrupt = extended_at {least = 6} (λ x. field_of x 0 2) b 80 2;  -- TRBE Interrupt, since ACPI 6.5
}

-- GIC Distributor (GICD), at least 24 bytes: section 5.2.12.15
abbrev pub gicd_at : List ℕ → GicdEntry
gicd_at b = record {
  header = entry_header_at b;
  gic_id = field_of b 4 4;  -- GIC ID
  physical_base_address = field_of b 8 8;  -- Physical Base Address
  system_vector_base = field_of b 16 4;  -- System Vector Base
  gic_version = field_of b 20 1;  -- GIC version
}

-- GIC MSI Frame, at least 24 bytes: section 5.2.12.16
abbrev pub gic_msi_frame_at : List ℕ → GicMsiFrameEntry
gic_msi_frame_at b = record {
  header = entry_header_at b;
  frame_id = field_of b 4 4;  -- GIC MSI Frame ID
  physical_base_address = field_of b 8 8;  -- Physical Base Address
  flags = field_of b 16 4;  -- Flags (GIC MSI Frame Flags)
  spi_count = field_of b 20 2;  -- SPI Count
  spi_base = field_of b 22 2;  -- SPI Base
}

-- GIC Redistributor (GICR), at least 16 bytes: section 5.2.12.17
abbrev pub gic_redistributor_at : List ℕ → GicRedistributorEntry
gic_redistributor_at b = record {
  header = entry_header_at b;
  discovery_range_base_address = field_of b 4 8;  -- Discovery Range Base Address
  discovery_range_length = field_of b 12 4;  -- Discovery Range Length
}

-- GIC Interrupt Translation Service (ITS), at least 20 bytes: section 5.2.12.18
abbrev pub gic_translation_service_at : List ℕ → GicInterruptTranslationServiceEntry
gic_translation_service_at b = record {
  header = entry_header_at b;
  id = field_of b 4 4;  -- GIC ITS ID
  physical_base_address = field_of b 8 8;  -- Physical Base Address
}

-- Multiprocessor Wakeup, at least 16 bytes: section 5.2.12.19
abbrev pub multiprocessor_wakeup_at : List ℕ → MultiprocessorWakeupEntry
multiprocessor_wakeup_at b = record {
  header = entry_header_at b;
  mailbox_version = field_of b 2 2;  -- MailBoxVersion
  mailbox_address = field_of b 8 8;  -- MailBoxAddress
}
