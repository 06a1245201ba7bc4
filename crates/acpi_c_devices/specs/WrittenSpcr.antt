-- The SPCR that is written for C, from the record as which it is read. The layout is Microsoft's.
use Rattle.std.specs.Prelude.{ℕ, ◌==◌, ◌&&◌, ◌||◌, Bool, not, bit_or, codes, nat_le, nat_lt, List, Option, Some, None, Result, if◌then◌else◌}
use Rattle.acpi_c_devices.specs.WrittenFadt.{has_codes_at, register}
use Rattle.acpi_c_devices.specs.Types.{Bor, has_bit, interface_of, GenericAddress, Console, Register, WriterError, TableIds, SpcrContents, SpcrPciDevice, spcr_written}
use Rattle.acpi_c_devices.specs.declared.written_records.SpcrContents as spcr_record

abbrev pub base : Register → Option GenericAddress
base r = if r.present == 0 then None else Some (register r.at)

-- Interrupt Type: bits 1 to 4 are controllers of global system interrupts
abbrev pub is_controllers : ℕ → Bool
is_controllers n = not (has_bit n 0) && (nat_lt 0 n && nat_lt n 32)

abbrev pub controllers : spcr_record.SpcrContents → ℕ
controllers c = if c.console.has_global_system_interrupt == 0 then 0 else c.interrupt_controllers

-- and bit 0 the 8259s
abbrev pub interrupt_type : spcr_record.SpcrContents → ℕ
interrupt_type c = if c.console.has_irq == 0 then controllers c else bit_or (controllers c) 1

abbrev pub has_codes : spcr_record.SpcrContents → Bool
has_codes c =
    nat_le c.console.base.present 1 && ((c.console.base.present == 0 || has_codes_at c.console.base.at)
    && (c.console.has_global_system_interrupt == 0 || is_controllers c.interrupt_controllers))

abbrev pub device : Console → SpcrPciDevice
device c = record {
  device_id = c.pci_device_id;
  vendor_id = c.pci_vendor_id;
  bus = c.pci_bus;
  device = c.pci_device;
  function = c.pci_function;
  flags = c.pci_flags;
  segment = c.pci_segment;
}

-- or 0, by which it stays as it is
abbrev pub baud_rate : Console → ℕ
baud_rate c = if c.has_baud_rate == 0 then 0 else c.baud_rate

-- with this NamespaceString
abbrev pub contents : Bor (List ℕ) → spcr_record.SpcrContents → SpcrContents
contents name c = record {
  interface_type = interface_of c.console.interface_type;
  base_address = base c.console.base;
  interrupt_type = record { 0 = interrupt_type c };
  irq = c.console.irq;
  global_system_interrupt = c.console.global_system_interrupt;
  baud_rate = baud_rate c.console;
  parity = c.console.parity;
  stop_bits = c.console.stop_bits;
  flow_control = record { 0 = c.flow_control };
  terminal_type = record { 0 = c.terminal_type };
  language = 0;
  pci_device = Some (device c.console);
  uart_clock_frequency = c.console.clock_frequency;
  namespace_string = name;
}

-- NamespaceString of a console with no object in the namespace, at whatever address it is
abbrev pub no_name : Bor (List ℕ)
no_name = record { ref_ptr = (0, 0); now = codes "." }

-- the SPCR of a record whose codes there are, in a capacity, or the first error
abbrev pub spcr_laid : ℕ → TableIds → spcr_record.SpcrContents → Result (List ℕ) WriterError
spcr_laid room ids c = spcr_written room ids (contents no_name c)
