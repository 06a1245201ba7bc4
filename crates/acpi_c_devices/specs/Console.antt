-- The serial console (SPCR, whose layout is Microsoft's) as C gets it.
use Rattle.std.specs.Prelude.{ℕ, Result, unwrap_or}
use Rattle.acpi_base.specs.Words.{interrupt_of}
use Rattle.acpi.specs.Types.{Spcr}
use Rattle.acpi_c_lib.specs.Answers.{flag}
use Rattle.acpi_c_lib.specs.Below.{below_first}
use Rattle.acpi_c_devices.specs.Devices.{register_if}
use Rattle.acpi_c_devices.specs.Types.{is_some, field_of, baud_of, bus_of, clock_of, device_id_of, device_of, function_of, irq_of, spcr_at, vendor_id_of, sdt_kind, base_of, SPCR, Console, Refusal, Source}

-- a table's fixed fields, and its Interface Type
abbrev pub console_record : Spcr → ℕ → Console
console_record t interface_type = record {
  base = register_if (base_of t);
  baud_rate = unwrap_or (baud_of t) 0;
  global_system_interrupt = unwrap_or (interrupt_of t) 0;
  clock_frequency = unwrap_or (clock_of t) 0;
  pci_flags = t.pci_flags;
  pci_device_id = unwrap_or (device_id_of t) 0xffff;
  pci_vendor_id = unwrap_or (vendor_id_of t) 0xffff;
  interface_type = interface_type;
  irq = unwrap_or (irq_of t) 0;
  has_irq = flag (is_some (irq_of t));
  has_global_system_interrupt = flag (is_some (interrupt_of t));
  has_baud_rate = flag (is_some (baud_of t));
  parity = t.parity;
  stop_bits = t.stop_bits;
  pci_segment = t.pci_segment;
  pci_bus = unwrap_or (bus_of t) 0;
  pci_device = unwrap_or (device_of t) 0;
  pci_function = unwrap_or (function_of t) 0;
  reserved = 0;
}

-- the console of the first valid SPCR
abbrev pub console_below : Source → Result Console Refusal
console_below s = below_first (sdt_kind SPCR 80) s (λ table. console_record (spcr_at table) (field_of table 36 1))
