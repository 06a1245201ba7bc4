-- The Serial Port Console Redirection table (signature SPCR; ACPI 6.4, section 5.2.6). The layout is Microsoft's.
use Rattle.std.specs.Prelude.{ℕ, ◌+◌, ◌==◌, nat_le, nat_lt, List, length, replicate, Option, Some, None, Result, Ok, Err, if◌then◌else◌, bytes_eq}
use Rattle.acpi_base.specs.FromStd.{option_or, is_utf8}
use Rattle.acpi_bytes.specs.Address.{generic_address_of}
use Rattle.acpi_bytes.specs.Bits.{bits_of, has_bit}
use Rattle.acpi_bytes.specs.Bytes.{field_of, filled_part, part}
use Rattle.acpi_base.specs.Codes.{interface_of}
use Rattle.acpi_bytes.specs.Header.{header_at}
use Rattle.acpi_bytes.specs.Steps.{◌>>=◌, holds}
use Rattle.acpi_base.specs.Types.{GenericAddress, AcpiError, InvalidNamespaceString, Spcr, SpcrInterfaceType}

-- the table SPCR, at least 80 bytes; a field that reaches past the end is read as if zeros followed
unfoldable pub spcr_at : List ℕ → Spcr
spcr_at b = record {
  header = header_at b;
  interface_type = field_of b 36 1;  -- Interface Type
  base_address = filled_part b 40 12;  -- Base Address
  interrupt_type = field_of b 52 1;  -- Interrupt Type
  irq = field_of b 53 1;  -- IRQ
  global_system_interrupt = field_of b 54 4;  -- Global System Interrupt
  configured_baud_rate = field_of b 58 1;  -- Configured Baud Rate
  parity = field_of b 59 1;  -- Parity
  stop_bits = field_of b 60 1;  -- Stop Bits
  flow_control = field_of b 61 1;  -- Flow Control
  terminal_type = field_of b 62 1;  -- Terminal Type
  language = field_of b 63 1;  -- Language
  pci_device_id = field_of b 64 2;  -- PCI Device ID
  pci_vendor_id = field_of b 66 2;  -- PCI Vendor ID
  pci_bus_number = field_of b 68 1;  -- PCI Bus Number
  pci_device_number = field_of b 69 1;  -- PCI Device Number
  pci_function_number = field_of b 70 1;  -- PCI Function Number
  pci_flags = field_of b 71 4;  -- PCI Flags
  pci_segment = field_of b 75 1;  -- PCI Segment
  uart_clock_frequency = field_of b 76 4;  -- UART Clock Frequency
  precise_baud_rate = field_of b 80 4;  -- Precise Baud Rate
  namespace_length = field_of b 84 2;  -- NamespaceStringLength
  namespace_offset = field_of b 86 2;  -- NamespaceStringOffset
}

-- ---- what calls return

-- Interface Type
abbrev pub interface_in : Spcr → SpcrInterfaceType
interface_in t = interface_of t.interface_type

-- Base Address: where the registers are, if not all of its bytes are zero
abbrev pub base_of : Spcr → Option (Result GenericAddress AcpiError)
base_of t =
    if bytes_eq t.base_address (replicate 12 0) then None
    else Some (generic_address_of t.base_address)

-- a number, unless it is the one that means none
abbrev pub unless : ℕ → ℕ → Option ℕ
unless none number = if number == none then None else Some number

-- Configured Baud Rate: the rate of a code
abbrev pub configured_baud : ℕ → Option ℕ
configured_baud code =
    if code == 3 then Some 9600
    else if code == 4 then Some 19200
    else if code == 6 then Some 57600
    else if code == 7 then Some 115200
    else None

-- Precise Baud Rate, or else the rate of the code
abbrev pub baud_of : Spcr → Option ℕ
baud_of t = option_or (unless 0 t.precise_baud_rate) (configured_baud t.configured_baud_rate)

-- IRQ: the interrupt on the 8259 controllers, if there is one by bit 0 of Interrupt Type
abbrev pub irq_of : Spcr → Option ℕ
irq_of t = if has_bit t.interrupt_type 0 then Some t.irq else None

-- Global System Interrupt, if there is one by bits 1 to 4 of Interrupt Type: on an I/O APIC (bit 1), an
-- I/O SAPIC (2), the GIC of an Arm machine (3) or the PLIC of a RISC-V one (4)
abbrev pub interrupt_of : Spcr → Option ℕ
interrupt_of t = if bits_of t.interrupt_type 1 4 == 0 then None else Some t.global_system_interrupt

abbrev pub device_id_of : Spcr → Option ℕ
device_id_of t = unless 0xffff t.pci_device_id

abbrev pub vendor_id_of : Spcr → Option ℕ
vendor_id_of t = unless 0xffff t.pci_vendor_id

abbrev pub bus_of : Spcr → Option ℕ
bus_of t = unless 0 t.pci_bus_number

abbrev pub device_of : Spcr → Option ℕ
device_of t = unless 0 t.pci_device_number

abbrev pub function_of : Spcr → Option ℕ
function_of t = unless 0 t.pci_function_number

-- UART Clock Frequency, in a table of a revision above 2
abbrev pub clock_of : Spcr → Option ℕ
clock_of t = if nat_lt 2 t.header.revision then unless 0 t.uart_clock_frequency else None

-- the bytes that contain sets of flags

abbrev pub interrupt_byte : Spcr → ℕ
interrupt_byte t = t.interrupt_type

abbrev pub terminal_byte : Spcr → ℕ
terminal_byte t = t.terminal_type

abbrev pub flow_byte : Spcr → ℕ
flow_byte t = t.flow_control

-- ---- the name in the namespace

-- the bytes, if they are a text
abbrev pub name_of : List ℕ → Result (List ℕ) AcpiError
name_of bytes = if is_utf8 bytes then Ok bytes else Err InvalidNamespaceString

-- the name of NamespaceStringLength bytes at NamespaceStringOffset, if the table has it
abbrev pub namespace_in : Spcr → List ℕ → Result (List ℕ) AcpiError
namespace_in t table = do
  _ ← holds (nat_le (t.namespace_offset + t.namespace_length) (length table)) InvalidNamespaceString
  name_of (part table t.namespace_offset t.namespace_length)

abbrev pub namespace_of : List ℕ → Result (List ℕ) AcpiError
namespace_of table = namespace_in (spcr_at table) table
