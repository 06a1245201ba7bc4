-- The bytes of an SPCR with given contents (ACPI 6.4, section 5.2.6). The layout is Microsoft's.
use Rattle.std.specs.Prelude.{ℕ, ◌+◌, ◌%◌, ◌^◌, ◌==◌, ◌&&◌, Bool, true, not, if◌then◌else◌, List, [], ◌∷◌, ◌++◌, length, nat_lt, Option, Some, None, Result, ◌≡◌, IsUtf8, Ok, All, option_map}
use Rattle.acpi.specs.Types.{Spcr}
use Rattle.acpi_table_writer.specs.Words.{fields_bytes, FitsField, register_or_zeros, table_written, IsTableOf, IsValid}
use Rattle.acpi_writer.specs.Types.{interface_code, is_interface, is_named_space, size_code, space_code, flow_bits, interrupt_bits, terminal_bits, ◌>>=◌, holds, bits_of, has_bit, baud_of, bus_of, clock_of, device_id_of, device_of, flow_byte, function_of, interface_in, interrupt_byte, interrupt_of, irq_of, namespace_of, spcr_at, terminal_byte, unless, vendor_id_of, GenericAddress, SPCR, AcpiError, WriterError, BadCode, LongName, NoAddress, TableIds, SpcrContents, SpcrPciDevice, Field, U8, U16, U32, U64, Zeros}
use Rattle.acpi_base.specs.Spcr.{base_of}

-- the PCI device: if there is none, its ids are 0xffff, and its other numbers 0
abbrev pub device_written : Option SpcrPciDevice → SpcrPciDevice
device_written (Some d) = d
device_written None =
    record { device_id = 0xffff; vendor_id = 0xffff; bus = 0; device = 0; function = 0; flags = 0; segment = 0 }

-- Configured Baud Rate: the code of a rate; 0 leaves it as it is
abbrev pub baud_code : ℕ → ℕ
baud_code rate =
    if rate == 9600 then 3
    else if rate == 19200 then 4
    else if rate == 57600 then 6
    else if rate == 115200 then 7
    else 0

-- IRQ and Global System Interrupt: 0 unless Interrupt Type has them
abbrev pub irq_written : SpcrContents → ℕ
irq_written c = if has_bit (interrupt_bits c.interrupt_type) 0 then c.irq else 0

abbrev pub interrupt_written : SpcrContents → ℕ
interrupt_written c = if bits_of (interrupt_bits c.interrupt_type) 1 4 == 0 then 0 else c.global_system_interrupt

-- NamespaceStringLength: with the zero that ends the name
abbrev pub name_length : SpcrContents → ℕ
name_length c = (length c.namespace_string.now + 1) % 2 ^ 16

-- the fixed fields, with this base address and PCI device
unfoldable pub fixed_list : SpcrContents → GenericAddress → SpcrPciDevice → List Field
fixed_list c a d =
    U8 (interface_code c.interface_type) ∷ Zeros 3  -- 36: Interface Type, 37: Reserved
    ∷ U8 (space_code a.address_space) ∷ U8 a.bit_width ∷ U8 a.bit_offset ∷ U8 (size_code a.access_size)
    ∷ U64 a.address  -- 40: Base Address
    ∷ U8 (interrupt_bits c.interrupt_type) ∷ U8 (irq_written c)  -- 52: Interrupt Type, 53: IRQ
    ∷ U32 (interrupt_written c)  -- 54: Global System Interrupt
    ∷ U8 (baud_code c.baud_rate) ∷ U8 c.parity ∷ U8 c.stop_bits  -- 58: Configured Baud Rate, 59: Parity, 60: Stop Bits
    ∷ U8 (flow_bits c.flow_control) ∷ U8 (terminal_bits c.terminal_type)  -- 61: Flow Control, 62: Terminal Type
    ∷ U8 c.language ∷ U16 d.device_id ∷ U16 d.vendor_id  -- 63: Language, 64: PCI Device ID, 66: PCI Vendor ID
    ∷ U8 d.bus ∷ U8 d.device ∷ U8 d.function  -- 68: PCI Bus Number, 69: PCI Device Number, 70: PCI Function Number
    ∷ U32 d.flags ∷ U8 d.segment  -- 71: PCI Flags, 75: PCI Segment
    ∷ U32 c.uart_clock_frequency ∷ U32 c.baud_rate  -- 76: UART Clock Frequency, 80: Precise Baud Rate
    ∷ U16 (name_length c)  -- 84: NamespaceStringLength
    ∷ U16 88  -- 86: NamespaceStringOffset
    ∷ []

abbrev pub spcr_fields : SpcrContents → List Field
spcr_fields c = fixed_list c (register_or_zeros c.base_address) (device_written c.pci_device)

-- after the header: the fields, and from 88 on NamespaceString, which a zero ends
abbrev pub spcr_body : SpcrContents → List ℕ
spcr_body c = fields_bytes (spcr_fields c) ++ (c.namespace_string.now ++ (0 ∷ []))

-- ---- errors

-- the code of the base address's space, if there is one, names it
abbrev pub is_base : Option GenericAddress → Bool
is_base (Some a) = is_named_space a.address_space
is_base None = true

-- and it isn't 0
abbrev pub is_somewhere : Option GenericAddress → Bool
is_somewhere (Some a) = not (a.address == 0)
is_somewhere None = true

-- the first error of the contents
abbrev pub spcr_checked : SpcrContents → Result (Unit {0}) WriterError
spcr_checked c = do
  _ ← holds (is_interface c.interface_type && is_base c.base_address) BadCode
  _ ← holds (is_somewhere c.base_address) NoAddress
  holds (nat_lt (length c.namespace_string.now) 0xffff) LongName

-- the table, of revision 4, in so much room, or the first error
unfoldable pub spcr_written : ℕ → TableIds → SpcrContents → Result (List ℕ) WriterError
spcr_written room ids c = do
  _ ← spcr_checked c
  table_written room SPCR 4 ids (spcr_body c)

-- ---- which numbers have a place

abbrev pub FitsSpcr : SpcrContents → Type 0
FitsSpcr c = All FitsField (spcr_fields c) × IsUtf8 c.namespace_string.now

-- the bytes are the table of contents whose numbers and name have a place, and that no error is for
pub record IsSpcr (ids : TableIds) (c : SpcrContents) (table : List ℕ) : Type 0 where
  pub written : IsTableOf SPCR 4 ids (spcr_body c) table
  pub fit : FitsSpcr c
  pub checked : spcr_checked c ≡ Ok tt

-- ---- what is to be read

abbrev pub readable : GenericAddress → Result GenericAddress AcpiError
readable a = Ok a

-- the port is the one that was given
pub record SaysPort (c : SpcrContents) (t : Spcr) : Type 0 where
  pub interface_type : interface_in t ≡ c.interface_type
  pub base_address : base_of t ≡ option_map readable c.base_address
  pub interrupt_type : interrupt_byte t ≡ interrupt_bits c.interrupt_type
  pub irq : irq_of t ≡ (if has_bit (interrupt_bits c.interrupt_type) 0 then Some c.irq else None)
  pub global_system_interrupt : interrupt_of t
      ≡ (if bits_of (interrupt_bits c.interrupt_type) 1 4 == 0 then None else Some c.global_system_interrupt)
  pub baud_rate : baud_of t ≡ unless 0 c.baud_rate
  pub parity : t.parity ≡ c.parity
  pub stop_bits : t.stop_bits ≡ c.stop_bits
  pub flow_control : flow_byte t ≡ flow_bits c.flow_control
  pub terminal_type : terminal_byte t ≡ terminal_bits c.terminal_type
  pub language : t.language ≡ c.language
  pub uart_clock_frequency : clock_of t ≡ unless 0 c.uart_clock_frequency

-- and so is the PCI device that it is
pub record SaysDevice (d : SpcrPciDevice) (t : Spcr) : Type 0 where
  pub device_id : device_id_of t ≡ unless 0xffff d.device_id
  pub vendor_id : vendor_id_of t ≡ unless 0xffff d.vendor_id
  pub bus : bus_of t ≡ unless 0 d.bus
  pub device : device_of t ≡ unless 0 d.device
  pub function : function_of t ≡ unless 0 d.function
  pub flags : t.pci_flags ≡ d.flags
  pub segment : t.pci_segment ≡ d.segment

-- and so is all of the table; its name is read with the zero that ends it
pub record SaysConsole (c : SpcrContents) (table : List ℕ) : Type 0 where
  pub port : SaysPort c (spcr_at table)
  pub device : SaysDevice (device_written c.pci_device) (spcr_at table)
  pub name : namespace_of table ≡ Ok (c.namespace_string.now ++ (0 ∷ []))

-- ---- laws

-- such a table is valid
abbrev pub SpcrIsValid : Type 0
SpcrIsValid = (ids : TableIds) (c : SpcrContents) (table : List ℕ) → IsSpcr ids c table → IsValid SPCR table

-- and contains exactly what was passed
abbrev pub SpcrIsRead : Type 0
SpcrIsRead = (ids : TableIds) (c : SpcrContents) (table : List ℕ) → IsSpcr ids c table → SaysConsole c table
