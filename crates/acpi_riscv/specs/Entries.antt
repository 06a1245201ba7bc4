-- The entries of a MADT that describe a RISC-V machine (ACPI 6.6, section 5.2.12). A field past the end of an entry is
-- read as zeros.
use Rattle.std.specs.Prelude.{ℕ, ◌==◌, ◌&&◌, ◌||◌, Bool, nat_le, nat_lt, List, length, replicate, slice_index, Option, Some, None, if◌then◌else◌, filter_map}
use Rattle.acpi_base.specs.Words.{cut, cut_of, field_of, madt_grammar}
use Rattle.acpi_riscv.specs.declared.entry.Aplic.{Aplic}
use Rattle.acpi_riscv.specs.declared.entry.Imsic.{Imsic}
use Rattle.acpi_riscv.specs.declared.entry.Plic.{Plic}
use Rattle.acpi_riscv.specs.declared.entry.Rintc.{Rintc}
use Rattle.acpi_riscv.specs.declared.entry.RiscvEntry.{RiscvEntry}
use Rattle.acpi_riscv.specs.declared.entry.RiscvEntry.TheVariants as kinds
use Rattle.acpi_riscv.specs.declared.walk.RiscvEntryIter.{RiscvEntryIter}

-- RISC-V Interrupt Controller (RINTC)
abbrev pub rintc_at : List ℕ → Rintc
rintc_at b = record {
  version = field_of b 2 1;  -- Version
  flags = field_of b 4 4;  -- Flags
  hart_id = field_of b 8 8;  -- Hart ID
  processor_uid = field_of b 16 4;  -- ACPI Processor UID
  external_interrupt_controller_id = field_of b 20 4;  -- External Interrupt Controller ID
  imsic_address = field_of b 24 8;  -- IMSIC Base Address
  imsic_size = field_of b 32 4;  -- IMSIC Size
  reserved = replicate 7 0;
}

-- Incoming MSI Controller (IMSIC)
abbrev pub imsic_at : List ℕ → Imsic
imsic_at b = record {
  version = field_of b 2 1;  -- Version
  flags = field_of b 4 4;  -- Flags
  supervisor_identities = field_of b 8 2;  -- Number of Supervisor Mode Interrupt Identities
  guest_identities = field_of b 10 2;  -- Number of Guest Mode Interrupt Identities
  guest_index_bits = field_of b 12 1;  -- Guest Index Bits
  hart_index_bits = field_of b 13 1;  -- Hart Index Bits
  group_index_bits = field_of b 14 1;  -- Group Index Bits
  group_index_shift = field_of b 15 1;  -- Group Index Shift
  reserved = replicate 3 0;
}

-- Advanced Platform Level Interrupt Controller (APLIC)
abbrev pub aplic_at : List ℕ → Aplic
aplic_at b = record {
  version = field_of b 2 1;  -- Version
  id = field_of b 3 1;  -- APLIC ID
  flags = field_of b 4 4;  -- Flags
  hardware_id = field_of b 8 8;  -- Hardware ID
  idc_count = field_of b 16 2;  -- Number of IDCs
  source_count = field_of b 18 2;  -- Total External Interrupt Sources Supported
  global_system_interrupt_base = field_of b 20 4;  -- Global System Interrupt Base
  address = field_of b 24 8;  -- APLIC Address
  size = field_of b 32 4;  -- APLIC Size
  reserved = replicate 6 0;
}

-- Platform Level Interrupt Controller (PLIC)
abbrev pub plic_at : List ℕ → Plic
plic_at b = record {
  version = field_of b 2 1;  -- Version
  id = field_of b 3 1;  -- PLIC ID
  hardware_id = field_of b 4 8;  -- Hardware ID
  source_count = field_of b 12 2;  -- Total External Interrupt Sources Supported
  max_priority = field_of b 14 2;  -- Max Priority
  flags = field_of b 16 4;  -- Flags
  size = field_of b 20 4;  -- PLIC Size
  address = field_of b 24 8;  -- PLIC Address
  global_system_interrupt_base = field_of b 32 4;  -- Global System Interrupt Vector Base
  reserved = replicate 6 0;
}

-- how many bytes an entry of one of these types has at least, by its layout
abbrev pub least_of : ℕ → ℕ
least_of kind =
    if kind == 0x18 then 20
    else if kind == 0x19 then 16
    else if (kind == 0x1a) || (kind == 0x1b) then 36
    else 0

-- whether an entry is of one of these types (Type is its byte 0), and has fewer
abbrev pub is_short : List ℕ → Bool
is_short e = nat_lt (length e) (least_of (slice_index e 0))

-- whether an entry is of a type, and has all bytes of its layout
abbrev pub is_a : ℕ → List ℕ → Bool
is_a kind e = slice_index e 0 == kind && nat_le (least_of kind) (length e)

-- what an entry of one of these types contains
abbrev pub entry_of : List ℕ → Option RiscvEntry
entry_of e =
    if is_a 0x18 e then Some (kinds.Rintc (rintc_at e)) else
    if is_a 0x19 e then Some (kinds.Imsic (imsic_at e)) else
    if is_a 0x1a e then Some (kinds.Aplic (aplic_at e)) else
    if is_a 0x1b e then Some (kinds.Plic (plic_at e)) else None

-- the entries of a MADT of these types, in order
abbrev pub entries_of : List ℕ → List RiscvEntry
entries_of table = filter_map entry_of (cut_of table).0

-- those that are still to come in a walk
abbrev pub entries_left : RiscvEntryIter → List RiscvEntry
entries_left s = filter_map entry_of (cut madt_grammar s.rest.now).0
