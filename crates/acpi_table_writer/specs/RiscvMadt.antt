-- The MADT of a RISC-V machine: its bytes, and that what was passed is what is read (ACPI 6.6, section 5.2.12).
use Rattle.std.specs.Prelude.{◌≡◌, ℕ, false, not, List, [], ◌∷◌, ◌++◌, map, flat_map, replicate, Result, All}
use Rattle.acpi_riscv.specs.declared.entry.RiscvEntry.TheVariants as kinds
use Rattle.acpi_table_writer.specs.Fields.{Fits, fields_bytes}
use Rattle.acpi_table_writer.specs.MadtBytes.{is_empty, madt_fixed}
use Rattle.acpi_table_writer.specs.Table.{IsTableOf, IsValid, table_written}
use Rattle.acpi_table_writer.specs.Types.{◌>>=◌, holds, MADT, entries_of, Aplic, Imsic, NoProcessor, Plic, Rintc, RiscvEntry, TableIds, WriterError, Field, U8, U16, U32, U64, Zeros, RiscvContents}

-- ---- entries

-- RISC-V Interrupt Controller (RINTC)
unfoldable pub rintc_fields : Rintc → List Field
rintc_fields x =
    U8 0x18 ∷ U8 36 ∷ U8 x.version ∷ Zeros 1  -- 0: Type, 1: Length, 2: Version, 3: Reserved
    ∷ U32 x.flags ∷ U64 x.hart_id ∷ U32 x.processor_uid  -- 4: Flags, 8: Hart ID, 16: ACPI Processor UID
    ∷ U32 x.external_interrupt_controller_id  -- 20: External Interrupt Controller ID
    ∷ U64 x.imsic_address ∷ U32 x.imsic_size  -- 24: IMSIC Base Address, 32: IMSIC Size
    ∷ []

abbrev pub rintc_entry : Rintc → List ℕ
rintc_entry x = fields_bytes (rintc_fields x)

-- Incoming MSI Controller (IMSIC)
unfoldable pub imsic_fields : Imsic → List Field
imsic_fields x =
    U8 0x19 ∷ U8 16 ∷ U8 x.version ∷ Zeros 1  -- 0: Type, 1: Length, 2: Version, 3: Reserved
    ∷ U32 x.flags ∷ U16 x.supervisor_identities  -- 4: Flags, 8: Number of Supervisor Mode Interrupt Identities
    ∷ U16 x.guest_identities  -- 10: Number of Guest Mode Interrupt Identities
    ∷ U8 x.guest_index_bits ∷ U8 x.hart_index_bits  -- 12: Guest Index Bits, 13: Hart Index Bits
    ∷ U8 x.group_index_bits ∷ U8 x.group_index_shift  -- 14: Group Index Bits, 15: Group Index Shift
    ∷ []

abbrev pub imsic_entry : Imsic → List ℕ
imsic_entry x = fields_bytes (imsic_fields x)

-- Advanced Platform Level Interrupt Controller (APLIC)
unfoldable pub aplic_fields : Aplic → List Field
aplic_fields x =
    U8 0x1a ∷ U8 36 ∷ U8 x.version ∷ U8 x.id  -- 0: Type, 1: Length, 2: Version, 3: APLIC ID
    ∷ U32 x.flags ∷ U64 x.hardware_id ∷ U16 x.idc_count  -- 4: Flags, 8: Hardware ID, 16: Number of IDCs
    ∷ U16 x.source_count  -- 18: Total External Interrupt Sources Supported
    ∷ U32 x.global_system_interrupt_base ∷ U64 x.address  -- 20: Global System Interrupt Base, 24: APLIC Address
    ∷ U32 x.size  -- 32: APLIC Size
    ∷ []

abbrev pub aplic_entry : Aplic → List ℕ
aplic_entry x = fields_bytes (aplic_fields x)

-- Platform Level Interrupt Controller (PLIC)
unfoldable pub plic_fields : Plic → List Field
plic_fields x =
    U8 0x1b ∷ U8 36 ∷ U8 x.version ∷ U8 x.id  -- 0: Type, 1: Length, 2: Version, 3: PLIC ID
    ∷ U64 x.hardware_id ∷ U16 x.source_count  -- 4: Hardware ID, 12: Total External Interrupt Sources Supported
    ∷ U16 x.max_priority ∷ U32 x.flags ∷ U32 x.size  -- 14: Max Priority, 16: Flags, 20: PLIC Size
    ∷ U64 x.address  -- 24: PLIC Address
    ∷ U32 x.global_system_interrupt_base  -- 32: Global System Interrupt Vector Base
    ∷ []

abbrev pub plic_entry : Plic → List ℕ
plic_entry x = fields_bytes (plic_fields x)

-- ---- the table

-- after the header: the fields of APICs, which are 0, and the entries
abbrev pub riscv_body : RiscvContents → List ℕ
riscv_body c =
    madt_fixed 0 false
    ++ (flat_map rintc_entry c.rintcs.now
    ++ (flat_map imsic_entry c.imsics.now
    ++ (flat_map aplic_entry c.aplics.now
    ++ flat_map plic_entry c.plics.now)))

-- there is a hart
abbrev pub riscv_checked : RiscvContents → Result (Unit {0}) WriterError
riscv_checked c = holds (not (is_empty c.rintcs.now)) NoProcessor

-- the table, of revision 7, in so much room, or the first error
unfoldable pub riscv_written : ℕ → TableIds → RiscvContents → Result (List ℕ) WriterError
riscv_written room ids c = do
  _ ← riscv_checked c
  table_written room MADT 7 ids (riscv_body c)

-- which numbers have a place in an entry
pub record AreRiscvFit (c : RiscvContents) : Type 0 where
  pub rintcs : All (Fits rintc_fields) c.rintcs.now
  pub imsics : All (Fits imsic_fields) c.imsics.now
  pub aplics : All (Fits aplic_fields) c.aplics.now
  pub plics : All (Fits plic_fields) c.plics.now

-- the bytes are the table of contents whose numbers have a place
pub record IsRiscvMadt (ids : TableIds) (c : RiscvContents) (table : List ℕ) : Type 0 where
  pub written : IsTableOf MADT 7 ids (riscv_body c) table
  pub fit : AreRiscvFit c

-- ---- laws

-- such a table is valid
abbrev pub RiscvMadtIsValid : Type 0
RiscvMadtIsValid = (ids : TableIds) (c : RiscvContents) (table : List ℕ) → IsRiscvMadt ids c table → IsValid MADT table

-- an entry as it is read: what is reserved is 0
abbrev pub rintc_read_as : Rintc → Rintc
rintc_read_as x = record x { reserved = replicate 7 0 }

abbrev pub imsic_read_as : Imsic → Imsic
imsic_read_as x = record x { reserved = replicate 3 0 }

abbrev pub aplic_read_as : Aplic → Aplic
aplic_read_as x = record x { reserved = replicate 6 0 }

abbrev pub plic_read_as : Plic → Plic
plic_read_as x = record x { reserved = replicate 6 0 }

-- what is to be read: each entry, and else as itself
abbrev pub riscv_read : RiscvContents → List RiscvEntry
riscv_read c =
    map (λ x. kinds.Rintc (rintc_read_as x)) c.rintcs.now ++ (map (λ x. kinds.Imsic (imsic_read_as x)) c.imsics.now
    ++ (map (λ x. kinds.Aplic (aplic_read_as x)) c.aplics.now ++ map (λ x. kinds.Plic (plic_read_as x)) c.plics.now))

-- and its entries are exactly those that were passed, in order
abbrev pub RiscvMadtIsRead : Type 0
RiscvMadtIsRead = (ids : TableIds) (c : RiscvContents) (table : List ℕ) → IsRiscvMadt ids c table
    → entries_of table ≡ riscv_read c
