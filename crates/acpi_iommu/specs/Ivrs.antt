-- The I/O Virtualization Reporting Structure, IVRS (AMD I/O Virtualization Technology (IOMMU) Specification 3.08,
-- section 5.2), and the blocks that it is made of.
use Rattle.std.specs.Prelude.{ℕ, ◌==◌, ◌||◌, Bool, List, drop, Option, None, Some, if◌then◌else◌, []}
use Rattle.acpi_base.specs.Words.{field_of, header_at}
use Rattle.acpi_iommu.specs.Pieces.{left, pieces, rest_after, valid_length}
use Rattle.acpi_iommu.specs.declared.ivrs.Ivrs.{Ivrs}
use Rattle.acpi_iommu.specs.declared.ivrs.block.Ivhd.{Ivhd}
use Rattle.acpi_iommu.specs.declared.ivrs.block.Ivmd.{Ivmd}
use Rattle.acpi_iommu.specs.declared.ivrs.block.IvrsBlock.{IvrsBlock}
use Rattle.acpi_iommu.specs.declared.ivrs.block.IvrsFields.{IvrsFields}
use Rattle.acpi_iommu.specs.declared.ivrs.block.IvrsFields.TheVariants as kinds
use Rattle.acpi_iommu.specs.declared.ivrs.block.Blocks.{Blocks}
use Rattle.acpi_iommu.specs.declared.pieces.PieceIter.{PieceIter}

-- the table IVRS, at least 48 bytes
unfoldable pub ivrs_at : List ℕ → Ivrs
ivrs_at b = record {
  header = header_at b;
  info = field_of b 36 4;  -- IVinfo
}

-- ---- blocks

-- Type of a block
abbrev pub block_kind : List ℕ → ℕ
block_kind b = field_of b 0 1

-- an I/O Virtualization Hardware Definition block, and an I/O Virtualization Memory Definition block

abbrev pub is_ivhd : ℕ → Bool
is_ivhd kind = (kind == 0x10) || (kind == 0x11) || (kind == 0x40)

abbrev pub is_ivmd : ℕ → Bool
is_ivmd kind = (kind == 0x20) || (kind == 0x21) || (kind == 0x22)

-- the least length of a block of a type
abbrev pub least_of : ℕ → ℕ
least_of kind =
    if kind == 0x10 then 24
    else if is_ivhd kind then 40
    else if is_ivmd kind then 32
    else 4

-- Length, at 2, of the block at the front of bytes
abbrev pub block_size : List ℕ → Option ℕ
block_size b = valid_length (least_of (block_kind b)) (field_of b 2 2)

-- the blocks of a table, from 48 on, and the rest in which none begins
abbrev pub blocks_cut : List ℕ → List (List ℕ) × List ℕ
blocks_cut table = pieces block_size (drop 48 table)

abbrev pub blocks_of : List ℕ → List (List ℕ)
blocks_of table = (blocks_cut table).0

-- EFR Register Image, that of the extended features; type 0x10 has none
abbrev pub extended_features_of : List ℕ → Option ℕ
extended_features_of b = if block_kind b == 0x10 then None else Some (field_of b 24 8)

-- an IVHD
abbrev pub ivhd_at : List ℕ → Ivhd
ivhd_at b = record {
  kind = block_kind b;  -- Type
  flags = field_of b 1 1;  -- Flags
  device_id = field_of b 4 2;  -- DeviceID
  capability_offset = field_of b 6 2;  -- Capability Offset
  base = field_of b 8 8;  -- IOMMU Base Address
  segment = field_of b 16 2;  -- PCI Segment Group
  info = field_of b 18 2;  -- IOMMU Info
  features = field_of b 20 4;  -- IOMMU Feature Reporting, of types 0x11 and 0x40 IOMMU Attributes
  extended_features = extended_features_of b;  -- EFR Register Image
}

-- an IVMD
abbrev pub ivmd_at : List ℕ → Ivmd
ivmd_at b = record {
  kind = block_kind b;  -- Type
  flags = field_of b 1 1;  -- Flags
  device_id = field_of b 4 2;  -- DeviceID
  auxiliary = field_of b 6 2;  -- Auxiliary Data
  start = field_of b 16 8;  -- IVMD start address
  length = field_of b 24 8;  -- IVMD memory block length
}

-- what a block's fixed bytes contain, by its type; nothing of a type that isn't defined
abbrev pub block_fields : List ℕ → Option IvrsFields
block_fields b =
    if is_ivhd (block_kind b) then Some (kinds.Ivhd (ivhd_at b))
    else if is_ivmd (block_kind b) then Some (kinds.Ivmd (ivmd_at b))
    else None

-- the device entries of an IVHD are after its fixed bytes; other blocks have none
abbrev pub entry_bytes : List ℕ → List ℕ
entry_bytes b = if is_ivhd (block_kind b) then drop (least_of (block_kind b)) b else []

-- ---- a walk

-- what an item shows: its bytes
abbrev pub block_bytes : IvrsBlock → List ℕ
block_bytes b = b.bytes.now

-- the blocks that are still to come
abbrev pub blocks_left : PieceIter Blocks → List (List ℕ)
blocks_left s = left block_size s

-- the rest after them, in which none begins
abbrev pub rest_left : PieceIter Blocks → List ℕ
rest_left s = rest_after block_size s
