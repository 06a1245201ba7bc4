-- Which unit of an IVRS remaps a device, and which memory has its own rules for it (section 5.2).
use Rattle.std.specs.Prelude.{ℕ, ◌==◌, ◌&&◌, ◌||◌, Bool, not, nat_le, find, filter, List, map, slice_get, Option, None, Some, Result, Ok, if◌then◌else◌, filter_map, option_map}
use Rattle.acpi_base.specs.FromStd.{list_all, list_any}
use Rattle.acpi_base.specs.Words.{range_fits, ◌>>=◌, holds, is_left}
use Rattle.acpi_iommu.specs.Ivrs.{block_kind, blocks_cut, blocks_left, blocks_of, is_ivmd, ivhd_at, ivmd_at}
use Rattle.acpi_iommu.specs.IvrsEntries.{covers, entries_cut, entries_of, settings_of, source_for}
use Rattle.acpi_iommu.specs.Pieces.{first_sure}
use Rattle.acpi_iommu.specs.declared.error.IommuError.{IommuError}
use Rattle.acpi_iommu.specs.declared.error.IommuError.TheVariants.{InvalidMemoryRange, InvalidStructureLength}
use Rattle.acpi_iommu.specs.declared.ivrs.block.Ivmd.{Ivmd}
use Rattle.acpi_iommu.specs.declared.ivrs.blocks.BestBlockIter.{BestBlockIter}
use Rattle.acpi_iommu.specs.declared.ivrs.blocks.IvrsBlocks.{IvrsBlocks}
use Rattle.acpi_iommu.specs.declared.ivrs.blocks.DeviceUnit.{DeviceUnit}
use Rattle.acpi_iommu.specs.declared.ivrs.blocks.MemoryIter.{MemoryIter}

-- the entries of a block take all its bytes that are theirs
abbrev pub has_whole_entries : List ℕ → Bool
has_whole_entries b = not (is_left (entries_cut b).1)

-- the blocks take all bytes of the table, and the entries of each all that are theirs
abbrev pub is_whole : List ℕ → Bool
is_whole table = not (is_left (blocks_cut table).1) && list_all has_whole_entries (blocks_of table)

-- ---- the blocks to believe

-- a block of this type
abbrev pub is_of_kind : ℕ → List ℕ → Bool
is_of_kind kind b = block_kind b == kind

-- the greatest type of an IVHD, 0x10, 0x11 or 0x40, that the table has, or 0x10 if it has none
abbrev pub best_kind : List ℕ → ℕ
best_kind table =
    if list_any (is_of_kind 0x40) (blocks_of table) then 0x40
    else if list_any (is_of_kind 0x11) (blocks_of table) then 0x11
    else 0x10

-- the blocks of this type among these, in order
abbrev pub of_kind : ℕ → List (List ℕ) → List (List ℕ)
of_kind kind bs = filter (is_of_kind kind) bs

abbrev pub blocks_of_best_type : List ℕ → Result (List (List ℕ)) IommuError
blocks_of_best_type table = do
  _ ← holds (is_whole table) InvalidStructureLength
  Ok (of_kind (best_kind table) (blocks_of table))

-- ---- the unit of a device

-- what a block and an entry of it that covers the device contain
abbrev pub unit_at : ℕ → List ℕ → List ℕ → DeviceUnit
unit_at id b e = record { unit = ivhd_at b; settings = settings_of e; source = source_for id e }

-- a block of this type and segment
abbrev pub is_ivhd_of : ℕ → ℕ → List ℕ → Bool
is_ivhd_of kind segment b = is_of_kind kind b && ((ivhd_at b).segment == segment)

-- if a block is such a one, what its first entry that covers the device contains
abbrev pub unit_in : ℕ → ℕ → ℕ → List ℕ → Option DeviceUnit
unit_in kind segment id b =
    if is_ivhd_of kind segment b
    then option_map (unit_at id b) (find (covers id) (entries_of b)) else None

-- what the first block of the best type that has one contains
abbrev pub block_for : List ℕ → ℕ → ℕ → Result (Option DeviceUnit) IommuError
block_for table segment id = do
  _ ← holds (is_whole table) InvalidStructureLength
  Ok (slice_get (filter_map (unit_in (best_kind table) segment id) (blocks_of table)) 0)

-- the same, unless an entry is malformed in a block of that type and segment before it
abbrev pub find_block : List ℕ → ℕ → ℕ → Result (Option DeviceUnit) IommuError
find_block table segment id =
    first_sure (unit_in (best_kind table) segment id)
    (λ b. not (is_ivhd_of (best_kind table) segment b) || has_whole_entries b) (blocks_of table) (blocks_cut table).1

-- ---- memory

-- an IVMD for the device: type 0x20 for all, 0x21 for the one of DeviceID, 0x22 for those from it to Auxiliary Data
abbrev pub is_memory_for : ℕ → List ℕ → Bool
is_memory_for id b =
    is_of_kind 0x20 b
    || (is_of_kind 0x21 b && ((ivmd_at b).device_id == id))
    || (is_of_kind 0x22 b && nat_le (ivmd_at b).device_id id && nat_le id (ivmd_at b).auxiliary)

-- its memory ends below 2^64
abbrev pub ends_below : Ivmd → Bool
ends_below m = range_fits m.start m.length

-- those among these blocks, in order
abbrev pub memory_in : ℕ → List (List ℕ) → List Ivmd
memory_in id bs = map ivmd_at (filter (is_memory_for id) bs)

-- the memory of a table, if that of each block ends below 2^64
abbrev pub memory_for : List ℕ → ℕ → Result (List Ivmd) IommuError
memory_for table id = do
  _ ← holds (is_whole table) InvalidStructureLength
  _ ← holds (list_all ends_below (memory_in id (blocks_of table))) InvalidMemoryRange
  Ok (memory_in id (blocks_of table))

-- ---- faults

-- why a block is at fault: its entries end before it does, or it is an IVMD whose memory doesn't end below 2^64
abbrev pub block_fault : List ℕ → Option IommuError
block_fault b =
    if not (has_whole_entries b) then Some InvalidStructureLength
    else if is_ivmd (block_kind b) && not (ends_below (ivmd_at b)) then Some InvalidMemoryRange
    else None

-- ---- walks

-- the blocks, and the memory, still to come

abbrev pub best_left : BestBlockIter → List (List ℕ)
best_left s = of_kind s.kind (blocks_left s.blocks)

abbrev pub memory_left : MemoryIter → List Ivmd
memory_left s = memory_in s.device_id (blocks_left s.blocks)

-- the table of a walk
abbrev pub ivrs_bytes : IvrsBlocks → List ℕ
ivrs_bytes b = b.table.now
