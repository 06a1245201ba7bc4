-- What a written image holds: an RSDP, the root table that it leads to, and the tables that this
-- one lists (ACPI 6.4, sections 5.2.5.3, 5.2.6, 5.2.7 and 5.2.8).
use Rattle.std.specs.Prelude.{◌≡◌, ℕ, ◌+◌, ◌-◌, ◌*◌, ◌%◌, ◌==◌, if◌then◌else◌, List, ◌∷◌, ◌++◌, length, take, drop, map, flat_map, replicate, slice_set}
use Rattle.acpi_base.specs.Words.{spelling, sum_of, Memory, Region, letters_of}
use Rattle.acpi.specs.Types.{Signature}
use Rattle.acpi.specs.Words.{kind_of_revision, signature_of, width_of, rsd_ptr}
use Rattle.acpi.specs.declared.root.RootKind.{RootKind}
use Rattle.acpi_image.specs.declared.write.PlacedTable.{PlacedTable}

-- where the RSDP and the root table are to be, the RSDP's revision, and the tables where they are
-- to be
pub record Plan : Type 0 where
  pub rsdp : ℕ
  pub root : ℕ
  pub revision : ℕ
  pub tables : Memory

-- a table that a call was passed, as a region
abbrev pub placed_region : PlacedTable → Region
placed_region t = record { start = t.address; bytes = t.bytes.now }

abbrev pub placed : List PlacedTable → Memory
placed tables = map placed_region tables

abbrev pub plan : ℕ → ℕ → ℕ → List PlacedTable → Plan
plan rsdp root revision tables =
    record { rsdp = rsdp; root = root; revision = revision; tables = placed tables }

-- ---- sums

-- the byte that makes the sum 0 if it is at this offset
unfoldable pub sum_byte : ℕ → List ℕ → ℕ
sum_byte offset bytes = (256 - sum_of (slice_set bytes offset 0)) % 256

-- the bytes, but for the one at this offset, which makes their sum 0
unfoldable pub with_sum : ℕ → List ℕ → List ℕ
with_sum offset bytes = slice_set bytes offset (sum_byte offset bytes)

abbrev pub spaces : ℕ → List ℕ
spaces n = replicate n 32

-- ---- the RSDP

-- its fields in order (section 5.2.5.3): Signature, a Checksum of 0, OEMID, Revision, RsdtAddress, Length, XsdtAddress,
-- an Extended Checksum of 0 and three bytes that are Reserved
unfoldable pub rsdp_unsummed : List ℕ → ℕ → ℕ → ℕ → ℕ → List ℕ
rsdp_unsummed oem_id revision rsdt count xsdt =
    rsd_ptr ++ (0 ∷ (oem_id ++ (revision ∷ (spelling 4 rsdt
    ++ (spelling 4 count ++ (spelling 8 xsdt ++ replicate 4 0))))))

-- Checksum, byte 8, makes the first 20 bytes sum to 0
unfoldable pub with_first_sum : List ℕ → List ℕ
with_first_sum bytes = with_sum 8 (take 20 bytes) ++ drop 20 bytes

-- the RSDP of an OEMID and a revision that leads to the root table at an address: the RSDT for revision 0, with zeros
-- after the first 20 bytes, else the XSDT, and Extended Checksum, byte 32, makes all 36 bytes sum to 0
unfoldable pub rsdp_to : List ℕ → ℕ → ℕ → List ℕ
rsdp_to oem_id revision root =
    if revision == 0 then with_first_sum (rsdp_unsummed oem_id revision root 0 0)
    else with_sum 32 (with_first_sum (rsdp_unsummed oem_id revision 0 36 root))

-- ---- the root table

-- how many bytes it has with that many pointers
abbrev pub root_length : RootKind → ℕ → ℕ
root_length kind count = 36 + width_of kind * count

-- its fields in order (section 5.2.6): Signature, Length, a Revision of 1, a Checksum of 0, an OEMID of six spaces, an
-- OEM Table ID of eight, and OEM Revision, Creator ID and Creator Revision, which are 0
unfoldable pub root_header : Signature → ℕ → List ℕ
root_header signature count =
    letters_of signature ++ spelling 4 count
    ++ 1 ∷ 0 ∷ spaces 6 ++ spaces 8 ++ replicate 12 0

-- the header, and the pointers, Entry (sections 5.2.7 and 5.2.8)
abbrev pub root_unsummed : RootKind → List ℕ → List ℕ
root_unsummed kind pointers =
    root_header (signature_of kind) (root_length kind (length pointers))
    ++ flat_map (spelling (width_of kind)) pointers

-- Checksum, byte 9, makes it sum to 0
abbrev pub root_to : RootKind → List ℕ → List ℕ
root_to kind pointers = with_sum 9 (root_unsummed kind pointers)

-- ---- the records

abbrev pub kind_of : Plan → RootKind
kind_of p = kind_of_revision p.revision

-- the pointers of the root table: where the tables start
abbrev pub starts_of : Memory → List ℕ
starts_of tables = map (λ t. t.start) tables

abbrev pub pointers_of : Plan → List ℕ
pointers_of p = starts_of p.tables

-- a table whose Checksum, byte 9, makes it sum to 0
abbrev pub summed : Region → Region
summed t = record { start = t.start; bytes = with_sum 9 t.bytes }

-- the bytes of the tables as they are written
abbrev pub tables_of : Plan → List (List ℕ)
tables_of p = map (λ t. with_sum 9 t.bytes) p.tables

-- the OEMID of an image's RSDP is six spaces
abbrev pub rsdp_record : ℕ → ℕ → ℕ → Region
rsdp_record address revision root = record { start = address; bytes = rsdp_to (spaces 6) revision root }

abbrev pub root_record : RootKind → ℕ → List ℕ → Region
root_record kind address pointers = record { start = address; bytes = root_to kind pointers }

-- the RSDP, the root table, and the tables in order
abbrev pub records_of : Plan → Memory
records_of p =
    rsdp_record p.rsdp p.revision p.root
    ∷ root_record (kind_of p) p.root (pointers_of p)
    ∷ map summed p.tables

-- ---- after an error

-- what a file has then: what it had, and after it a front of these bytes
pub record HasFront (old bytes new : List ℕ) : Type 0 where
  pub front : List ℕ
  pub rest : List ℕ
  pub split : bytes ≡ front ++ rest
  pub put : new ≡ old ++ front
