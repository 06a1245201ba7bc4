-- The DMA Remapping Reporting Structure, DMAR (Intel Virtualization Technology for Directed I/O 4.0, chapter 8), and
-- the structures that it is made of.
use Rattle.std.specs.Prelude.{ℕ, ◌+◌, ◌-◌, ◌*◌, ◌^◌, ◌==◌, ◌&&◌, ◌||◌, Bool, nat_lt, nat_le, List, [], drop, Option, None, Some, if◌then◌else◌}
use Rattle.acpi_base.specs.Words.{bits_of, has_bit, field_of, header_at}
use Rattle.acpi_iommu.specs.Pieces.{left, pieces, rest_after, valid_length}
use Rattle.acpi_iommu.specs.Texts.{up_to_zero}
use Rattle.acpi_iommu.specs.declared.dmar.Dmar.{Dmar}
use Rattle.acpi_iommu.specs.declared.dmar.structure.DmarStructure.{DmarStructure}
use Rattle.acpi_iommu.specs.declared.dmar.fields.Andd.{Andd}
use Rattle.acpi_iommu.specs.declared.dmar.fields.Atsr.{Atsr}
use Rattle.acpi_iommu.specs.declared.dmar.fields.DmarFields.{DmarFields}
use Rattle.acpi_iommu.specs.declared.dmar.fields.DmarFields.TheVariants as kinds
use Rattle.acpi_iommu.specs.declared.dmar.fields.Drhd.{Drhd}
use Rattle.acpi_iommu.specs.declared.dmar.fields.Rhsa.{Rhsa}
use Rattle.acpi_iommu.specs.declared.dmar.fields.Rmrr.{Rmrr}
use Rattle.acpi_iommu.specs.declared.dmar.fields.Satc.{Satc}
use Rattle.acpi_iommu.specs.declared.dmar.fields.Sidp.{Sidp}
use Rattle.acpi_iommu.specs.declared.dmar.structure.Structures.{Structures}
use Rattle.acpi_iommu.specs.declared.pieces.PieceIter.{PieceIter}

-- the table DMAR, at least 48 bytes: section 8.1
unfoldable pub dmar_at : List ℕ → Dmar
dmar_at b = record {
  header = header_at b;
  host_address_width = field_of b 36 1;  -- Host Address Width
  flags = field_of b 37 1;  -- Flags
}

-- ---- structures

-- Type of a structure
abbrev pub kind_of : List ℕ → ℕ
kind_of e = field_of e 0 2

-- the least length of a structure of a type (sections 8.3 to 8.9)
abbrev pub least_of : ℕ → ℕ
least_of kind =
    if kind == 0 then 16
    else if kind == 1 then 24
    else if kind == 3 then 20
    else if nat_le kind 6 then 8
    else 4

-- Length, at 2, of the structure at the front of bytes
abbrev pub structure_size : List ℕ → Option ℕ
structure_size e = valid_length (least_of (kind_of e)) (field_of e 2 2)

-- the structures of a table (Remapping Structures[], from 48 on), and the rest in which none begins
abbrev pub cut_of : List ℕ → List (List ℕ) × List ℕ
cut_of table = pieces structure_size (drop 48 table)

abbrev pub structures_of : List ℕ → List (List ℕ)
structures_of table = (cut_of table).0

-- Segment Number, which types 0, 1, 2, 5 and 6 have at the same place
abbrev pub segment_of : List ℕ → ℕ
segment_of e = field_of e 6 2

-- DMA Remapping Hardware Unit Definition (section 8.3)
abbrev pub drhd_at : List ℕ → Drhd
drhd_at e = record {
  flags = field_of e 4 1;  -- Flags
  size = field_of e 5 1;  -- Size
  segment = segment_of e;  -- Segment Number
  register_base = field_of e 8 8;  -- Register Base Address
}

-- Flags of a DRHD, bit 0: INCLUDE_PCI_ALL
abbrev pub includes_pci_all : Drhd → Bool
includes_pci_all d = has_bit d.flags 0

-- Size of a DRHD, bits 0 to 3: the register set has 2^n pages of 4 KiB
abbrev pub register_bytes : Drhd → ℕ
register_bytes d = 4096 * 2 ^ bits_of d.size 0 4

-- Reserved Memory Region Reporting (section 8.4)
abbrev pub rmrr_at : List ℕ → Rmrr
rmrr_at e = record {
  segment = segment_of e;  -- Segment Number
  base = field_of e 8 8;  -- Reserved Memory Region Base Address
  limit = field_of e 16 8;  -- Reserved Memory Region Limit Address
}

-- a range: its last byte isn't before its first
abbrev pub is_range : Rmrr → Bool
is_range r = nat_le r.base r.limit

-- how many bytes it has, if it is a range that doesn't have all 2^64
abbrev pub length_of : Rmrr → Option ℕ
length_of r =
    if is_range r && nat_lt (r.limit - r.base + 1) (2 ^ 64) then Some (r.limit - r.base + 1) else None

-- Root Port ATS Capability Reporting (section 8.5)
abbrev pub atsr_at : List ℕ → Atsr
atsr_at e = record {
  flags = field_of e 4 1;  -- Flags
  segment = segment_of e;  -- Segment Number
}

-- Remapping Hardware Static Affinity (section 8.6)
abbrev pub rhsa_at : List ℕ → Rhsa
rhsa_at e = record {
  register_base = field_of e 8 8;  -- Register Base Address
  domain = field_of e 16 4;  -- Proximity Domain
}

-- ACPI Name-space Device Declaration (section 8.7)
abbrev pub andd_at : List ℕ → Andd
andd_at e = record {
  device_number = field_of e 7 1;  -- ACPI Device Number
}

-- SoC Integrated Address Translation Cache (section 8.8)
abbrev pub satc_at : List ℕ → Satc
satc_at e = record {
  flags = field_of e 4 1;  -- Flags
  segment = segment_of e;  -- Segment Number
}

-- SoC Integrated Device Property (section 8.9)
abbrev pub sidp_at : List ℕ → Sidp
sidp_at e = record {
  segment = segment_of e;  -- Segment Number
}

-- what a structure's fixed bytes contain, by its type; nothing of a type that isn't defined
abbrev pub fields_of : List ℕ → Option DmarFields
fields_of e =
    if kind_of e == 0 then Some (kinds.Drhd (drhd_at e))
    else if kind_of e == 1 then Some (kinds.Rmrr (rmrr_at e))
    else if kind_of e == 2 then Some (kinds.Atsr (atsr_at e))
    else if kind_of e == 3 then Some (kinds.Rhsa (rhsa_at e))
    else if kind_of e == 4 then Some (kinds.Andd (andd_at e))
    else if kind_of e == 5 then Some (kinds.Satc (satc_at e))
    else if kind_of e == 6 then Some (kinds.Sidp (sidp_at e))
    else None

-- ACPI Object Name of an ANDD, type 4: from byte 8 on, up to the first zero or the structure's end; others have none
abbrev pub name_of : List ℕ → List ℕ
name_of e = if kind_of e == 4 then up_to_zero (drop 8 e) else []

-- the bytes of a structure's device scopes: those after its fixed ones; other types have none
abbrev pub scope_bytes : List ℕ → List ℕ
scope_bytes e =
    if kind_of e == 0 then drop 16 e
    else if kind_of e == 1 then drop 24 e
    else if (kind_of e == 2) || (kind_of e == 5) || (kind_of e == 6) then drop 8 e
    else []

-- ---- a walk

-- what an item shows: its bytes
abbrev pub structure_bytes : DmarStructure → List ℕ
structure_bytes s = s.bytes.now

-- the structures that are still to come
abbrev pub structures_left : PieceIter Structures → List (List ℕ)
structures_left s = left structure_size s

-- the rest after them, in which none begins
abbrev pub rest_left : PieceIter Structures → List ℕ
rest_left s = rest_after structure_size s
