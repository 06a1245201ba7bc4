-- The root table and its pointers (ACPI 6.4, sections 5.2.7 and 5.2.8). What it lists depends on its kind, whatever the
-- revision of the RSDP is.
use Rattle.std.specs.Prelude.{◌≡◌, ℕ, ◌<◌, ◌^◌, ◌==◌, zero, suc, if◌then◌else◌, Result, List, [], ◌∷◌, ◌++◌, take, drop, length, flat_map, replicate}
use Rattle.acpi_base.specs.FromStd.{AllByRecursion}
use Rattle.acpi.specs.Types.{AcpiError, Signature, RSDT, XSDT, RootKind, Rsdt, Xsdt, RootPointer}
use Rattle.acpi_base.specs.Words.{number, spelling, Memory, Kind, accepted, plain_kind, table_at}

-- the signature of a root table of this kind
abbrev pub signature_of : RootKind → Signature
signature_of Rsdt = RSDT
signature_of Xsdt = XSDT

-- how many bytes each of its pointers, Entry, has
abbrev pub width_of : RootKind → ℕ
width_of Rsdt = 4
width_of Xsdt = 8

-- a root table of this kind as a table
abbrev pub root_kind : RootKind → Kind
root_kind kind = plain_kind (signature_of kind)

-- the root table of this kind at an address, or the first refusal
abbrev pub root_at : Memory → RootKind → ℕ → Result (List ℕ) AcpiError
root_at m kind address = table_at m (root_kind kind) address

-- the one that is accepted by the bits of `accept`, which give up checks
abbrev pub accepted_root_at : ℕ → Memory → RootKind → ℕ → Result (List ℕ) AcpiError
accepted_root_at accept m kind address = table_at m (accepted accept (root_kind kind)) address

-- ---- what leads to a root table

-- the revision that `revision()` returns, the kind of the root table, and its address
abbrev pub root_pointer : ℕ → RootKind → ℕ → RootPointer
root_pointer revision kind address = record { revision = revision; kind = kind; address = address }

-- the kind that a revision stands for: the RSDT for 0, else the XSDT
abbrev pub kind_of_revision : ℕ → RootKind
kind_of_revision revision = if revision == 0 then Rsdt else Xsdt

-- a root table at an address that goes by a revision
abbrev pub root_of_revision : ℕ → ℕ → RootPointer
root_of_revision revision address = root_pointer revision (kind_of_revision revision) address

-- ---- its pointers

-- the numbers of at most n pieces of the bytes, each of this width but for a shorter last one
abbrev pub pieces : ℕ → ℕ → List ℕ → List ℕ
pieces zero width bytes = []
pieces (suc n) width [] = []
pieces (suc n) width (b ∷ bs) = number (take width (b ∷ bs)) ∷ pieces n width (drop width (b ∷ bs))

-- the pointers that the bytes after a root table's header, from 36 on, encode: Entry. A short remainder is one more
unfoldable pub pointers : ℕ → List ℕ → List ℕ
pointers width bytes = pieces (length bytes) width bytes

-- the pointers in the reader's words: they fit the width, and encoded one after the other they are the bytes, followed
-- by fewer zeros than a pointer has bytes. There is exactly one such list: the law `OnePointers`
pub record IsPointers (width : ℕ) (bytes ps : List ℕ) : Type 0 where
  pub fit : AllByRecursion (λ p. p < 256 ^ width) ps
  pub spelled : (zeros : ℕ) × (zeros < width)
      × (flat_map (spelling width) ps ≡ bytes ++ replicate zeros 0)
