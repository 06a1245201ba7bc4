-- Which devices a structure of a DMAR names, by its device scopes (section 8.3.1).
use Rattle.std.specs.Prelude.{◌≡◌, ◌↔◌, ℕ, ◌==◌, ◌++◌, ◌&&◌, Bool, true, false, nat_lt, List, [], ◌∷◌, length, drop, Option, None, if◌then◌else◌}
use Rattle.acpi_base.specs.FromStd.{last_or, list_any}
use Rattle.acpi_base.specs.Words.{field_of}
use Rattle.acpi_iommu.specs.Dmar.{scope_bytes}
use Rattle.acpi_iommu.specs.Pieces.{left, pieces, rest_after, valid_length}
use Rattle.acpi_iommu.specs.declared.dmar.scope.DeviceScope.{DeviceScope}
use Rattle.acpi_iommu.specs.declared.dmar.scope.Hop.{Hop}
use Rattle.acpi_iommu.specs.declared.dmar.scope.HopIter.{HopIter}
use Rattle.acpi_iommu.specs.declared.dmar.scope.Scopes.{Scopes}
use Rattle.acpi_iommu.specs.declared.pieces.PieceIter.{PieceIter}

-- ---- scopes

-- Length, at 1, of the scope at the front of bytes; each has at least 6 bytes
abbrev pub scope_size : List ℕ → Option ℕ
scope_size s = valid_length 6 (field_of s 1 1)

-- the scopes of a structure
abbrev pub scopes_of : List ℕ → List (List ℕ)
scopes_of e = (pieces scope_size (scope_bytes e)).0

-- the rest after them, in which none begins
abbrev pub scopes_rest : List ℕ → List ℕ
scopes_rest e = (pieces scope_size (scope_bytes e)).1

-- Type of a scope: 1 PCI Endpoint Device, 2 PCI Sub-hierarchy, 3 IOAPIC, 4 MSI_CAPABLE_HPET, 5 ACPI_NAMESPACE_DEVICE
abbrev pub scope_kind : List ℕ → ℕ
scope_kind s = field_of s 0 1

abbrev pub scope_flags : List ℕ → ℕ
scope_flags s = field_of s 2 1  -- Flags

abbrev pub enumeration_id : List ℕ → ℕ
enumeration_id s = field_of s 4 1  -- Enumeration ID

abbrev pub start_bus : List ℕ → ℕ
start_bus s = field_of s 5 1  -- Start Bus Number

-- ---- hops

-- a hop is a device and a function, one byte each; a last single byte is no hop
abbrev pub hops_in : List ℕ → List Hop
hops_in (device ∷ function ∷ rest) = record { device = device; function = function } ∷ hops_in rest
hops_in (device ∷ []) = []
hops_in [] = []

-- Path of a scope, from 6 on: the hops from the start bus to the device
abbrev pub path_of : List ℕ → List Hop
path_of s = hops_in (drop 6 s)

abbrev pub is_same_hop : Hop → Hop → Bool
is_same_hop a b = (a.device == b.device) && (a.function == b.function)

-- whether a path is a front of the hops, or all of them
abbrev pub is_front : List Hop → List Hop → Bool
is_front [] hops = true
is_front (p ∷ path) [] = false
is_front (p ∷ path) (h ∷ hops) = is_same_hop p h && is_front path hops

-- a path is a front of hops exactly if these are the path and others after it
abbrev pub FrontIsFront : Type 0
FrontIsFront =
    (path hops : List Hop) → (is_front path hops ≡ true) ↔ ((rest : List Hop) × (hops ≡ path ++ rest))

-- ---- naming

-- whether a path reaches the device: that of an endpoint, type 1, is the hops to it; that of a sub-hierarchy, type 2,
-- is a front of them, of one hop at least
abbrev pub reaches : ℕ → List Hop → List Hop → Bool
reaches kind path hops =
    is_front path hops
    && (if kind == 1 then length path == length hops else (kind == 2) && nat_lt 0 (length path))

-- whether a scope names the device that these hops reach from this bus
abbrev pub names : ℕ → List Hop → List ℕ → Bool
names bus hops s = (start_bus s == bus) && reaches (scope_kind s) (path_of s) hops

-- whether one of a structure's scopes does
abbrev pub names_device : ℕ → List Hop → List ℕ → Bool
names_device bus hops e = list_any (names bus hops) (scopes_of e)

-- whether a scope is of this type and has this Enumeration ID
abbrev pub is_numbered : ℕ → ℕ → List ℕ → Bool
is_numbered kind id s = (scope_kind s == kind) && (enumeration_id s == id)

-- the last hop of a scope's path
abbrev pub last_hop : List ℕ → Option Hop
last_hop s = last_or None (path_of s)

-- ---- walks

-- what items show, and what is still to come

abbrev pub bytes_of_scope : DeviceScope → List ℕ
bytes_of_scope s = s.bytes.now

abbrev pub scopes_left : PieceIter Scopes → List (List ℕ)
scopes_left s = left scope_size s

abbrev pub hops_left : HopIter → List Hop
hops_left s = hops_in s.rest.now

-- the rest after the scopes, in which none begins
abbrev pub rest_left : PieceIter Scopes → List ℕ
rest_left s = rest_after scope_size s
