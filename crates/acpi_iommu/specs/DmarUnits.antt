-- Which unit of a DMAR remaps a device, and which memory is reserved for it (sections 8.3 and 8.4).
use Rattle.std.specs.Prelude.{ℕ, ◌==◌, ◌&&◌, ◌||◌, Bool, not, find, filter, List, map, slice_get, Option, None, Some, Result, Ok, if◌then◌else◌, filter_map, option_map}
use Rattle.acpi_base.specs.FromStd.{list_all, list_any, option_or}
use Rattle.acpi_base.specs.Words.{◌>>=◌, holds, is_left}
use Rattle.acpi_iommu.specs.Dmar.{cut_of, drhd_at, includes_pci_all, is_range, kind_of, rmrr_at, segment_of, structures_left, structures_of}
use Rattle.acpi_iommu.specs.DmarScopes.{is_numbered, last_hop, names_device, scopes_of, scopes_rest, start_bus}
use Rattle.acpi_iommu.specs.Pieces.{first_sure}
use Rattle.acpi_iommu.specs.declared.dmar.fields.Drhd.{Drhd}
use Rattle.acpi_iommu.specs.declared.dmar.fields.Rmrr.{Rmrr}
use Rattle.acpi_iommu.specs.declared.dmar.reserved.ReservedIter.{ReservedIter}
use Rattle.acpi_iommu.specs.declared.dmar.scope.Hop.{Hop}
use Rattle.acpi_iommu.specs.declared.dmar.units.UnitSource.{UnitSource}
use Rattle.acpi_iommu.specs.declared.dmar.units.DmarUnits.{DmarUnits}
use Rattle.acpi_iommu.specs.declared.error.IommuError.{IommuError}
use Rattle.acpi_iommu.specs.declared.error.IommuError.TheVariants.{InvalidMemoryRange, InvalidStructureLength}

-- the scopes of a structure take all its bytes that are theirs
abbrev pub has_whole_scopes : List ℕ → Bool
has_whole_scopes e = not (is_left (scopes_rest e))

-- the structures take all bytes of the table, and the scopes of each all that are theirs
abbrev pub is_whole : List ℕ → Bool
is_whole table = not (is_left (cut_of table).1) && list_all has_whole_scopes (structures_of table)

-- ---- the unit of a device

-- a DRHD, type 0, of this segment
abbrev pub is_unit_of : ℕ → List ℕ → Bool
is_unit_of segment e = (kind_of e == 0) && (segment_of e == segment)

-- the first DRHD of a segment one of whose scopes names the device
abbrev pub unit_that_names : List ℕ → ℕ → ℕ → List Hop → Option (List ℕ)
unit_that_names table segment bus hops =
    find (λ e. is_unit_of segment e && names_device bus hops e) (structures_of table)

-- the first one with INCLUDE_PCI_ALL
abbrev pub unit_of_others : List ℕ → ℕ → Option (List ℕ)
unit_of_others table segment =
    find (λ e. is_unit_of segment e && includes_pci_all (drhd_at e)) (structures_of table)

-- the unit that remaps the device: the one that names it, else the one of all others
abbrev pub unit_for : List ℕ → ℕ → ℕ → List Hop → Result (Option Drhd) IommuError
unit_for table segment bus hops = do
  _ ← holds (is_whole table) InvalidStructureLength
  Ok (option_map drhd_at (option_or (unit_that_names table segment bus hops) (unit_of_others table segment)))

-- whether a unit of the segment names the device
abbrev pub is_named : List ℕ → ℕ → ℕ → List Hop → Bool
is_named table segment bus hops = list_any (λ e. is_unit_of segment e && names_device bus hops e) (structures_of table)

-- the unit, if it names the device; or if it has INCLUDE_PCI_ALL, and no unit names the device
abbrev pub drhd_in : ℕ → ℕ → List Hop → Bool → List ℕ → Option Drhd
drhd_in segment bus hops named e =
    if is_unit_of segment e && (if named then names_device bus hops e else includes_pci_all (drhd_at e))
    then Some (drhd_at e) else None

-- the same unit, unless a scope is malformed in one of the segment before it. Those after one with INCLUDE_PCI_ALL are
-- of other segments, as it is the last of its own (section 8.3)
abbrev pub find_unit : List ℕ → ℕ → ℕ → List Hop → Result (Option Drhd) IommuError
find_unit table segment bus hops =
    first_sure (drhd_in segment bus hops (is_named table segment bus hops))
    (λ e. not (is_unit_of segment e) || has_whole_scopes e) (structures_of table) (cut_of table).1

-- ---- the unit of an I/O APIC or an HPET

-- what a DRHD and a scope of it contain: the unit, and the bus and the last hop by which it knows the device
abbrev pub source_at : List ℕ → List ℕ → UnitSource
source_at e s = record { unit = drhd_at e; bus = start_bus s; hop = last_hop s }

-- if a structure is a DRHD, type 0, what its first scope of this type and Enumeration ID contains
abbrev pub source_in : ℕ → ℕ → List ℕ → Option UnitSource
source_in kind id e =
    if kind_of e == 0 then option_map (source_at e) (find (is_numbered kind id) (scopes_of e))
    else None

-- what the first DRHD that has one contains
abbrev pub source_of : ℕ → List ℕ → ℕ → Result (Option UnitSource) IommuError
source_of kind table id = do
  _ ← holds (is_whole table) InvalidStructureLength
  Ok (slice_get (filter_map (source_in kind id) (structures_of table)) 0)

-- of the I/O APIC with this id, by scopes of type 3, and of the HPET with this number, by scopes of type 4

abbrev pub unit_of_io_apic : List ℕ → ℕ → Result (Option UnitSource) IommuError
unit_of_io_apic = source_of 3

abbrev pub unit_of_hpet : List ℕ → ℕ → Result (Option UnitSource) IommuError
unit_of_hpet = source_of 4

-- the same, unless a scope is malformed in a DRHD before it
abbrev pub find_source : ℕ → List ℕ → ℕ → Result (Option UnitSource) IommuError
find_source kind table id =
    first_sure (source_in kind id) (λ e. not (kind_of e == 0) || has_whole_scopes e) (structures_of table)
    (cut_of table).1

-- ---- memory that is reserved

-- an RMRR, type 1, of this segment one of whose scopes names the device
abbrev pub is_reserved_for : ℕ → ℕ → List Hop → List ℕ → Bool
is_reserved_for segment bus hops e =
    (kind_of e == 1) && (segment_of e == segment) && names_device bus hops e

-- the ranges among these structures, in order
abbrev pub reserved_in : ℕ → ℕ → List Hop → List (List ℕ) → List Rmrr
reserved_in segment bus hops es = map rmrr_at (filter (is_reserved_for segment bus hops) es)

-- the ranges of a table, if each is a range
abbrev pub reserved_for : List ℕ → ℕ → ℕ → List Hop → Result (List Rmrr) IommuError
reserved_for table segment bus hops = do
  _ ← holds (is_whole table) InvalidStructureLength
  _ ← holds (list_all is_range (reserved_in segment bus hops (structures_of table))) InvalidMemoryRange
  Ok (reserved_in segment bus hops (structures_of table))

-- ---- faults

-- why a structure is at fault: its scopes end before it does, or it is an RMRR, type 1, that is no range
abbrev pub structure_fault : List ℕ → Option IommuError
structure_fault e =
    if not (has_whole_scopes e) then Some InvalidStructureLength
    else if (kind_of e == 1) && not (is_range (rmrr_at e)) then Some InvalidMemoryRange
    else None

-- ---- walks

-- the ranges that are still to come in a walk
abbrev pub reserved_left : ReservedIter → List Rmrr
reserved_left s = reserved_in s.segment s.bus s.hops.now (structures_left s.structures)

-- the table of a walk
abbrev pub dmar_bytes : DmarUnits → List ℕ
dmar_bytes u = u.table.now
