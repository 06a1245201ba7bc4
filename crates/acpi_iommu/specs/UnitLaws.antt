-- In a reader's words: which unit remaps a device, and which memory has its own rules for it.
use Rattle.std.specs.Prelude.{◌≡◌, ◌⊎◌, ◌&&◌, ℕ, ◌+◌, ◌^◌, ◌<◌, ◌≤◌, List, ◌∷◌, ◌++◌, Option, Some, None, Ok, if◌then◌else◌}
use Rattle.acpi_base.specs.FromStd.{AllByRecursion}
use Rattle.acpi_iommu.specs.Dmar.{drhd_at, includes_pci_all, structures_of}
use Rattle.acpi_iommu.specs.DmarScopes.{names_device}
use Rattle.acpi_iommu.specs.DmarUnits.{is_unit_of, source_in, source_of, unit_for}
use Rattle.acpi_iommu.specs.Ivrs.{blocks_of}
use Rattle.acpi_iommu.specs.IvrsUnits.{best_kind, block_for, memory_for, unit_in}
use Rattle.acpi_iommu.specs.declared.dmar.fields.Drhd.{Drhd}
use Rattle.acpi_iommu.specs.declared.dmar.scope.Hop.{Hop}
use Rattle.acpi_iommu.specs.declared.ivrs.block.Ivmd.{Ivmd}

-- one of these has y, and none before it has anything
pub record Says {X Y : Type 0} (meaning : X → Option Y) (xs : List X) (y : Y) : Type 0 where
  pub before : List X
  pub x : X
  pub after : List X
  pub listed : xs ≡ before ++ x ∷ after
  pub none_before : AllByRecursion (λ b. meaning b ≡ None) before
  pub says : meaning x ≡ Some y

-- what is in the first of these that has something, or that none has
abbrev pub FirstSays : {X Y : Type 0} → (X → Option Y) → List X → Option Y → Type 0
FirstSays meaning xs None = AllByRecursion (λ x. meaning x ≡ None) xs
FirstSays meaning xs (Some y) = Says meaning xs y

-- a unit of the segment one of whose scopes names the device, and one with INCLUDE_PCI_ALL
abbrev pub naming : ℕ → ℕ → List Hop → List ℕ → Option Drhd
naming segment bus hops e = if is_unit_of segment e && names_device bus hops e then Some (drhd_at e) else None

abbrev pub of_others : ℕ → List ℕ → Option Drhd
of_others segment e = if is_unit_of segment e && includes_pci_all (drhd_at e) then Some (drhd_at e) else None

-- the unit of a device is the first in the table's order that names it; if none does, the first with INCLUDE_PCI_ALL
abbrev pub UnitIsFirst : Type 0
UnitIsFirst = (table : List ℕ) (segment bus : ℕ) (hops : List Hop) (answer : Option Drhd)
    → unit_for table segment bus hops ≡ Ok answer → (named : Option Drhd)
    × FirstSays (naming segment bus hops) (structures_of table) named
    × ((named ≡ answer) ⊎ ((named ≡ None) × FirstSays (of_others segment) (structures_of table) answer))

-- the unit of an I/O APIC or an HPET is the first that has a scope of it
abbrev pub SourceIsFirst : Type 0
SourceIsFirst = (kind : ℕ) (table : List ℕ) (id : ℕ) (answer : _) → source_of kind table id ≡ Ok answer
    → FirstSays (source_in kind id) (structures_of table) answer

-- the unit of a device of an IVRS is the first of the best type and the segment that has an entry for it
abbrev pub BlockIsFirst : Type 0
BlockIsFirst = (table : List ℕ) (segment id : ℕ) (answer : _) → block_for table segment id ≡ Ok answer
    → FirstSays (unit_in (best_kind table) segment id) (blocks_of table) answer

-- memory is meant for a device: for all, type 0x20, for this one, 0x21, or for a range that it is in, 0x22
abbrev pub IsMeantFor : ℕ → Ivmd → Type 0
IsMeantFor id m = (m.kind ≡ 0x20) ⊎ (((m.kind ≡ 0x21) × (m.device_id ≡ id))
    ⊎ ((m.kind ≡ 0x22) × (m.device_id ≤ id) × (id ≤ m.auxiliary)))

-- all memory that is returned for a device is meant for it, and ends below 2^64
abbrev pub MemoryIsMeant : Type 0
MemoryIsMeant = (table : List ℕ) (id : ℕ) (answer : List Ivmd) → memory_for table id ≡ Ok answer
    → AllByRecursion (λ m. IsMeantFor id m × (m.start + m.length < 2 ^ 64)) answer
