-- What a value of `AcpiTables` shows.
use Rattle.std.specs.Prelude.{◌≡◌, ◌↔◌, ℕ, Bool, List, drop}
use Rattle.acpi_base.specs.Words.{Memory, Kind, accepted}
use Rattle.acpi.specs.Root.{IsPointers, pointers, width_of}
use Rattle.acpi.specs.Types.{RootKind}
use Rattle.acpi.specs.declared.tables.AcpiTables.{AcpiTables}
use Rattle.acpi_base.specs.Mapping as mapping

-- the handler that lends the tables
abbrev pub lender_of : {H P h p : _} → AcpiTables H P h p → H
lender_of t = mapping.handler_of t.root

-- the memory that it lends
abbrev pub memory_of : {H P h p : _} → AcpiTables H P h p → Memory
memory_of {h = h} t = h.memory (lender_of t)

-- which ranges it may be asked for
abbrev pub may_of : {H P h p : _} → AcpiTables H P h p → ℕ → ℕ → Bool
may_of {h = h} t = h.may (lender_of t)

-- the checks that are given up: bit 0 is that of sums, bit 1 that of ids
abbrev pub accept_of : {H P h p : _} → AcpiTables H P h p → ℕ
accept_of {p = p} t = p.bits t.policy

-- a kind of tables with the checks that are left
abbrev pub accepted_by : {H P h p : _} → AcpiTables H P h p → Kind → Kind
accepted_by t k = accepted (accept_of t) k

abbrev pub revision_of : {H P h p : _} → AcpiTables H P h p → ℕ
revision_of t = t.revision

abbrev pub kind_of : {H P h p : _} → AcpiTables H P h p → RootKind
kind_of t = t.kind

-- where the root table starts
abbrev pub root_address_of : {H P h p : _} → AcpiTables H P h p → ℕ
root_address_of t = mapping.start_of t.root

-- the root table's bytes
abbrev pub root_of : {H P h p : _} → AcpiTables H P h p → List ℕ
root_of t = mapping.bytes_of t.root

-- the pointers that the root table lists
abbrev pub pointers_of : {H P h p : _} → AcpiTables H P h p → List ℕ
pointers_of t = pointers (width_of (kind_of t)) (drop 36 (root_of t))

-- what a definition over a memory and the pointers in it says of the tables
abbrev pub of_tables {ℓ} : {A : Type ℓ} {H P h p : _} → AcpiTables H P h p → (Memory → List ℕ → A) → A
of_tables t defined = defined (memory_of t) (pointers_of t)

-- in the reader's words: the bytes after the root table's header encode these pointers and no others. Each constructor
-- of `AcpiTables` says so
abbrev pub SpellsPointers : {H P h p : _} → AcpiTables H P h p → Type 0
SpellsPointers t = (ps : List ℕ)
    → IsPointers (width_of (kind_of t)) (drop 36 (root_of t)) ps ↔ (ps ≡ pointers_of t)
