-- What is read of the inputs that are named.
use Rattle.std.specs.Prelude.{◌≡◌, ◌⊎◌, ◌<◌, ℕ, List, All, Contains, drop, length, map, take}
use Rattle.acpi_base.specs.Words.{Memory, Region}
use Rattle.acpi_image_reader.specs.Words.{IsImage, record_spelling}
use Rattle.acpi_dump_input.specs.Given.{GiveTable, IsReadFor}
use Rattle.acpi_dump_input.specs.declared.gather.Input.{Input}
use Rattle.acpi_dump_input.specs.declared.gather.Input.TheVariants as input
use Rattle.acpi_dump_input.specs.declared.tables.TableFile.{TableFile}

-- the bytes of tables that come as files
abbrev pub tables_in : List TableFile → List (List ℕ)
tables_in files = map (λ f. f.bytes.items) files

-- an image that bytes are, or whose one record has them from some address on
abbrev pub IsImageOf : List ℕ → List ℕ → Type 0
IsImageOf bytes image = (image ≡ bytes)
    ⊎ ((start : ℕ) × (image ≡ record_spelling (record { start = start; bytes = bytes })))

-- memory whose image is such a one
abbrev pub IsMemory : (List ℕ → Type 0) → Input → Type 0
IsMemory P (input.Memory image) = P image.items
IsMemory P (input.Tables files) = ⊥

-- some of these tables, one at least if there are any
abbrev pub AreOf : List (List ℕ) → Input → Type 0
AreOf tables (input.Memory image) = ⊥
AreOf tables (input.Tables files) =
    All (Contains tables) (tables_in files.items) × (0 < length tables → 0 < length files.items)

-- what was read is the memory of one of these inputs, or tables of them, one at least
abbrev pub IsInput : (List ℕ → List ℕ → Type 0) → List (List ℕ) → Input → Type 0
IsInput gives inputs (input.Memory image) = (name : List ℕ) × Contains inputs name
    × (bytes : List ℕ) × IsReadFor gives name bytes × IsImageOf bytes image.items
IsInput gives inputs (input.Tables files) =
    (0 < length files.items) × All (GiveTable gives inputs) (tables_in files.items)

-- no bytes, or those of a region of a memory from some byte on
abbrev pub IsRest : Memory → List ℕ → Type 0
IsRest m bytes = (length bytes ≡ 0)
    ⊎ ((region : Region) × (before : ℕ) × Contains m region × (bytes ≡ drop before region.bytes))

-- bytes that are one after the other in a region of a memory
pub record IsIn (m : Memory) (bytes : List ℕ) : Type 0 where
  pub region : Region
  pub has : Contains m region
  pub before : ℕ
  pub count : ℕ
  pub there : bytes ≡ take count (drop before region.bytes)

-- no bytes, or bytes that are one after the other in a region of a memory
abbrev pub IsPart : Memory → List ℕ → Type 0
IsPart m bytes = (length bytes ≡ 0) ⊎ IsIn m bytes

-- each of these is a table of what was read, or as far as that has it
abbrev pub AreTables : Input → List (List ℕ) → Type 0
AreTables (input.Memory image) tables = (m : Memory) × IsImage image.items m × All (IsPart m) tables
AreTables (input.Tables files) tables = All (Contains (tables_in files.items)) tables

-- these are all of them: of a memory one at least
abbrev pub AreAllTables : Input → List (List ℕ) → Type 0
AreAllTables (input.Memory image) tables = 0 < length tables
AreAllTables (input.Tables files) tables = tables ≡ tables_in files.items
