-- What answers say if only the valid tables are known, wherever they lie.
use Rattle.std.specs.Prelude.{◌≡◌, ℕ, List, Result, Ok, Err}
use Rattle.acpi.specs.Types.{AcpiError, RootKind}
use Rattle.acpi_base.specs.Words.{Memory}
use Rattle.acpi.specs.Footprint.{below}
use Rattle.acpi.specs.Lists.{valid_tables}
use Rattle.acpi.specs.Tables.{of_tables}
use Rattle.acpi.specs.declared.tables.AcpiTables.{AcpiTables}

-- a definition over pointers is the same wherever the same valid tables are led to in this order
abbrev pub FollowsTables : {A : Type 0} → (Memory → List ℕ → A) → Type 0
FollowsTables defined = (m n : Memory) (ps qs : List ℕ)
    → valid_tables n qs ≡ valid_tables m ps → defined n qs ≡ defined m ps

-- what a call says of tables by a definition over their pointers, it says by that definition below
-- every valid root table, of either kind and at any address, that leads to the same valid tables
abbrev pub Relocation : {A : Type 0} {H P h p : _} → AcpiTables H P h p
    → (Memory → List ℕ → Result A AcpiError) → (Result A AcpiError → Type 0) → Type 0
Relocation t defined Says = (n : Memory) (kind : RootKind) (address : ℕ)
    → below n kind address (λ ps. Ok (valid_tables n ps))
    ≡ Ok (of_tables t valid_tables)
    → Says (below n kind address (defined n))

-- the bytes that a lookup found, wherever they lie
abbrev pub bytes_found : Result (ℕ × List ℕ) AcpiError → Result (List ℕ) AcpiError
bytes_found (Ok found) = Ok found.1
bytes_found (Err e) = Err e
