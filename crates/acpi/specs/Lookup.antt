-- The first valid table of a kind that a list of pointers leads to.
use Rattle.std.specs.Prelude.{◌≡◌, ℕ, List, [], ◌∷◌, ◌++◌, Result, Ok, Err, IsErr}
use Rattle.acpi_base.specs.FromStd.{AllByRecursion}
use Rattle.acpi.specs.Types.{AcpiError, TableMissing}
use Rattle.acpi_base.specs.Words.{Memory, Kind, table_at}
use Rattle.acpi.specs.Later.{or_later}

-- the first pointer to a valid table, with that table's bytes, or TableMissing. What to believe is the law
-- `LookupIsFirst`
abbrev pub lookup : Memory → Kind → List ℕ → Result (ℕ × List ℕ) AcpiError
lookup m k [] = Err (TableMissing k.signature)
lookup m k (p ∷ ps) = or_later (λ table. Ok (p, table)) (table_at m k p) (lookup m k ps)

-- none of these pointers leads to a valid table
abbrev pub NoneValid : Memory → Kind → List ℕ → Type 0
NoneValid m k ps = AllByRecursion (λ p. IsErr (table_at m k p)) ps

-- what a lookup finds in the reader's words: the list is some pointers, then this one, then others; the table there is
-- valid, and none before it is
pub record IsFirstValid (m : Memory) (k : Kind) (ps : List ℕ) (p : ℕ) (table : List ℕ)
    : Type 0 where
  pub before : List ℕ
  pub after : List ℕ
  pub listed : ps ≡ before ++ p ∷ after
  pub none_before : NoneValid m k before
  pub valid : table_at m k p ≡ Ok table
