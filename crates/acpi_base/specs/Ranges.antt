-- The ranges of a memory that a result depends on. Each definition over a memory has its ranges, which follow its
-- steps: they go on after a step that succeeds, and end at one that fails.
use Rattle.std.specs.Prelude.{◌≡◌, ℕ, ◌==◌, ◌&&◌, Bool, true, List, [], ◌∷◌, All, nat_le, Result, Ok, Err}
use Rattle.acpi_base.specs.FromStd.{AllByRecursion, list_any}
use Rattle.acpi_base.specs.Types.{SdtInvalidLength}
use Rattle.acpi_bytes.specs.Header.{header_at}
use Rattle.acpi_bytes.specs.Memory.{Memory, at}
use Rattle.acpi_bytes.specs.Steps.{holds, lent}
use Rattle.acpi_bytes.specs.Accepted.{own_kind}
use Rattle.acpi_bytes.specs.Table.{Kind}

-- each an address and a number of bytes
abbrev pub Ranges : Type 0
Ranges = List (ℕ × ℕ)

-- each of these ranges may be requested
abbrev pub Allows : (ℕ → ℕ → Bool) → Ranges → Type 0
Allows may ranges = All (λ r. may r.0 r.1 ≡ true) ranges

-- whether this is one of these ranges: the same address, with exactly that number of bytes
abbrev pub is_listed : Ranges → ℕ → ℕ → Bool
is_listed ranges a n = list_any (λ r. r.0 == a && r.1 == n) ranges

-- two memories have the same mapped at each of these ranges, or both nothing
abbrev pub AgreesOn : Memory → Memory → Ranges → Type 0
AgreesOn m n ranges = AllByRecursion (λ r. at m r.0 r.1 ≡ at n r.0 r.1) ranges

-- a definition is the same over every memory that agrees on its ranges: a law of definitions. `Footprint` is the one of
-- calls
abbrev pub DependsOn : {X A : Type 0} → (Memory → X → Ranges) → (Memory → X → A) → Type 0
DependsOn ranges defined = (m n : Memory) (x : _) → AgreesOn m n (ranges m x)
    → defined n x ≡ defined m x

-- what a call promises by a definition, it promises by that definition over every memory that agrees with this one at
-- these ranges. The other memory is any list of regions: they need not be disjoint, and no call is passed it
abbrev pub Footprint : {A : Type 0} → Memory → Ranges → (Memory → A) → (A → Type 0) → Type 0
Footprint m ranges defined Says = (n : Memory) → AgreesOn m n ranges → Says (defined n)

-- in a `do` of ranges: the ranges after a step that passes
infixl 10 ◌>>=◌
abbrev pub ◌>>=◌ : {A E : Type 0} → Result A E → (A → Ranges) → Ranges
(Ok x) >>= ranges = ranges x
(Err e) >>= ranges = []

-- the ranges that are reached only if this is an error
abbrev pub unless_found : {A E : Type 0} → Result A E → Ranges → Ranges
unless_found (Ok x) ranges = []
unless_found (Err e) ranges = ranges

-- ---- of one table

-- after its header: as many bytes as its Length, if it has the names and the least length
abbrev pub whole_ranges : Kind → ℕ → List ℕ → Ranges
whole_ranges k p head = do
  let header = header_at head
  _ ← k.names header
  _ ← holds (nat_le k.least header.length) (SdtInvalidLength k.signature)
  (p, header.length) ∷ []

-- the ranges of `table_at`
abbrev pub table_ranges : Memory → Kind → ℕ → Ranges
table_ranges m k p = (p, 36) ∷ do
  head ← lent m p 36
  whole_ranges k p head

-- the ranges of `own_accepted`
abbrev pub own_accepted_ranges : ℕ → Memory → ℕ → Ranges
own_accepted_ranges accept m p = (p, 36) ∷ do
  head ← lent m p 36
  whole_ranges (own_kind accept (header_at head) 36) p head

-- the ranges of `own_table_at`
abbrev pub own_table_ranges : Memory → ℕ → Ranges
own_table_ranges = own_accepted_ranges 0
