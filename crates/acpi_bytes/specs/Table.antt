-- The table at an address (ACPI 6.4, sections 5.2.5 and 5.2.6).
use Rattle.std.specs.Prelude.{ℕ, List, nat_le, Option, Some, None, Result, Ok}
use Rattle.acpi_bytes.specs.Types.{AcpiError, SdtHeader, SdtInvalidLength, Signature}
use Rattle.acpi_bytes.specs.Header.{header_at, check_names, check_table}
use Rattle.acpi_bytes.specs.Memory.{Memory}
use Rattle.acpi_bytes.specs.Steps.{◌>>=◌, holds, lent}

-- what a type of tables checks: the signature, the least length, the header (`names`), the table's bytes (`check`), and
-- then, if it has a check of its own, the bytes by that. A table type `T` has its own kind, `T.kind`: its two
-- constants, and the meaning of its `validate` and its `check_own`
pub record Kind : Type 0 where
  pub signature : Signature
  pub least : ℕ
  pub names : SdtHeader → Result (Unit {0}) AcpiError
  pub check : List ℕ → Result (Unit {0}) AcpiError
  pub own : Option (List ℕ → Result (Unit {0}) AcpiError)

abbrev pub kind : Signature → ℕ → (List ℕ → Result (Unit {0}) AcpiError) → Kind
kind s n c = record { signature = s; least = n; names = check_names s; check = c; own = None }

-- a kind with a check of its own
abbrev pub with_own : (List ℕ → Result (Unit {0}) AcpiError) → Kind → Kind
with_own own k = record { signature = k.signature; least = k.least; names = k.names; check = k.check; own = Some own }

-- a table of this signature and least length that has nothing to pass but the checks of each table
abbrev pub sdt_kind : Signature → ℕ → Kind
sdt_kind s least = kind s least (check_table s)

-- a table of this signature of which only the header and the sum matter
abbrev pub plain_kind : Signature → Kind
plain_kind s = sdt_kind s 36

-- what a check of a type's own returns, if there is one
abbrev pub own_of : Option (List ℕ → Result (Unit {0}) AcpiError) → List ℕ → Result (Unit {0}) AcpiError
own_of None b = Ok tt
own_of (Some own) b = own b

-- a result, and after one that is no error what a check of a type's own returns
abbrev pub and_own : Option (List ℕ → Result (Unit {0}) AcpiError) → List ℕ → Result (Unit {0}) AcpiError
    → Result (Unit {0}) AcpiError
and_own None b checked = checked
and_own (Some own) b checked = checked >>= λ _. own b

-- what the bytes of a table have to pass
abbrev pub check_of : Kind → List ℕ → Result (Unit {0}) AcpiError
check_of k b = and_own k.own b (k.check b)

-- the bytes of the table at an address, by the header that they begin with (System Description Table Header, section
-- 5.2.6), or the error of the first of five checks that fails: 36 bytes are mapped, which are the header; its names are
-- the kind's; its Length is the kind's least or more; that many bytes are mapped; they pass the kind's checks of bytes,
-- which for most tables look at their sum alone
unfoldable pub table_at : Memory → Kind → ℕ → Result (List ℕ) AcpiError
table_at m k p = do
  head ← lent m p 36
  let header = header_at head
  _ ← k.names header
  _ ← holds (nat_le k.least header.length) (SdtInvalidLength k.signature)
  table ← lent m p header.length
  _ ← check_of k table
  Ok table
