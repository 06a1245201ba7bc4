-- The tables that a caller accepts: each that is valid, and each of which a check fails that the caller gives up.
use Rattle.std.specs.Prelude.{◌≡◌, ℕ, ◌≤◌, ◌==◌, ◌||◌, Bool, true, false, List, Result, Ok, Err, if◌then◌else◌}
use Rattle.acpi_bytes.specs.Types.{AcpiError, SdtHeader, SdtInvalidChecksum, SdtInvalidOemId, SdtInvalidTableId, Signature}
use Rattle.acpi_bytes.specs.Bits.{has_bit}
use Rattle.acpi_bytes.specs.Bytes.{sum_of}
use Rattle.acpi_bytes.specs.Header.{check_names, check_signature, header_at}
use Rattle.acpi_bytes.specs.Memory.{Memory}
use Rattle.acpi_bytes.specs.Steps.{◌>>=◌, holds, lent}
use Rattle.acpi_bytes.specs.Table.{Kind, own_of, plain_kind, sdt_kind, table_at}

-- what is left of the result of a kind's check of bytes: an error of the sum counts only if no sum is given up, and
-- one of an id only if no ids are; after one of an id that is given up, only the sum is left to check
abbrev pub left_of : Bool → Bool → Signature → List ℕ → Result (Unit {0}) AcpiError → Result (Unit {0}) AcpiError
left_of any_sum any_ids s b (Err (SdtInvalidChecksum t)) = holds any_sum (SdtInvalidChecksum t)
left_of any_sum false s b (Err (SdtInvalidOemId t)) = Err (SdtInvalidOemId t)
left_of any_sum true s b (Err (SdtInvalidOemId t)) = holds (any_sum || sum_of b == 0) (SdtInvalidChecksum s)
left_of any_sum false s b (Err (SdtInvalidTableId t)) = Err (SdtInvalidTableId t)
left_of any_sum true s b (Err (SdtInvalidTableId t)) = holds (any_sum || sum_of b == 0) (SdtInvalidChecksum s)
left_of any_sum any_ids s b checked = checked

-- a kind whose tables may have any sum, any ids, or both. A check of its own stays
abbrev pub loosened : Bool → Bool → Kind → Kind
loosened any_sum any_ids k = record {
  signature = k.signature;
  least = k.least;
  names = if any_ids then check_signature k.signature else k.names;
  check = if any_sum || any_ids then (λ b. left_of any_sum any_ids k.signature b (k.check b)) else k.check;
  own = k.own;
}

-- a kind with the checks that are left by the bits of `accept`: bit 0 skips the sum, bit 1 the ids
abbrev pub accepted : ℕ → Kind → Kind
accepted accept k = loosened (has_bit accept 0) (has_bit accept 1) k

-- what is accepted under the signature that a header has
abbrev pub own_kind : ℕ → SdtHeader → ℕ → Kind
own_kind accept h least = accepted accept (sdt_kind h.signature least)

-- the table at an address if it is accepted under the signature that its own header has, or the first error
unfoldable pub own_accepted : ℕ → Memory → ℕ → Result (List ℕ) AcpiError
own_accepted accept m p = do
  head ← lent m p 36
  table_at m (own_kind accept (header_at head) 36) p

-- no check is skipped: the table at an address if it is valid under the signature that its own header has
abbrev pub own_table_at : Memory → ℕ → Result (List ℕ) AcpiError
own_table_at = own_accepted 0

-- ---- laws

-- by 0 each kind is as it was, so each call that is passed an `accept` of 0 is the strict one
abbrev pub AcceptsNothing : Type 0
AcceptsNothing = (k : Kind) → accepted 0 k ≡ k

-- a table that is valid under its own signature: its header is mapped, and it is valid under the signature there
abbrev pub OwnIsValid : Type 0
OwnIsValid = (m : Memory) (p : ℕ)
    → own_table_at m p ≡ (lent m p 36 >>= λ head. table_at m (plain_kind (header_at head).signature) p)

-- a table that is valid for a kind is accepted by any bits, whatever else the kind checks beside the names
abbrev pub AcceptsValid : Type 0
AcceptsValid = (accept : ℕ) (m : Memory) (k : Kind) (p : ℕ) (table : List ℕ) → k.names ≡ check_names k.signature
    → table_at m k p ≡ Ok table → table_at m (accepted accept k) p ≡ Ok table

-- the result of a kind's check is none, or an error of a check that is given up
abbrev pub IsGivenUp : ℕ → Result (Unit {0}) AcpiError → Type 0
IsGivenUp accept (Ok tt) = Unit {0}
IsGivenUp accept (Err (SdtInvalidChecksum t)) = has_bit accept 0 ≡ true
IsGivenUp accept (Err (SdtInvalidOemId t)) = has_bit accept 1 ≡ true
IsGivenUp accept (Err (SdtInvalidTableId t)) = has_bit accept 1 ≡ true
IsGivenUp accept (Err e) = ⊥

-- of a table that is accepted no check fails but one that is given up, and never one of its type's own
abbrev pub KeepsChecks : Type 0
KeepsChecks = (accept : ℕ) (m : Memory) (k : Kind) (p : ℕ) (table : List ℕ)
    → table_at m (accepted accept k) p ≡ Ok table
    → IsGivenUp accept (k.check table) × (own_of k.own table ≡ Ok tt)

-- the sum is checked unless bit 0 skips it, whatever bit 1 is
abbrev pub KeepsSums : Type 0
KeepsSums = (accept : ℕ) (m : Memory) (s : Signature) (least p : ℕ) (table : List ℕ) → 36 ≤ least
    → has_bit accept 0 ≡ false → table_at m (accepted accept (sdt_kind s least)) p ≡ Ok table → sum_of table ≡ 0

-- the names are checked unless bit 1 skips the ids, whatever bit 0 is
abbrev pub KeepsNames : Type 0
KeepsNames = (accept : ℕ) (m : Memory) (s : Signature) (least p : ℕ) (table : List ℕ) → 36 ≤ least
    → has_bit accept 1 ≡ false → table_at m (accepted accept (sdt_kind s least)) p ≡ Ok table
    → check_names s (header_at table) ≡ Ok tt
