-- The RSDP: its fields, its checks, and the RSDP at an address (ACPI 6.4, section 5.2.5.3).
use Rattle.std.specs.Prelude.{ℕ, ◌==◌, ◌&&◌, ◌||◌, Bool, List, [], ◌∷◌, take, length, nat_le, if◌then◌else◌, Option, Some, None, Result, Ok, bytes_eq, is_err}
use Rattle.acpi_base.specs.FromStd.{is_utf8}
use Rattle.acpi.specs.Types.{AcpiError, RsdpIncorrectSignature, RsdpInvalidChecksum, RsdpInvalidOemId, Rsdt, Xsdt, RootPointer, Rsdp}
use Rattle.acpi_base.specs.Words.{field_of, has_bit, part, sum_of, Memory, ◌>>=◌, holds, lent}
use Rattle.acpi.specs.Root.{root_pointer}

-- the RSDP that the bytes begin with, at least 36 bytes
unfoldable pub rsdp_of : List ℕ → Rsdp
rsdp_of b = record {
  signature = part b 0 8;  -- Signature
  checksum = field_of b 8 1;  -- Checksum
  oem_id = part b 9 6;  -- OEMID
  revision = field_of b 15 1;  -- Revision
  rsdt_address = field_of b 16 4;  -- RsdtAddress
  length = field_of b 20 4;  -- Length
  xsdt_address = field_of b 24 8;  -- XsdtAddress
  ext_checksum = field_of b 32 1;  -- Extended Checksum
}

-- a field that revision 0 does not have
abbrev pub unless_first : {A : Type 0} → Rsdp → A → Option A
unless_first r field = if r.revision == 0 then None else Some field

abbrev pub extended_length_of : Rsdp → Option ℕ
extended_length_of r = unless_first r r.length

-- the root table that an RSDP leads to: the RSDT if its Revision or its XsdtAddress is 0, else the XSDT. So an RSDP of
-- any revision may lead to an RSDT, whose pointers have four bytes
abbrev pub root_of : Rsdp → RootPointer
root_of r =
    if r.revision == 0 || r.xsdt_address == 0 then root_pointer r.revision Rsdt r.rsdt_address
    else root_pointer r.revision Xsdt r.xsdt_address

-- the root table that an RSDP's bytes lead to
abbrev pub root_of_rsdp : List ℕ → RootPointer
root_of_rsdp b = root_of (rsdp_of b)

-- ---- the checks

-- the text `RSD PTR `
abbrev pub rsd_ptr : List ℕ
rsd_ptr = 82 ∷ 83 ∷ 68 ∷ 32 ∷ 80 ∷ 84 ∷ 82 ∷ 32 ∷ []

-- bytes that sum to 0
unfoldable pub check_sum : List ℕ → Result (Unit {0}) AcpiError
check_sum b = holds (sum_of b == 0) RsdpInvalidChecksum

-- Signature, OEMID unless any is accepted, and the sum of the first 20 bytes, which Checksum makes 0
unfoldable pub check_first : Bool → List ℕ → Result (Unit {0}) AcpiError
check_first any_id b = do
  _ ← holds (bytes_eq (rsdp_of b).signature rsd_ptr) RsdpIncorrectSignature
  _ ← holds (any_id || is_utf8 (rsdp_of b).oem_id) RsdpInvalidOemId
  check_sum (take 20 b)

-- Length is at least 36
abbrev pub check_length : Option ℕ → Result (Option ℕ) AcpiError
check_length None = Ok None
check_length (Some n) = do
  _ ← holds (nat_le 36 n) RsdpInvalidChecksum
  Ok (Some n)

-- by bit 3 of `accept` an RSDP of Revision 1, which no specification has, is accepted by its first 20 bytes, and by
-- bit 4 each
abbrev pub is_first_enough : ℕ → Rsdp → Bool
is_first_enough accept r = has_bit accept 4 || (has_bit accept 3 && r.revision == 1)

-- how many bytes are to sum to 0 as a whole, if the first checks hold, of which bit 2 of `accept` gives that of OEMID
-- up: for revision 0 none, and none if the first 20 bytes are enough
unfoldable pub accepted_length : ℕ → List ℕ → Result (Option ℕ) AcpiError
accepted_length accept b = do
  _ ← check_first (has_bit accept 2) b
  check_length (if is_first_enough accept (rsdp_of b) then None else extended_length_of (rsdp_of b))

-- no check is given up
abbrev pub checked_length : List ℕ → Result (Option ℕ) AcpiError
checked_length = accepted_length 0

-- the sum of the whole, which Extended Checksum makes 0; `bytes` has the first n of it
abbrev pub check_whole : (ℕ → Result (List ℕ) AcpiError) → Option ℕ → Result (Unit {0}) AcpiError
check_whole bytes None = Ok tt
check_whole bytes (Some n) = do
  whole ← bytes n
  check_sum whole

-- the first n of the bytes at hand, or RsdpInvalidChecksum
abbrev pub at_hand : List ℕ → ℕ → Result (List ℕ) AcpiError
at_hand b n = do
  _ ← holds (nat_le n (length b)) RsdpInvalidChecksum
  Ok (take n b)

-- all checks over the bytes at hand: what `Rsdp::validate` returns
unfoldable pub check_rsdp : List ℕ → Result (Unit {0}) AcpiError
check_rsdp b = do
  n ← checked_length b
  check_whole (at_hand b) n

-- the 36 bytes at an address of an RSDP that the bits of `accept` accept, or the error of the first check that fails.
-- In order: 36 bytes are mapped, what `accepted_length` checks, as many bytes as Length are mapped, and they sum to 0
unfoldable pub accepted_rsdp_at : ℕ → Memory → ℕ → Result (List ℕ) AcpiError
accepted_rsdp_at accept m a = do
  b ← lent m a 36
  n ← accepted_length accept b
  _ ← check_whole (lent m a) n
  Ok b

-- the RSDP there, if it passes all checks
abbrev pub rsdp_at : Memory → ℕ → Result (List ℕ) AcpiError
rsdp_at = accepted_rsdp_at 0

-- ---- how an accepted RSDP is read

-- the checks of an RSDP's whole bytes, which those after its first 20 have to pass
abbrev pub check_extended : Memory → ℕ → Rsdp → Result (Unit {0}) AcpiError
check_extended m a r = do
  n ← check_length (extended_length_of r)
  check_whole (lent m a) n

-- only its first 20 bytes count: by bit 3 those of Revision 1, and by bit 4 if the others fail their checks
abbrev pub is_read_first : ℕ → Memory → ℕ → Rsdp → Bool
is_read_first accept m a r =
    (has_bit accept 3 && r.revision == 1) || (has_bit accept 4 && is_err (check_extended m a r))

-- an RSDP of which only the first 20 bytes count is read as one of Revision 0
abbrev pub first_only : Rsdp → Rsdp
first_only r = record {
  signature = r.signature;
  checksum = r.checksum;
  oem_id = r.oem_id;
  revision = 0;
  rsdt_address = r.rsdt_address;
  length = r.length;
  xsdt_address = r.xsdt_address;
  ext_checksum = r.ext_checksum;
}

-- the RSDP that the 36 bytes at an address are by the bits of `accept`, if they are accepted
abbrev pub accepted_rsdp : ℕ → Memory → ℕ × List ℕ → Rsdp
accepted_rsdp accept m found =
    let r = rsdp_of found.1 in if is_read_first accept m found.0 r then first_only r else r

-- the root table that it leads to
abbrev pub accepted_root : ℕ → Memory → ℕ × List ℕ → RootPointer
accepted_root accept m found = root_of (accepted_rsdp accept m found)
