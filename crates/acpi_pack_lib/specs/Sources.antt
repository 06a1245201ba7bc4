-- What files hold, which of them are tables, and why one is an error by itself.
use Rattle.std.specs.Prelude.{ℕ, ◌+◌, nat_eq, nat_le, Bool, not, ◌&&◌, ◌||◌, if◌then◌else◌, codes, List, [], ◌∷◌, length, map, Option, Some, None, Result, Ok, Err}
use Rattle.acpi_base.specs.FromStd.{starts_with}
use Rattle.acpi_base.specs.Words.{field_of, ◌>>=◌, holds}
use Rattle.acpi_pack_lib.specs.declared.error.FileError.TheVariants as fault
use Rattle.acpi_pack_lib.specs.declared.error.Refusal.{Refusal}
use Rattle.acpi_pack_lib.specs.declared.error.Refusal.TheVariants.{File}
use Rattle.acpi_pack_lib.specs.declared.sources.FileRole.{FileRole}
use Rattle.acpi_pack_lib.specs.declared.sources.FileRole.TheVariants as roles

-- a file that can't be read has no bytes
abbrev pub bytes_in : Option (List ℕ) → List ℕ
bytes_in None = []
bytes_in (Some bytes) = bytes

-- ---- what a file is

abbrev pub begins : List ℕ → List ℕ → Bool
begins bytes letters = starts_with nat_eq bytes letters

abbrev pub is_dsdt : List ℕ → Bool
is_dsdt bytes = begins bytes (codes "DSDT")

-- the FACS, which the FADT leads to, and what leads to the tables: no root table lists one
abbrev pub is_unlisted : List ℕ → Bool
is_unlisted bytes =
    begins bytes (codes "FACS") || (begins bytes (codes "RSDT")
    || (begins bytes (codes "XSDT") || begins bytes (codes "RSD PTR ")))

abbrev pub is_of : FileRole → List ℕ → Bool
is_of roles.Listed bytes = not (is_dsdt bytes) && not (is_unlisted bytes)
is_of roles.Dsdt bytes = is_dsdt bytes
is_of roles.Unlisted bytes = is_unlisted bytes

-- the files of a role, each with its index, counted from n
abbrev pub entries : FileRole → ℕ → List (Option (List ℕ)) → List (ℕ × List ℕ)
entries role n [] = []
entries role n (file ∷ files) =
    if is_of role (bytes_in file) then (n, bytes_in file) ∷ entries role (n + 1) files
    else entries role (n + 1) files

-- their bytes
abbrev pub bytes_of : List (ℕ × List ℕ) → List (List ℕ)
bytes_of found = map (λ e. e.1) found

-- the bytes of the files that the XSDT lists
abbrev pub listed : List (Option (List ℕ)) → List (List ℕ)
listed files = bytes_of (entries roles.Listed 0 files)

-- ---- why a file is an error by itself

-- it can be read, and has bytes
abbrev pub check_content : ℕ → Option (List ℕ) → Result (Unit {0}) Refusal
check_content n None = Err (File n fault.Unreadable)
check_content n (Some []) = Err (File n fault.Empty)
check_content n (Some (b ∷ bs)) = Ok tt

abbrev pub check_contents : ℕ → List (Option (List ℕ)) → Result (Unit {0}) Refusal
check_contents n [] = Ok tt
check_contents n (file ∷ files) = do
  _ ← check_content n file
  check_contents (n + 1) files

-- a header of 36 bytes, whose Length, at 4, is how many bytes there are (ACPI 6.4, section 5.2.6)
unfoldable pub check_length : ℕ → List ℕ → Result (Unit {0}) Refusal
check_length n bytes = do
  _ ← holds (nat_le 36 (length bytes)) (File n fault.Short)
  _ ← holds (nat_le (field_of bytes 4 4) (length bytes)) (File n fault.Short)
  holds (nat_le (length bytes) (field_of bytes 4 4)) (File n fault.Long)

-- the content and the length of a table; what no root table lists is left out, whatever its length is
unfoldable pub check_table : ℕ → Option (List ℕ) → Result (Unit {0}) Refusal
check_table n file = do
  _ ← check_content n file
  if is_unlisted (bytes_in file) then Ok tt else check_length n (bytes_in file)

abbrev pub check_tables : ℕ → List (Option (List ℕ)) → Result (Unit {0}) Refusal
check_tables n [] = Ok tt
check_tables n (file ∷ files) = do
  _ ← check_table n file
  check_tables (n + 1) files
