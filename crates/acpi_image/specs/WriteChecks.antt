-- Why an image is not written, and what is written otherwise.
use Rattle.std.specs.Prelude.{◌≡◌, ℕ, ◌+◌, ◌^◌, ◌==◌, nat_le, nat_lt, Bool, false, not, ◌&&◌, ◌||◌, List, [], ◌∷◌, length, flat_map, Result, Ok, Err, IsOk}
use Rattle.acpi_base.specs.FromStd.{list_all, is_utf8}
use Rattle.acpi_base.specs.Words.{field_of, part, Memory, end_of, ◌>>=◌, holds}
use Rattle.acpi_image_reader.specs.Words.{record_spelling, shares_any}
use Rattle.acpi_image.specs.Written.{Plan, kind_of, pointers_of, records_of, root_length}
use Rattle.acpi_image.specs.declared.error.WriteError.{WriteError}
use Rattle.acpi_image.specs.declared.error.WriteError.TheVariants as refusal

-- bytes that are a table but for their sum: a header of 36 bytes (ACPI 6.4, section 5.2.6), whose Length, at 4, is
-- how many bytes there are, and whose Signature, at 0, OEMID, at 10, and OEM Table ID, at 16, are texts
unfoldable pub is_table : List ℕ → Bool
is_table bytes =
    nat_le 36 (length bytes) && (field_of bytes 4 4 == length bytes
    && (is_utf8 (part bytes 0 4) && (is_utf8 (part bytes 10 6) && is_utf8 (part bytes 16 8))))

-- each is a table; they are counted from n
abbrev pub check_tables : ℕ → Memory → Result (Unit {0}) WriteError
check_tables n [] = Ok tt
check_tables n (t ∷ ts) = do
  _ ← holds (is_table t.bytes) (refusal.BadTable n)
  check_tables (n + 1) ts

-- for revision 0 each address is below 2^32
abbrev pub pointers_fit : ℕ → List ℕ → Bool
pointers_fit revision addresses =
    not (revision == 0) || list_all (λ a. nat_lt a (2 ^ 32)) addresses

-- some two of the regions share a byte
abbrev pub some_share : Memory → Bool
some_share [] = false
some_share (r ∷ m) = shares_any m r || some_share m

-- each region ends below 2^64, and then: no two share a byte
unfoldable pub check_places : Memory → Result (Unit {0}) WriteError
check_places m = do
  _ ← holds (list_all (λ r. nat_lt (end_of r) (2 ^ 64)) m) refusal.EndTooLarge
  holds (not (some_share m)) refusal.Overlap

-- all checks, in order
unfoldable pub check_plan : Plan → Result (Unit {0}) WriteError
check_plan p = do
  _ ← holds (not (p.root == 0)) refusal.ZeroRoot
  _ ← check_tables 0 p.tables
  _ ← holds (nat_lt (root_length (kind_of p) (length p.tables)) (2 ^ 32)) refusal.TooMany
  _ ← holds (pointers_fit p.revision (p.root ∷ pointers_of p)) refusal.PointerTooLarge
  check_places (records_of p)

-- the file that is written: the records, one after the other, or the first error
unfoldable pub written : Plan → Result (List ℕ) WriteError
written p = do
  _ ← check_plan p
  Ok (flat_map record_spelling (records_of p))

-- what a call returned, seen by view, is what is defined, or OutOfMemory, and that only if no check fails
abbrev pub WritesOrRunsOut : {X : Type 0}
    → (X → List ℕ) → Result X WriteError → Result (List ℕ) WriteError → Type 0
WritesOrRunsOut view (Ok file) expected = expected ≡ Ok (view file)
WritesOrRunsOut view (Err refusal.OutOfMemory) expected = IsOk expected
WritesOrRunsOut view (Err e) expected = expected ≡ Err e
