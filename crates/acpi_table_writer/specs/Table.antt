-- What every table that is written has: a header (ACPI 6.4, section 5.2.6), a length that fits, and room.
use Rattle.std.specs.Prelude.{◌≡◌, ℕ, ◌+◌, ◌^◌, ◌≤◌, ◌<◌, ◌&&◌, Bool, true, if◌then◌else◌, List, [], ◌∷◌, ◌++◌, length, drop, nat_le, nat_lt, Result, Ok, Err, bytes_eq}
use Rattle.acpi_table_writer.specs.Types.{is_utf8, number, part, spelling, check_table, header_at, ◌>>=◌, holds, letters_of, SdtHeader, Signature, is_table, with_sum, WriterError, BadName, NoRoom, TooLong, TableIds}

-- yes and no, as a bit
abbrev pub bit_of : Bool → ℕ
bit_of b = if b then 1 else 0

-- at 0 Signature, 4 Length, 8 Revision, 9 a Checksum of 0, 10 OEMID, 16 OEM Table ID, 24 OEM Revision, 28 Creator ID,
-- 32 Creator Revision
unfoldable pub table_head : Signature → ℕ → TableIds → ℕ → List ℕ
table_head s revision ids n =
    letters_of s ++ (spelling 4 n ++ (revision ∷ 0 ∷ (ids.oem_id ++ (ids.oem_table_id
    ++ (spelling 4 ids.oem_revision ++ (ids.creator_id ++ spelling 4 ids.creator_revision))))))

-- a table with these bytes after its header, before Checksum is set
abbrev pub unsummed : Signature → ℕ → TableIds → List ℕ → List ℕ
unsummed s revision ids body = table_head s revision ids (36 + length body) ++ body

-- Checksum, byte 9, makes it sum to 0
unfoldable pub table_bytes : Signature → ℕ → TableIds → List ℕ → List ℕ
table_bytes s revision ids body = with_sum 9 (unsummed s revision ids body)

-- each name is a text
abbrev pub are_texts : TableIds → Bool
are_texts ids = is_utf8 ids.oem_id && (is_utf8 ids.oem_table_id && is_utf8 ids.creator_id)

-- the table in so much room, or the first error
unfoldable pub table_written : ℕ → Signature → ℕ → TableIds → List ℕ → Result (List ℕ) WriterError
table_written room s revision ids body = do
  _ ← holds (are_texts ids) BadName
  _ ← holds (nat_le (36 + length body) room) NoRoom
  _ ← holds (nat_lt (36 + length body) (2 ^ 32)) TooLong
  Ok (table_bytes s revision ids body)

-- what is written of contents, by their check, Signature and Revision, and body, or their first error
abbrev pub checked_written : {X : Type 0} → (X → Result (Unit {0}) WriterError) → (X → Signature × ℕ) → (X → List ℕ)
    → ℕ → TableIds → X → Result (List ℕ) WriterError
checked_written checked head body room ids c = do
  _ ← checked c
  table_written room (head c).0 (head c).1 ids (body c)

-- bytes in so much room, or the error
abbrev pub front_written : ℕ → List ℕ → Result (List ℕ) WriterError
front_written room bytes = do
  _ ← holds (nat_le (length bytes) room) NoRoom
  Ok bytes

-- what is left of a slice: after a table that was written what stood after it, and after an error all
abbrev pub Keeps : Result ℕ WriterError → List ℕ → List ℕ → Type 0
Keeps (Ok n) old new = (n ≤ length old) × (drop n new ≡ drop n old) × (length new ≡ length old)
Keeps (Err e) old new = new ≡ old

-- ---- what holds of every table that is written

-- the names and numbers have a place in a header
pub record AreIds (ids : TableIds) : Type 0 where
  pub oem_id : length ids.oem_id ≡ 6
  pub oem_table_id : length ids.oem_table_id ≡ 8
  pub creator_id : length ids.creator_id ≡ 4
  pub oem_revision : ids.oem_revision < 2 ^ 32
  pub creator_revision : ids.creator_revision < 2 ^ 32

-- the bytes are the table with these bytes after its header, and its names are texts
pub record IsTableOf (s : Signature) (revision : ℕ) (ids : TableIds) (body table : List ℕ) : Type 0 where
  pub ids_fit : AreIds ids
  pub texts : are_texts ids ≡ true
  pub short : 36 + length body < 2 ^ 32
  pub bytes : table ≡ table_bytes s revision ids body

-- the bytes begin with this signature
abbrev pub is_named : Signature → List ℕ → Bool
is_named s table = bytes_eq (part table 0 4) (letters_of s)

-- such a table passes each check of a reader, and a writer of images takes it
pub record IsValid (s : Signature) (table : List ℕ) : Type 0 where
  pub checked : check_table s table ≡ Ok tt
  pub taken : is_table table ≡ true

-- a header has the revision, and who made the table; Creator ID is a number there
pub record HasIds (revision : ℕ) (ids : TableIds) (h : SdtHeader) : Type 0 where
  pub revision_is : h.revision ≡ revision
  pub oem_id : h.oem_id ≡ ids.oem_id
  pub oem_table_id : h.oem_table_id ≡ ids.oem_table_id
  pub oem_revision : h.oem_revision ≡ ids.oem_revision
  pub creator_id : h.creator_id ≡ number ids.creator_id
  pub creator_revision : h.creator_revision ≡ ids.creator_revision

-- and so does that of such a table, whose signature has four letters
abbrev pub IdsAreRead : Type 0
IdsAreRead = (s : Signature) (a b c d revision : ℕ) (ids : TableIds) (body table : List ℕ)
    → letters_of s ≡ a ∷ b ∷ c ∷ d ∷ [] → IsTableOf s revision ids body table
    → HasIds revision ids (header_at table)
