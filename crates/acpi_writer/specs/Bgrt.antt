-- The BGRT that is written (ACPI 6.4, section 5.2.22).
use Rattle.std.specs.Prelude.{◌≡◌, ℕ, ◌+◌, ◌*◌, List, [], ◌∷◌, Result, All}
use Rattle.acpi.specs.Types.{Bgrt}
use Rattle.acpi_fixed.specs.Words.{offset_of}
use Rattle.acpi_table_writer.specs.Words.{FitsField, fields_bytes, IsTableOf, IsValid, bit_of, table_written}
use Rattle.acpi_writer.specs.Types.{bits_of, has_bit, BGRT, Bitmap, bgrt_at, image_type_of, status_of, BgrtContents, BgrtOrientation, WriterError, TableIds, Field, U8, U16, U32, U64}
use Rattle.acpi_writer.specs.declared.bgrt.BgrtOrientation.TheVariants as orientations

-- Orientation Offset: the code of each
abbrev pub orientation_code : BgrtOrientation → ℕ
orientation_code orientations.Degrees0 = 0
orientation_code orientations.Degrees90 = 1
orientation_code orientations.Degrees180 = 2
orientation_code orientations.Degrees270 = 3

-- and how many degrees it is
abbrev pub degrees_of : BgrtOrientation → ℕ
degrees_of orientations.Degrees0 = 0
degrees_of orientations.Degrees90 = 90
degrees_of orientations.Degrees180 = 180
degrees_of orientations.Degrees270 = 270

-- Status: bit 0 is Displayed, bits 1 and 2 Orientation Offset
abbrev pub status_written : BgrtContents → ℕ
status_written c = bit_of c.was_displayed + 2 * orientation_code c.orientation_offset

-- the fields after the header
unfoldable pub bgrt_fields : BgrtContents → List Field
bgrt_fields c =
    U16 1 ∷ U8 (status_written c) ∷ U8 0  -- 36: Version, 38: Status, 39: Image Type, of which 0 is a bitmap
    ∷ U64 c.image_address  -- 40: Image Address
    ∷ U32 c.image_offset.0 ∷ U32 c.image_offset.1  -- 48: Image Offset X, 52: Image Offset Y
    ∷ []

abbrev pub bgrt_body : BgrtContents → List ℕ
bgrt_body c = fields_bytes (bgrt_fields c)

-- the table, of revision 1, in so much room, or the error
abbrev pub bgrt_written : ℕ → TableIds → BgrtContents → Result (List ℕ) WriterError
bgrt_written room ids c = table_written room BGRT 1 ids (bgrt_body c)

-- ---- laws

-- the numbers have a place
abbrev pub FitsBgrt : BgrtContents → Type 0
FitsBgrt c = All FitsField (bgrt_fields c)

-- the bytes are the table of contents whose numbers have a place
pub record IsBgrt (ids : TableIds) (c : BgrtContents) (table : List ℕ) : Type 0 where
  pub written : IsTableOf BGRT 1 ids (bgrt_body c) table
  pub fit : FitsBgrt c

-- the table's image is the one that was given
pub record SaysImage (c : BgrtContents) (g : Bgrt) : Type 0 where
  pub version : g.version ≡ 1
  pub was_displayed : has_bit (status_of g) 0 ≡ c.was_displayed
  pub orientation_offset : bits_of (status_of g) 1 2 * 90 ≡ degrees_of c.orientation_offset
  pub image_type : image_type_of g ≡ Bitmap
  pub image_address : g.image_address ≡ c.image_address
  pub image_offset : offset_of g ≡ c.image_offset

-- such a table is valid
abbrev pub BgrtIsValid : Type 0
BgrtIsValid = (ids : TableIds) (c : BgrtContents) (table : List ℕ) → IsBgrt ids c table → IsValid BGRT table

-- and contains exactly what was passed
abbrev pub BgrtIsRead : Type 0
BgrtIsRead = (ids : TableIds) (c : BgrtContents) (table : List ℕ) → IsBgrt ids c table → SaysImage c (bgrt_at table)
