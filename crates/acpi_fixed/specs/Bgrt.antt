-- The boot graphic: the Boot Graphics Resource Table, BGRT (ACPI 6.4, section 5.2.22).
use Rattle.std.specs.Prelude.{ℕ, List, ◌==◌, if◌then◌else◌}
use Rattle.acpi_base.specs.Words.{field_of, header_at}
use Rattle.acpi_fixed.specs.declared.bgrt.Bgrt.{Bgrt}
use Rattle.acpi_fixed.specs.declared.bgrt.ImageType.{ImageType}
use Rattle.acpi_fixed.specs.declared.bgrt.ImageType.TheVariants.{Bitmap, Reserved}

-- the table BGRT, at least 56 bytes
unfoldable pub bgrt_at : List ℕ → Bgrt
bgrt_at b = record {
  header = header_at b;
  version = field_of b 36 2;  -- Version
  status = field_of b 38 1;  -- Status
  image_type = field_of b 39 1;  -- Image Type
  image_address = field_of b 40 8;  -- Image Address
  x = field_of b 48 4;  -- Image Offset X
  y = field_of b 52 4;  -- Image Offset Y
}

-- what the fields of a table hold that calls show

-- Status: bit 0 is Displayed, bits 1 and 2 are Orientation Offset, the number of times 90 degrees
abbrev pub status_of : Bgrt → ℕ
status_of g = g.status

-- Image Offset X, to the right, and Image Offset Y, down
abbrev pub offset_of : Bgrt → ℕ × ℕ
offset_of g = (g.x, g.y)

-- Image Type: code 0 is a bitmap, and every other code is reserved
abbrev pub image_type_of : Bgrt → ImageType
image_type_of g = if g.image_type == 0 then Bitmap else Reserved

-- the place of each in their order
abbrev pub rank_of : ImageType → ℕ
rank_of Bitmap = 0
rank_of Reserved = 1
