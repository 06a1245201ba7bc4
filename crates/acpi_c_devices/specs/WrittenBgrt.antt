-- The BGRT that is written for C (section 5.2.22), from the record as which it is read.
use Rattle.std.specs.Prelude.{ℕ, ◌==◌, ◌&&◌, ◌||◌, Bool, not, if◌then◌else◌}
use Rattle.acpi_c_devices.specs.Types.{BootGraphic, BgrtContents, BgrtOrientation, Degrees0, Degrees180, Degrees270, Degrees90}

abbrev pub is_orientation : ℕ → Bool
is_orientation n = n == 0 || (n == 90 || (n == 180 || n == 270))

abbrev pub orientation : ℕ → BgrtOrientation
orientation n = if n == 90 then Degrees90 else if n == 180 then Degrees180 else if n == 270 then Degrees270
    else Degrees0

-- there is such an orientation, and the image is a bitmap, which is Image Type 0
abbrev pub has_codes : BootGraphic → Bool
has_codes g = is_orientation g.orientation && g.image_type == 0

abbrev pub contents : BootGraphic → BgrtContents
contents g = record {
  was_displayed = not (g.displayed == 0);
  orientation_offset = orientation g.orientation;
  image_address = g.address;
  image_offset = (g.x, g.y);
}
