-- Files that are tables, with their Checksum set.
use Rattle.std.specs.Prelude.{ℕ, nat_eq, nat_le, Bool, not, ◌&&◌, ◌||◌, if◌then◌else◌, codes, List, length, map, Option, option_map}
use Rattle.acpi_base.specs.Words.{field_of}
use Rattle.acpi_image.specs.Words.{with_sum}
use Rattle.acpi_pack_lib.specs.Arguments.{Request}
use Rattle.acpi_pack_lib.specs.Sources.{begins}

-- what may have a Length at 4, and has no Checksum at 9: the FACS (ACPI 6.4, section 5.2.10), the tables that an FPDT
-- leads to (section 5.2.23), and the RSDP (section 5.2.5.3)
abbrev pub is_unsummed : List ℕ → Bool
is_unsummed bytes =
    begins bytes (codes "FACS") || (begins bytes (codes "FBPT")
    || (begins bytes (codes "S3PT") || begins bytes (codes "RSD PTR ")))

-- one whole table: a header of 36 bytes, whose Length, at 4, is how many bytes there are (section 5.2.6)
abbrev pub has_sum : List ℕ → Bool
has_sum bytes =
    nat_le 36 (length bytes) && (nat_eq (field_of bytes 4 4) (length bytes) && not (is_unsummed bytes))

-- Checksum, byte 9, makes a table sum to 0; other bytes stay as they are
unfoldable pub summed : List ℕ → List ℕ
summed bytes = if has_sum bytes then with_sum 9 bytes else bytes

-- each file that can be read so
abbrev pub all_summed : List (Option (List ℕ)) → List (Option (List ℕ))
all_summed files = map (λ file. option_map summed file) files

-- the files that are packed for a request
abbrev pub sources_for : Request → List (Option (List ℕ)) → List (Option (List ℕ))
sources_for r files = if r.options.fixes_sums then all_summed files else files
