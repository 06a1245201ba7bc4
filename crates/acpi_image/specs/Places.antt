-- Where records are: their starts and lengths, whatever their bytes are.
use Rattle.std.specs.Prelude.{ℕ, List, length, map, replicate}
use Rattle.acpi_base.specs.FromStd.{BTreeMap}
use Rattle.acpi_base.specs.Words.{Memory, Region}
use Rattle.acpi_image_reader.specs.Words.{AreAllApart, ListsStarts}
use Rattle.acpi_image.specs.declared.write.PlacedTable.{PlacedTable}

-- the region where a table is to be
abbrev pub place_of : PlacedTable → Region
place_of t = record { start = t.address; bytes = replicate (length t.bytes.now) 0 }

abbrev pub places_of : List PlacedTable → Memory
places_of tables = map place_of tables

-- the places are apart, and a map lists them: at each address the length of the one that starts
-- there
abbrev pub IsPlaced : BTreeMap ℕ ℕ → Memory → Type 0
IsPlaced starts places = AreAllApart places × ListsStarts (λ n. replicate n 0) starts places
