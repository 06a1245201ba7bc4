-- What files and entries hold, wherever their bytes are.
use Rattle.std.specs.Prelude.{ℕ, List, drop, map, Option, option_copied}
use Rattle.acpi_base.specs.FromStd.{Bor}
use Rattle.acpi_base.specs.Words.{Memory, Region}
use Rattle.acpi_pack_lib.specs.Pack.{regions}
use Rattle.acpi_pack_lib.specs.Sources.{bytes_in, entries}
use Rattle.acpi_pack_lib.specs.declared.place.FilesAt.{FilesAt}
use Rattle.acpi_pack_lib.specs.declared.sources.FilesOfRole.{FilesOfRole}
use Rattle.acpi_pack_lib.specs.declared.sources.IndexedFile.{IndexedFile}

-- the bytes of a file, none if it can't be read
abbrev pub content : Option (Bor (List ℕ)) → Option (List ℕ)
content file = option_copied file

abbrev pub contents : List (Option (Bor (List ℕ))) → List (Option (List ℕ))
contents files = map content files

-- a file's index and its bytes
abbrev pub entry_of : IndexedFile → ℕ × List ℕ
entry_of e = (e.index, e.bytes.now)

-- a file at an address
abbrev pub region_at : ℕ → Option (Bor (List ℕ)) → Region
region_at address file = record { start = address; bytes = bytes_in (content file) }

-- the files of a role that are still to come
abbrev pub entries_left : FilesOfRole → List (ℕ × List ℕ)
entries_left s = entries s.role s.index (contents (drop s.index s.files.now))

-- the regions of the files that are still to come
abbrev pub regions_left : FilesAt → Memory
regions_left s = regions s.addresses.now (contents s.files.now)
