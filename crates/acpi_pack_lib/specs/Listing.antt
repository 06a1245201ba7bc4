-- what is where in an image that is packed: a line for each of its records.
use Rattle.std.specs.Prelude.{◌≡◌, ℕ, ◌+◌, Bool, true, false, codes, List, [], ◌∷◌, ◌++◌, drop, map, Option, Some, None, Result, Ok, slice_get, unwrap_or}
use Rattle.acpi_base.specs.FromStd.{digits}
use Rattle.acpi_base.specs.Words.{filled_part, Memory, ◌>>=◌, bytes_text}
use Rattle.acpi_image_reader.specs.Words.{records_in}
use Rattle.acpi_image_reader.specs.declared.error.ImageError.{ImageError}
use Rattle.acpi_pack_lib.specs.Plain.{first_in}
use Rattle.acpi_pack_lib.specs.Sources.{bytes_in, bytes_of, entries}
use Rattle.acpi_pack_lib.specs.declared.listing.Label.{Label}
use Rattle.acpi_pack_lib.specs.declared.listing.Label.TheVariants as label
use Rattle.acpi_pack_lib.specs.declared.sources.FileRole.TheVariants.{Dsdt, Listed}

-- the text of this index, or none
abbrev pub name_of : List (List ℕ) → ℕ → List ℕ
name_of names n = unwrap_or (slice_get names n) []

-- ---- what is printed of a record

-- of a table: its signature, and the name of its file
abbrev pub table_label : List (List ℕ) → ℕ × List ℕ → List ℕ
table_label names e = bytes_text (filled_part e.1 0 4) ++ codes " " ++ name_of names e.0

-- the records in order: files at addresses by their names, and of tables the RSDP, the XSDT, those
-- that it lists, and the DSDT, of which there is no record if it is left out
abbrev pub labels_of : Option (List ℕ) → List (List ℕ) → List (Option (List ℕ)) → List (List ℕ)
labels_of (Some addresses) names files = names
labels_of None names files =
    codes "RSDP" ∷ codes "XSDT"
    ∷ map (table_label names) (entries Listed 0 files ++ entries Dsdt 0 files)

-- ---- which files they name

-- the bytes of the files that are named, in order
abbrev pub named_files : Option (List ℕ) → List (Option (List ℕ)) → List (List ℕ)
named_files (Some addresses) files = map bytes_in files
named_files None files = bytes_of (entries Listed 0 files ++ entries Dsdt 0 files)

-- the records before those that come from files: the RSDP and the XSDT
abbrev pub own_records : Option (List ℕ) → ℕ
own_records (Some addresses) = 0
own_records None = 2

-- each other record has the bytes of the file that is named for it, and files without a record are
-- named after those
abbrev pub AreNamed : Option (List ℕ) → List (Option (List ℕ)) → Memory → Type 0
AreNamed addresses files m =
    (others : List (List ℕ))
    × (named_files addresses files ≡ map (λ r. r.bytes) (drop (own_records addresses) m) ++ others)

-- ---- the lines

-- an address, and what is printed of the record that begins there
abbrev pub record_line : ℕ → List ℕ → List ℕ
record_line address label =
    codes "0x" ++ digits 16 false address ++ codes " " ++ label ++ codes "\n"

-- a line for each record, counted from n
abbrev pub record_lines : List (List ℕ) → ℕ → Memory → List ℕ
record_lines labels n [] = []
record_lines labels n (r ∷ rs) =
    record_line r.start (name_of labels n) ++ record_lines labels (n + 1) rs

-- of plain memory, the address at which it has to be, and the name of its file
abbrev pub plain_line : Bool → List ℕ → Memory → List ℕ
plain_line false out m = []
plain_line true out m = record_line (first_in m) (codes "raw " ++ out)

-- the records of an image, or why a file is none
abbrev pub listing : Bool → List ℕ → List (List ℕ) → List ℕ → Result (List ℕ) ImageError
listing is_plain out labels file = do
  regions ← records_in file
  Ok (plain_line is_plain out regions ++ record_lines labels 0 regions)

-- ---- labels as the code holds them

abbrev pub label_text : Label → List ℕ
label_text (label.Name name) = name.now
label_text (label.Table signature name) = bytes_text signature.0 ++ codes " " ++ name.now
