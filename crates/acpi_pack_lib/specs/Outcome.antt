-- What becomes of a run: what is printed, what is saved, and the status.
use Rattle.std.specs.Prelude.{◌≡◌, ◌⊎◌, ℕ, ◌++◌, if◌then◌else◌, codes, is_none, Bool, true, false, List, [], flat_map, Option, Some, None, Result, Ok, string_bytes}
use Rattle.acpi_base.specs.Words.{Memory}
use Rattle.acpi_pack_lib.specs.Listing.{labels_of, listing, name_of}
use Rattle.acpi_pack_lib.specs.Pack.{RefusesOrRunsOut, dsdt_address, file_of, packed_files, packed_tables}
use Rattle.acpi_pack_lib.specs.Plain.{HasNoPlain, IsPlainOf}
use Rattle.acpi_pack_lib.specs.Sources.{bytes_of, entries}
use Rattle.acpi_pack_lib.specs.Sums.{sources_for}
use Rattle.acpi_pack_lib.specs.Texts.{refusal_text}
use Rattle.acpi_pack_lib.specs.Arguments.{Request, request_of}
use Rattle.acpi_pack_lib.specs.declared.error.Refusal.{Refusal}
use Rattle.acpi_pack_lib.specs.declared.error.Refusal.TheVariants as refusal
use Rattle.acpi_pack_lib.specs.declared.outcome.Outcome.{Outcome}
use Rattle.acpi_pack_lib.specs.declared.outcome.Outcome.TheVariants as outcome
use Rattle.acpi_pack_lib.specs.declared.sources.FileRole.TheVariants.{Dsdt, Listed, Unlisted}

-- what a request packs
abbrev pub packed_by : Option (List ℕ) → List (Option (List ℕ)) → Result Memory Refusal
packed_by (Some addresses) files = packed_files addresses files
packed_by None files = packed_tables files

-- ---- what is left out

-- of tables: what no root table lists, and the DSDTs if no FADT has an address
abbrev pub left_out_by : Option (List ℕ) → List (Option (List ℕ)) → List (ℕ × List ℕ)
left_out_by (Some addresses) files = []
left_out_by None files =
    entries Unlisted 0 files ++ (if is_none (dsdt_address (bytes_of (entries Listed 0 files)))
    then entries Dsdt 0 files
    else [])

abbrev pub left_out_lines : List (List ℕ) → List (ℕ × List ℕ) → List ℕ
left_out_lines names left_out =
    flat_map (λ e. codes "left out " ++ name_of names e.0 ++ codes "\n") left_out

-- ---- the lines on errors

-- the name of the file that an error is about
abbrev pub refused_name : Request → Refusal → List ℕ
refused_name r (refusal.File n e) = name_of r.names n
refused_name r refusal.NoRoom = r.out
refused_name r refusal.TooLarge = r.out
refused_name r refusal.OutOfMemory = r.out

abbrev pub refused_line : List ℕ → List ℕ → List ℕ
refused_line name why = codes "refused " ++ name ++ codes ": " ++ why ++ codes "\n"

abbrev pub usage_line : List ℕ
usage_line = codes "usage: acpi_pack [--fix-checksum] [--raw] OUT "
    ++ codes "memory ADDRESS FILE [ADDRESS FILE]... | tables FILE...\n"

-- ---- what becomes of files

-- what is saved of an image: itself, or its plain memory
abbrev pub IsFormOf : Bool → List ℕ → List ℕ → Type 0
IsFormOf false image bytes = bytes ≡ image
IsFormOf true image bytes = IsPlainOf image bytes

-- these bytes are saved: the image of the files, in the form that is requested
pub record IsMade (r : Request) (files : List (Option (List ℕ))) (left_out bytes lines : List ℕ) : Type 0 where
  pub image : List ℕ
  pub packed : file_of (packed_by r.addresses files) ≡ Ok image
  pub form : IsFormOf r.options.is_plain image bytes
  pub left_out_are : left_out ≡ left_out_lines r.names (left_out_by r.addresses files)
  pub lines_are : listing r.options.is_plain r.out (labels_of r.addresses r.names files) image ≡ Ok lines

-- they have no image, with the first error, or OutOfMemory if nothing fails
pub record HasNoImage (r : Request) (files : List (Option (List ℕ))) (text : List ℕ) : Type 0 where
  pub refusal : Refusal
  pub why : RefusesOrRunsOut (packed_by r.addresses files) refusal
  pub text_is : text ≡ refused_line (refused_name r refusal) (refusal_text refusal)

-- the image, of which plain memory is requested, has none
pub record HasNoForm (r : Request) (files : List (Option (List ℕ))) (text : List ℕ) : Type 0 where
  pub image : List ℕ
  pub packed : file_of (packed_by r.addresses files) ≡ Ok image
  pub requested : r.options.is_plain ≡ true
  pub refusal : Refusal
  pub why : HasNoPlain image refusal
  pub text_is : text
      ≡ left_out_lines r.names (left_out_by r.addresses files) ++ refused_line r.out (refusal_text refusal)

abbrev pub Packs : Request → List (Option (List ℕ)) → Outcome → Type 0
Packs r files (outcome.Packed command left_out bytes lines) =
    (request_of command ≡ r) × IsMade r files (string_bytes left_out) bytes.items (string_bytes lines)
Packs r files (outcome.Refused text status) =
    (HasNoImage r files (string_bytes text) ⊎ HasNoForm r files (string_bytes text)) × (status ≡ 1)
Packs r files (outcome.Shown text) = ⊥

-- ---- what becomes of arguments

-- help or the version is shown; other words than a command are refused; and the files of a command are packed, or the
-- same with the sums of tables set
abbrev pub BecomesOf : Option (List ℕ) → Option Request → List (Option (List ℕ)) → Outcome → Type 0
BecomesOf (Some text) request files (outcome.Shown shown) = shown.now ≡ text
BecomesOf None None files (outcome.Refused text status) = (string_bytes text ≡ usage_line) × (status ≡ 2)
BecomesOf None (Some r) files reached = Packs r (sources_for r files) reached
BecomesOf printed request files reached = ⊥
