-- What a run prints, as the image's bytes define it.
use Rattle.std.specs.Prelude.{◌≡◌, ◌⊎◌, ℕ, List, [], ◌∷◌, ◌++◌, drop, codes, Option, Some, None, Result, Ok, Err}
use Rattle.acpi_base.specs.FromStd.{Global, Appends}
use Rattle.acpi_base.specs.Words.{error_text, Memory}
use Rattle.acpi.specs.Types.{AcpiError}
use Rattle.acpi.specs.Words.{hpet_kind, fadt_kind, Opened, mcfg_kind, madt_kind, pointers, width_of}
use Rattle.acpi_image_reader.specs.Words.{image_error_text, records_in}
use Rattle.acpi_image_reader.specs.declared.error.ImageError.{ImageError}
use Rattle.acpi_view_lib.specs.Command.{root_for}
use Rattle.acpi_view_lib.specs.Lines.{IsPciText, bgrt_kind, bgrt_lines, dsdt_lines, header_lines, hpet_lines, line, revision_line, skipped_lines, spcr_kind, spcr_lines, ssdt_lines}
use Rattle.acpi_view_lib.specs.PlatformLines.{IsPlatformText}
use Rattle.acpi_cli.specs.Root.{opened_for}
use Rattle.acpi_view_lib.specs.Status.{RunsOutWith, status_with}
use Rattle.acpi_cli.specs.declared.root.Root.{Root}

-- ---- standard output

-- the pointers of a root table that is opened
abbrev pub pointers_in : Opened → List ℕ
pointers_in opened = pointers (width_of opened.kind) (drop 36 opened.root)

-- all lines in order, if the platform and the PCI regions have these
abbrev pub lines_of : List ℕ → List ℕ → Memory → Opened → List ℕ
lines_of platform pci m opened = let ps = pointers_in opened in
    revision_line opened.revision
    ++ header_lines m ps
    ++ dsdt_lines m ps
    ++ ssdt_lines m ps
    ++ platform
    ++ hpet_lines m ps
    ++ pci
    ++ bgrt_lines m ps
    ++ spcr_lines m ps

-- the text is all lines, with those that are defined for the platform and the PCI regions, or with the one for that
-- that memory runs out, if they request it
pub record IsLines (m : Memory) (opened : Opened) (text : List ℕ) : Type 0 where
  pub platform : List ℕ
  pub pci : List ℕ
  pub platform_is : IsPlatformText Global m (pointers_in opened) platform
  pub pci_is : IsPciText m (pointers_in opened) pci
  pub whole : text ≡ lines_of platform pci m opened

-- ---- standard error

-- for each type of table that is looked for, why tables were passed over
abbrev pub skipped_lines_of : Memory → Opened → List ℕ
skipped_lines_of m opened = let ps = pointers_in opened in
    skipped_lines m fadt_kind ps
    ++ skipped_lines m madt_kind ps
    ++ skipped_lines m mcfg_kind ps
    ++ skipped_lines m hpet_kind ps
    ++ skipped_lines m bgrt_kind ps
    ++ skipped_lines m spcr_kind ps

abbrev pub usage_line : List ℕ
usage_line =
    line (codes "usage: acpi_view IMAGE rsdt REVISION ADDRESS | rsdp ADDRESS | bios" ∷ [])

-- refused: NAME
abbrev pub refusal_line : List ℕ → List ℕ
refusal_line name = line (codes "refused: " ∷ name ∷ [])

-- ---- both, of arguments and a file

-- the memory and the root table in it that are found, or the one line with the reason why there are none
abbrev pub Found : Type 0
Found = Result (Memory × Opened) (List ℕ)

abbrev pub found_in : Memory → Result Opened AcpiError → Found
found_in m (Ok opened) = Ok (m, opened)
found_in m (Err e) = Err (refusal_line (error_text e))

abbrev pub found_over : Root → Result Memory ImageError → Found
found_over root (Ok m) = found_in m (opened_for m root)
found_over root (Err refusal) = Err (refusal_line (image_error_text refusal))

abbrev pub found_with : Option Root → Option (List ℕ) → Found
found_with None file = Err usage_line
found_with (Some root) None = Err (refusal_line (codes "Unreadable"))
found_with (Some root) (Some file) = found_over root (records_in file)

-- a text of standard output: all lines, or nothing if nothing is found
abbrev pub IsOutput : Found → List ℕ → Type 0
IsOutput (Ok found) text = IsLines found.0 found.1 text
IsOutput (Err complaint) text = text ≡ []

-- the text of standard error: the tables that are skipped, or why nothing is found
abbrev pub stderr_of : Found → List ℕ
stderr_of (Ok found) = skipped_lines_of found.0 found.1
stderr_of (Err complaint) = complaint

-- the status and the texts of both outputs that a run is to end with, by what is found; or if memory for the
-- image can run out, 1 and the line for that
abbrev pub IsReport : Option Root → Option (List ℕ) → ℕ → List ℕ → List ℕ → Type 0
IsReport asked file status lines complaints =
    ((status ≡ status_with asked file)
    × IsOutput (found_with asked file) lines × (complaints ≡ stderr_of (found_with asked file)))
    ⊎ ((status ≡ 1) × RunsOutWith asked file × (lines ≡ []) × (complaints ≡ refusal_line (codes "OutOfMemory")))

-- known bytes grew by the front of a text that ends before this rest
abbrev pub AppendsUntil : List ℕ → Option (List ℕ) → Option (List ℕ) → List ℕ → Type 0
AppendsUntil rest old new text = (front : List ℕ) × (text ≡ front ++ rest) × Appends old new front

-- known bytes grew by a front of a text
abbrev pub AppendsFront : Option (List ℕ) → Option (List ℕ) → List ℕ → Type 0
AppendsFront old new text = (rest : List ℕ) × AppendsUntil rest old new text

-- how a run over two outputs ends: with the status that is defined, and each output grew by its text and by nothing
-- else; or with status 1, and each grew by a front of its text
pub record Runs (arguments : List (List ℕ)) (file : Option (List ℕ)) (status : ℕ)
    (out out_after err err_after : Option (List ℕ)) : Type 0 where
  pub defined : ℕ
  pub lines : List ℕ
  pub complaints : List ℕ
  pub report : IsReport (root_for arguments) file defined lines complaints
  pub ends : ((status ≡ defined) × Appends out out_after lines × Appends err err_after complaints)
      ⊎ ((status ≡ 1) × AppendsFront out out_after lines × AppendsFront err err_after complaints)
