-- The lines that are printed: their words, and the values between. A text is a list of bytes.
use Rattle.std.specs.Prelude.{◌≡◌, ◌⊎◌, ℕ, ◌*◌, Bool, false, List, [], ◌∷◌, ◌++◌, flat_map, codes, decimal, Option, Some, None, Result, Ok, Err, if◌then◌else◌}
use Rattle.acpi_base.specs.FromStd.{digits}
use Rattle.acpi_base.specs.Words.{bits_of, has_bit, error_text, check_table, Memory, baud_of, interrupt_of, irq_of, spcr_at, Kind, kind, signature_text}
use Rattle.acpi.specs.Types.{AcpiError, AllocError, McfgEntry, SdtHeader, Signature, BGRT, SPCR, Spcr, Bgrt}
use Rattle.acpi_fixed.specs.Words.{bgrt_at, offset_of, status_of}
use Rattle.acpi.specs.Words.{hpet_of, dsdt_stream, faults_of, ssdt_streams, valid_headers, lookup, RegionsAsk, found_regions}
use Rattle.acpi.specs.declared.hpet.HpetInfo.{HpetInfo}
use Rattle.acpi.specs.declared.records.AmlTable.{AmlTable}
use Rattle.acpi.specs.declared.records.TableFault.{TableFault}

-- these words and values in order, and a newline
abbrev pub line : List (List ℕ) → List ℕ
line [] = codes "\n"
line (word ∷ words) = word ++ line words

-- ---- values

-- 0x, and hexadecimal digits in lower case
abbrev pub address_text : ℕ → List ℕ
address_text address = codes "0x" ++ digits 16 false address

abbrev pub yes_or_no : Bool → List ℕ
yes_or_no b = if b then codes "yes" else codes "no"

-- the number, or `none` if there is none
abbrev pub number_or_none : Option ℕ → List ℕ
number_or_none (Some number) = decimal number
number_or_none None = codes "none"

-- NAME N, after a space
abbrev pub number_words : List ℕ → Option ℕ → List ℕ
number_words name number = codes " " ++ (name ++ (codes " " ++ number_or_none number))

-- ---- parts with an error

-- PART: ERROR
abbrev pub refused_line : List ℕ → AcpiError → List ℕ
refused_line part e = line (part ∷ codes ": " ∷ error_text e ∷ [])

-- the lines of a part, or the one that has the reason it fails
abbrev pub lines_or_refusal : {X : Type 0} → List ℕ → (X → List ℕ) → Result X AcpiError → List ℕ
lines_or_refusal part lines (Ok x) = lines x
lines_or_refusal part lines (Err e) = refused_line part e

-- the text is what is defined for a part, or that memory runs out, if it requests memory
abbrev pub IsPartText : Type 0 → List ℕ → List ℕ → List ℕ → Type 0
IsPartText Asks part defined text =
    (text ≡ defined) ⊎ (Asks × (text ≡ refused_line part AllocError))

-- ---- the tables

-- revision R
unfoldable pub revision_line : ℕ → List ℕ
revision_line revision = line (codes "revision " ∷ decimal revision ∷ [])

-- table SIG length L revision R
abbrev pub header_line : SdtHeader → List ℕ
header_line h = line (
    codes "table " ∷ signature_text h.signature
    ∷ codes " length " ∷ decimal h.length
    ∷ codes " revision " ∷ decimal h.revision ∷ [])

-- PART ADDRESS length L
abbrev pub stream_line : List ℕ → AmlTable → List ℕ
stream_line part stream = line (
    part ∷ codes " " ∷ address_text stream.address
    ∷ codes " length " ∷ decimal stream.length ∷ [])

-- hpet ADDRESS number N tick T
abbrev pub hpet_line : HpetInfo → List ℕ
hpet_line info = line (
    codes "hpet " ∷ address_text info.base_address
    ∷ codes " number " ∷ decimal info.hpet_number
    ∷ codes " tick " ∷ decimal info.clock_tick_unit ∷ [])

-- pci SEGMENT FIRST LAST ADDRESS
abbrev pub region_line : McfgEntry → List ℕ
region_line region = line (
    codes "pci " ∷ decimal region.pci_segment_group
    ∷ codes " " ∷ decimal region.bus_number_start
    ∷ codes " " ∷ decimal region.bus_number_end
    ∷ codes " " ∷ address_text region.base_address ∷ [])

-- the line of a region as a walk shows it, whether its buses are used up or not
abbrev pub shown_line : McfgEntry × Bool → List ℕ
shown_line shown = region_line shown.0

-- bgrt displayed yes|no angle A offset X Y
abbrev pub graphic_line : Bgrt → List ℕ
graphic_line graphic = line (
    codes "bgrt displayed " ∷ yes_or_no (has_bit (status_of graphic) 0)
    ∷ codes " angle " ∷ decimal (bits_of (status_of graphic) 1 2 * 90)
    ∷ codes " offset " ∷ decimal (offset_of graphic).0
    ∷ codes " " ∷ decimal (offset_of graphic).1 ∷ [])

-- spcr baud B irq I gsi G
abbrev pub console_line : Spcr → List ℕ
console_line console = line (
    codes "spcr"
    ∷ number_words (codes "baud") (baud_of console)
    ∷ number_words (codes "irq") (irq_of console)
    ∷ number_words (codes "gsi") (interrupt_of console) ∷ [])

-- skipped SIG ADDRESS: ERROR
abbrev pub skipped_line : Signature → TableFault → List ℕ
skipped_line signature fault = line (
    codes "skipped " ∷ signature_text signature ∷ codes " " ∷ address_text fault.address
    ∷ codes ": " ∷ error_text fault.error ∷ [])

-- ---- the lines of what a list of pointers leads to

abbrev pub header_lines : Memory → List ℕ → List ℕ
header_lines m ps = flat_map header_line (valid_headers m ps)

abbrev pub dsdt_lines : Memory → List ℕ → List ℕ
dsdt_lines m ps = lines_or_refusal (codes "dsdt") (stream_line (codes "dsdt")) (dsdt_stream m ps)

abbrev pub ssdt_lines : Memory → List ℕ → List ℕ
ssdt_lines m ps = flat_map (stream_line (codes "ssdt")) (ssdt_streams m ps)

abbrev pub hpet_lines : Memory → List ℕ → List ℕ
hpet_lines m ps = lines_or_refusal (codes "hpet") hpet_line (hpet_of m ps)

abbrev pub region_lines : List McfgEntry → List ℕ
region_lines regions = flat_map region_line regions

abbrev pub pci_lines : Memory → List ℕ → List ℕ
pci_lines m ps = lines_or_refusal (codes "pci") region_lines (found_regions m ps)

-- what may be printed of it
abbrev pub IsPciText : Memory → List ℕ → List ℕ → Type 0
IsPciText m ps text = IsPartText (RegionsAsk m ps) (codes "pci") (pci_lines m ps) text

abbrev pub bgrt_kind : Kind
bgrt_kind = kind BGRT 56 (check_table BGRT)

-- the first valid BGRT
abbrev pub bgrt_lines : Memory → List ℕ → List ℕ
bgrt_lines m ps =
    lines_or_refusal (codes "bgrt") (λ found. graphic_line (bgrt_at found.1)) (lookup m bgrt_kind ps)

abbrev pub spcr_kind : Kind
spcr_kind = kind SPCR 80 (check_table SPCR)

-- the first valid SPCR
abbrev pub spcr_lines : Memory → List ℕ → List ℕ
spcr_lines m ps =
    lines_or_refusal (codes "spcr") (λ found. console_line (spcr_at found.1)) (lookup m spcr_kind ps)

-- a line for each table that the lookup of a kind skips, if its signature is the kind's
abbrev pub skipped_lines : Memory → Kind → List ℕ → List ℕ
skipped_lines m k ps = flat_map (skipped_line k.signature) (faults_of m k ps)
