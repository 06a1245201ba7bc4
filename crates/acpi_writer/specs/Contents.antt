-- The bytes of a table that an XSDT can list, by its contents.
use Rattle.std.specs.Prelude.{ℕ, ◌^◌, ◌<◌, List, Result, All}
use Rattle.acpi_writer.specs.Aml.{aml_written}
use Rattle.acpi_writer.specs.Bgrt.{FitsBgrt, bgrt_written}
use Rattle.acpi_writer.specs.Fadt.{fadt_written, FitsFadt}
use Rattle.acpi_table_writer.specs.Words.{most, or_none, AreGicFit, gic_written, AreTimersFit, gtdt_written, hpet_written, FitsHpet, madt_written, AreFit, mcfg_written, FitsMcfg, slit_written, srat_written}
use Rattle.acpi_writer.specs.Laid.{padded}
use Rattle.acpi_writer.specs.Spcr.{spcr_written, FitsSpcr}
use Rattle.acpi_table_writer.specs.Srat as srat
use Rattle.acpi_writer.specs.Types.{Signature, BGRT, FADT, GTDT, HPET, MADT, MCFG, SLIT, SPCR, SRAT, SSDT, TableContents, Bgrt, Fadt, GicMadt, Gtdt, Hpet, Madt, Mcfg, Slit, Spcr, Srat, Ssdt, WriterError, TableIds}

-- the table, or the first error
abbrev pub contents_written : TableIds → TableContents → Result (List ℕ) WriterError
contents_written ids (Madt c) = madt_written most ids c
contents_written ids (Mcfg regions) = mcfg_written most ids regions.now
contents_written ids (Hpet info) = hpet_written most ids info
contents_written ids (Slit c) = slit_written most ids c.localities c.distances.now
contents_written ids (Ssdt c) = aml_written most SSDT c.revision ids c.bytes.now
contents_written ids (Fadt c) = fadt_written most ids c
contents_written ids (Srat c) = srat_written most ids c
contents_written ids (Spcr c) = spcr_written most ids c
contents_written ids (Bgrt c) = bgrt_written most ids c
contents_written ids (Gtdt c) = gtdt_written most ids c
contents_written ids (GicMadt c) = gic_written most ids c

-- the numbers have a place
abbrev pub FitsContents : TableContents → Type 0
FitsContents (Madt c) = AreFit c
FitsContents (Mcfg regions) = All FitsMcfg regions.now
FitsContents (Hpet info) = FitsHpet info
FitsContents (Slit c) = c.localities < 2 ^ 64
FitsContents (Ssdt c) = Unit {0}
FitsContents (Fadt c) = FitsFadt c
FitsContents (Srat c) = srat.AreFit c
FitsContents (Spcr c) = FitsSpcr c
FitsContents (Bgrt c) = FitsBgrt c
FitsContents (Gtdt c) = AreTimersFit c
FitsContents (GicMadt c) = AreGicFit c

abbrev pub signature_of : TableContents → Signature
signature_of (Madt c) = MADT
signature_of (Mcfg regions) = MCFG
signature_of (Hpet info) = HPET
signature_of (Slit c) = SLIT
signature_of (Ssdt c) = SSDT
signature_of (Fadt c) = FADT
signature_of (Srat c) = SRAT
signature_of (Spcr c) = SPCR
signature_of (Bgrt c) = BGRT
signature_of (Gtdt c) = GTDT
signature_of (GicMadt c) = MADT

-- how things of a type are written as tables: with these ids, or the first error
abbrev pub Written : Type 0 → Type 0
Written A = TableIds → A → Result (List ℕ) WriterError

-- the bytes of one thing, and these filled up
abbrev pub bytes_by : {A : Type 0} → Written A → TableIds → A → List ℕ
bytes_by written ids c = or_none (written ids c)

abbrev pub placed_by : {A : Type 0} → Written A → TableIds → A → List ℕ
placed_by written ids c = padded (bytes_by written ids c)

-- of contents
abbrev pub bytes_of : TableIds → TableContents → List ℕ
bytes_of ids c = bytes_by contents_written ids c

abbrev pub placed : TableIds → TableContents → List ℕ
placed ids c = placed_by contents_written ids c
