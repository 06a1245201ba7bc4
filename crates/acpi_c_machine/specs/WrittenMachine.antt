-- The tables of a whole machine that are written for C.
use Rattle.std.specs.Prelude.{ℕ, ◌==◌, ◌&&◌, ◌^◌, Bool, List, [], ◌∷◌, map, length, nat_le, nat_lt, Option, Some, None, Result, Ok, ok_or}
use Rattle.acpi_base.specs.Words.{holds}
use Rattle.acpi_c_devices.specs.WrittenBgrt as bgrt
use Rattle.acpi_c_devices.specs.WrittenFacs as written_facs
use Rattle.acpi_c_devices.specs.WrittenFadt as fadt
use Rattle.acpi_c_interrupts.specs.WrittenGic as gic
use Rattle.acpi_c_interrupts.specs.WrittenGtdt as gtdt
use Rattle.acpi_c_devices.specs.WrittenSpcr as spcr
use Rattle.acpi_c_devices.specs.WrittenSrat as srat
use Rattle.acpi_c_interrupts.specs.WrittenMadt as madt
use Rattle.acpi_c_devices.specs.Devices.{hpet_info_of}
use Rattle.acpi_c_devices.specs.WrittenMcfg as mcfg
use Rattle.acpi_c_machine.specs.Writing.{Refusal, TableIds, WriterError, writer_refused}
use Rattle.acpi_c_machine.specs.Types.{list_all, ◌>>=◌, field_of, sum_of, Bgrt, Fadt, Gic, Hpet, Madt, Mcfg, Spcr, Srat, ListedTable, AmlContents, FacsContents, NoAddress, TooLong, bgrt_written, fadt_written, hpet_written, MachineOf, dsdt_at, facs_at, gic_written, machine_size, machine_written, tree_written, madt_written, mcfg_written, srat_written, UnknownCode, BadTable, Writer}
pub use Rattle.acpi_c_machine.specs.declared.machine.Contents.{Contents}
use Rattle.acpi_c_machine.specs.declared.machine.Contents.TheVariants.{Gtdt}
use Rattle.acpi_c_machine.specs.declared.written_records.AmlContents as aml
use Rattle.acpi_c_devices.specs.declared.written_records.FacsContents as facs
use Rattle.acpi_c_machine.specs.declared.written_records.Machine as record_of

-- ---- a table

-- a table of a record whose codes there are
abbrev pub of_codes : {A : Type 0} → Bool → Result A WriterError → Result A Refusal
of_codes has_codes table = do
  _ ← holds has_codes UnknownCode
  writer_refused table

-- the table that is to contain this, in a capacity, or the first error
abbrev pub table_said : ℕ → TableIds → Contents → Result (List ℕ) Refusal
table_said room ids (Fadt h) = of_codes (fadt.has_codes h) (fadt_written room ids (fadt.contents h))
table_said room ids (Madt c) = of_codes (madt.has_codes c) (madt_written room ids (madt.madt_of c))
table_said room ids (Mcfg rs) = writer_refused (mcfg_written room ids (map mcfg.region_of rs.now))
table_said room ids (Hpet i) = writer_refused (hpet_written room ids (hpet_info_of i))
table_said room ids (Srat c) = writer_refused (srat_written room ids (srat.srat_of c))
table_said room ids (Bgrt g) = of_codes (bgrt.has_codes g) (bgrt_written room ids (bgrt.contents g))
table_said room ids (Spcr c) = of_codes (spcr.has_codes c) (spcr.spcr_laid room ids c)
table_said room ids (Gtdt c) = of_codes (gtdt.has_codes c) (gtdt.gtdt_laid room ids c)
table_said room ids (Gic c) = do
  _ ← gic.checked c
  writer_refused (gic_written room ids (gic.gic_of c))

-- bytes that are one table: a header of 36, whose Length, at 4, is the number of bytes, and a sum of 0 (section 5.2.6)
abbrev pub is_table : ListedTable → Bool
is_table t =
    nat_le 36 (length t.bytes.now)
    && (field_of t.bytes.now 4 4 == length t.bytes.now && sum_of t.bytes.now == 0)

-- a listed table is written as it is
abbrev pub listed_written : TableIds → ListedTable → Result (List ℕ) WriterError
listed_written ids t = do
  _ ← holds (nat_lt (length t.bytes.now) (2 ^ 32)) TooLong
  Ok t.bytes.now

-- ---- the machine

abbrev pub dsdt_in : List aml.AmlContents → Option AmlContents
dsdt_in [] = None
dsdt_in (c ∷ cs) = Some (record { revision = c.revision; bytes = c.aml })

abbrev pub facs_in : List facs.FacsContents → Option FacsContents
facs_in [] = None
facs_in (c ∷ cs) = Some (written_facs.facs_contents c)

abbrev pub machine_of : record_of.Machine → MachineOf ListedTable
machine_of m = record { ids = m.ids; dsdt = dsdt_in m.dsdts.now; facs = facs_in m.facs.now; tables = m.tables }

-- ---- what calls give

-- of a machine whose listed bytes are tables
abbrev pub of_tables : {A : Type 0} → record_of.Machine → Result A WriterError → Result A Refusal
of_tables m written = do
  _ ← holds (list_all is_table m.tables.now) BadTable
  writer_refused written

-- all tables with the RSDP, for an address, in a capacity, or the first error
abbrev pub machine_said : ℕ → ℕ → record_of.Machine → Result (List ℕ) Refusal
machine_said room a m = of_tables m (machine_written listed_written room a (machine_of m))

-- and without it
abbrev pub tree_said : ℕ → ℕ → record_of.Machine → Result (List ℕ) Refusal
tree_said room a m = of_tables m (tree_written listed_written room a (machine_of m))

-- how many bytes there are with the RSDP
abbrev pub size_said : record_of.Machine → Result ℕ Refusal
size_said m = of_tables m (machine_size listed_written (machine_of m))

-- the address of the DSDT of a machine with n tables
abbrev pub dsdt_said : ℕ → ℕ → Result ℕ Refusal
dsdt_said a n = ok_or (dsdt_at a n) (Writer NoAddress)

-- and that of its FACS, after the DSDT, the first of these, if there is one
abbrev pub facs_said : ℕ → ℕ → List aml.AmlContents → Result ℕ Refusal
facs_said a n dsdts = ok_or (facs_at a n (dsdt_in dsdts)) (Writer NoAddress)
