use Rattle.std.proofs.Common.{refl}
use Rattle.acpi_base.specs.FromStd.{chars, is_utf8}
use Rattle.acpi_writer.proofs.ShortTables.{root_valid}
use Rattle.acpi_table_writer.proofs.Tables.{valid}
use Rattle.acpi_writer.proofs.laws.tables_are_valid.Goals as goal

pub returns : goal.returns
unfolding is_utf8 chars lib.Utf8.encode
returns c = record {
  fadt = λ ids d t is. valid refl is.written refl;
  madt = λ ids d t is. valid refl is.written refl;
  gic_madt = λ ids d t is. valid refl is.written refl;
  riscv_madt = λ ids d t is. valid refl is.written refl;
  mcfg = λ ids d t is. valid refl is.written refl;
  hpet = λ ids d t is. valid refl is.written refl;
  bgrt = λ ids d t is. valid refl is.written refl;
  spcr = λ ids d t is. valid refl is.written refl;
  srat = λ ids d t is. valid refl is.written refl;
  slit = λ ids n d t is. valid refl is.written refl;
  gtdt = λ ids d t is. valid refl is.written refl;
  root = root_valid;
}
