use Rattle.acpi_writer.proofs.ShortTables.{bgrt_read, dsdt_read, root_read, ssdt_read}
use Rattle.acpi_table_writer.proofs.ShortTables.{hpet_read, mcfg_read, slit_read}
use Rattle.acpi_writer.proofs.Headless.{facs_read, rsdp_read}
use Rattle.acpi_writer.proofs.FadtRead.{fadt_read}
use Rattle.acpi_table_writer.proofs.GicRead.{gic_madt_read}
use Rattle.acpi_table_writer.proofs.RiscvRead.{riscv_madt_read}
use Rattle.acpi_table_writer.proofs.GtdtRead.{gtdt_read}
use Rattle.acpi_table_writer.proofs.Tables.{ids_are_read}
use Rattle.acpi_table_writer.proofs.MadtRead.{madt_read, mailbox_read}
use Rattle.acpi_writer.proofs.SpcrRead.{spcr_read}
use Rattle.acpi_table_writer.proofs.SratRead.{srat_read}
use Rattle.acpi_writer.proofs.laws.tables_are_read.Goals as goal

pub returns : goal.returns
returns g c = record {
  ids = ids_are_read;
  rsdp = rsdp_read;
  root = root_read;
  dsdt = dsdt_read;
  ssdt = ssdt_read;
  fadt = fadt_read;
  facs = facs_read;
  madt = madt_read;
  mailbox = mailbox_read;
  gic_madt = gic_madt_read;
  riscv_madt = riscv_madt_read;
  mcfg = mcfg_read;
  hpet = hpet_read;
  bgrt = bgrt_read;
  spcr = spcr_read;
  srat = srat_read;
  slit = slit_read;
  gtdt = gtdt_read;
}
