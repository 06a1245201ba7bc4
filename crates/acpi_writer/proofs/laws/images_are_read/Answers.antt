use Rattle.acpi_writer.proofs.LaidRead.{hpet_in_image, madt_in_image, mcfg_in_image, platform_in_image}
use Rattle.acpi_writer.proofs.laws.images_are_read.Goals as goal

pub returns : goal.returns
returns g c = record { madt = madt_in_image; platform = platform_in_image; mcfg = mcfg_in_image; hpet = hpet_in_image }
