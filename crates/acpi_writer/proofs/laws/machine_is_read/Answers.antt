use Rattle.acpi_writer.proofs.LaidRead.{laid_found}
use Rattle.acpi_writer.proofs.MachineRead.{machine_read, tree_read}
use Rattle.acpi_writer.proofs.laws.machine_is_read.Goals as goal

pub returns : goal.returns
returns g c = record { is_read = machine_read; tree = tree_read; laid = laid_found }
