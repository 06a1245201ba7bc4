use Rattle.acpi_c_interrupts.proofs.StrictLists.{lists_are_models}
use Rattle.acpi_c_interrupts.proofs.laws.lists_are_models.Goals as goal

pub returns : goal.returns
returns c = lists_are_models
