use Rattle.std.proofs.Common.{refl}
use Rattle.acpi_c_lib.proofs.copied.first_part.Goals as goal

pub returns : goal.returns
returns c = rw (c.requires.zeros, c.copy_from_slice.ensures.after) refl
