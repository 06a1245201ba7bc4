use Rattle.std.proofs.Common.{refl}
use Rattle.acpi_base.specs.Words.{spelling}
use Rattle.acpi_image.specs.Words.{rsdp_unsummed}
use Rattle.acpi_image.proofs.sums.rsdp_unsummed.Goals as goal

pub returns : goal.returns
unfolding rsdp_unsummed spelling
returns c =
    rw (c.copy_from_slice-5.ensures.after, c.copy_from_slice-4.ensures.after, c.copy_from_slice-3.ensures.after)
    (rw (c.copy_from_slice-2.ensures.after, c.dword-2.ensures, c.copy_from_slice.ensures.after, c.dword.ensures)
    (rw c.qword.ensures refl))
