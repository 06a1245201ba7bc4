use Rattle.acpi_bytes.proofs.Sums.{adds_up_next}
use Rattle.acpi_bytes.proofs.sum.lanes.with_vector.Goals as goal

pub returns : goal.returns
returns c = λ end is.
    rw c.vector_at.ensures (adds_up_next c.args.lanes c.args.bytes.now c.args.at end is c.requires.there
    c.requires.sums)
