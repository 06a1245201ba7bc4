use Rattle.acpi_bytes.proofs.WordSums.{sum_whole}
use Rattle.acpi_bytes.proofs.sum.word_sum.Goals as goal

pub returns : goal.returns
returns c = rw (c.loop-at.invariant.summed, c.plain_sum.ensures) (sum_whole c.args.bytes.now c.loop-at.at)
