use Rattle.std.proofs.Common.{arith}
use Rattle.acpi_c_interrupts.specs.Words.{frames_shown}
use Rattle.acpi_c_interrupts.proofs.TimerLists.{block_first, block_written, frames_few}
use Rattle.acpi_c_interrupts.proofs.arm.timers.fill_frames.Goals as goal

pub fill_from-count-requires-clause-few : goal.fill_from-count-requires-clause-few
fill_from-count-requires-clause-few c =
    let front = rw c.in-GtBlock.is at c.in-Some.ensures.steps in
    let first = block_first _ _ _ _ _ _ front c.loop-timer.invariant.1 in
    omega (arith, first, frames_few c.args.table.now)

pub loop-timer-preserved-in-GtBlock : goal.loop-timer-preserved-in-GtBlock
loop-timer-preserved-in-GtBlock c =
    let front = rw c.in-GtBlock.is at c.in-Some.ensures.steps in (
      rw (c.fill_from-count.ensures.items, c.fill_from-count.ensures.count)
          (block_written c.args.out.now _ (frames_shown c.args.table.now) _ _ _ _ _ front c.loop-timer.invariant.0),
      rw c.fill_from-count.ensures.count (block_first _ _ _ _ _ _ front c.loop-timer.invariant.1),
    )
