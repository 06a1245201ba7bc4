use Rattle.std.proofs.Common.{◌≡◌, ◌+◌, length}
use Rattle.acpi_c_lib.specs.Words.{put_from}
use Rattle.acpi_c_interrupts.specs.Words.{each_left, frames_of, frames_shown}
use Rattle.acpi_c_interrupts.proofs.arm.timers.fill_frames.Given as goal

-- what is written and what is left are the whole
abbrev pub invariant-loop-timer : goal.invariant-loop-timer
invariant-loop-timer l =
    let left = frames_of (each_left l.timer-iterator) in
    (put_from l.out l.count left ≡ put_from l.initial.out 0 (frames_shown l.table))
    × (l.count + length left ≡ length (frames_shown l.table))
