use Rattle.std.proofs.Common.{ap, arith, slice_set, ◌∙◌}
use Rattle.acpi_c_interrupts.proofs.ApicLists.{first_booted, no_processor, none_booted}
use Rattle.acpi_c_interrupts.proofs.apics.boot_first.Goals as goal
use Rattle.acpi_c_interrupts.proofs.apics.boot_first.Goals.{else-count-gt0-via-then-count-gt0+else-out-gt0, else-count-gt0-via-else-count-gt0}

pub returns-then-out-gt0 : goal.returns-then-out-gt0
returns-then-out-gt0 c = λ before ps is counted.
    ap (slice_set c.args.out.now 0) c.booted.ensures
    ∙ first_booted before ps _ _ is (omega (arith, counted, c.if-count-gt0.true)) (omega (arith, c.if-out-gt0.true))

pub returns-else-count-gt0 : goal.returns-else-count-gt0
returns-else-count-gt0 c = λ before ps is counted. (elim c.else-count-gt0.branch [
  | else-count-gt0-via-then-count-gt0+else-out-gt0 w ↦ none_booted before ps _ is (omega (arith, w.if-out-gt0))
  | else-count-gt0-via-else-count-gt0 w ↦ no_processor before ps _ is (omega (arith, counted, w.if-count-gt0))
])
