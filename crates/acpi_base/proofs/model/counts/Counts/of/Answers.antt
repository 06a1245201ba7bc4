use Rattle.std.proofs.Common.{◌≤◌, length, drop, refl, ap, arith}
use Rattle.acpi_base.proofs.EntryLists.{counted_short, said_few, said_faults, said_items}
use Rattle.acpi_base.specs.Words.{counts_of, items_or_faults_in}
use Rattle.acpi_base.proofs.model.counts.Counts.of.Goals as goal

pub loop-entry-init : goal.loop-entry-init
loop-entry-init c =
    let few : length (items_or_faults_in (drop 44 c.args.table.now)) ≤ length c.args.table.now =
    omega (arith, said_few c.args.table.now) in
    rw c.skip-rest.ensures (record {
      passed = said_faults _;
      counted =
          ap (λ items. counts_of items) (said_items _);
      room =
          (omega (arith, few), omega (arith, few), omega (arith, few), omega (arith, few), omega (arith, few));
      rest =
          refl;
    })

pub returns-in-len1-up : goal.returns-in-len1-up
returns-in-len1-up c =
    counted_short c.args.table.now c.loop-entry.rest.now c.in_default.ensures.none c.in-len1-up.len_at_least
    c.loop-entry.invariant.passed c.loop-entry.invariant.rest
