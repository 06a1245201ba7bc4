use Rattle.std.proofs.Common.{◌≡◌, [], length, filter_map}
use Rattle.acpi_base.specs.FromStd.{result_ok}
use Rattle.acpi_base.specs.Words.{cut, madt_grammar, HasRoom, model_behind, gathered, items_of, items_or_faults_in}
use Rattle.acpi_base.proofs.model.gather.gather.Given as goal

-- what is gathered and what is left are the whole, there is room for what is left, and no bytes are after it
abbrev pub invariant-loop-entry : goal.invariant-loop-entry
invariant-loop-entry g l =
    let left = filter_map result_ok (items_or_faults_in l.rest) in
    (model_behind l.builder left ≡ gathered l.madt (items_of l.table)) × HasRoom l.builder left
    × ((cut madt_grammar l.rest).1 ≡ [])

abbrev pub decreases-loop-entry : goal.decreases-loop-entry
decreases-loop-entry g l = length l.rest
