use Rattle.std.proofs.Common.{◌≡◌, ℕ, ◌+◌, ◌≤◌, length, filter_map}
use Rattle.acpi_base.specs.FromStd.{result_err, result_ok}
use Rattle.acpi_base.specs.Words.{cut, cut_of, entries_of, madt_grammar, fault_in, items_of, counted_behind, counts_of, items_or_faults_in, Counts}
use Rattle.acpi_base.proofs.model.counts.Counts.of.Given as goal

-- each count has room for all that is left
abbrev has_room : Counts → ℕ → ℕ → Type 0
has_room c left most =
    (c.processors + left ≤ most) × (c.io_apics + left ≤ most) × (c.overrides + left ≤ most)
    × (c.nmi_sources + left ≤ most) × (c.nmi_lines + left ≤ most)

-- no entry so far is refused, what is counted and what is left are the whole, and the rest is the same
abbrev pub invariant-loop-entry : goal.invariant-loop-entry
invariant-loop-entry l = record {
  passed : filter_map result_err (items_or_faults_in l.rest) ≡ filter_map fault_in (entries_of l.table);
  counted : counted_behind l.counts (filter_map result_ok (items_or_faults_in l.rest)) ≡ counts_of (items_of l.table);
  room : has_room l.counts (length (items_or_faults_in l.rest)) (length l.table);
  rest : (cut madt_grammar l.rest).1 ≡ (cut_of l.table).1;
}

abbrev pub decreases-loop-entry : goal.decreases-loop-entry
decreases-loop-entry l = length l.rest
