use Rattle.std.proofs.Common.{◌≡◌, true, false, subst}
use Rattle.acpi_c_lib.specs.Words.{Writes, areas_missing_ranges, candidate_missing_ranges}
use Rattle.acpi_c_lib.proofs.Unmapped.{both_walked, first_found}
use Rattle.acpi_c_lib.proofs.candidates.candidate_missing_ranges.Goals as goal

pub returns-then-is_found-clause-written : goal.returns-then-is_found-clause-written
unfolding candidate_missing_ranges
returns-then-is_found-clause-written g c =
    let m = g.H.AcpiHandler.memory c.args.handler.now in
    let w = c.walk-count.ensures in
    let found : c.walk-count.result.1 ≡ true = cc in
    subst (λ a. Writes c.walk-count.result.0 c.args.out.now c.walk-count.new.out
    (areas_missing_ranges c.args.source.now.accept m a))
    c.areas_of-areas.ensures.exact
    (first_found c.args.source.now.accept m c.areas_of-areas.result _ _ _ _ w.written w.next w.found found)

pub returns-clause-written : goal.returns-clause-written
unfolding candidate_missing_ranges
returns-clause-written g c =
    let m = g.H.AcpiHandler.memory c.args.handler.now in
    let w = c.walk-count.ensures in
    let none : c.walk-count.result.1 ≡ false = cc in
    subst (λ a. Writes c.walk.result.0 c.args.out.now c.walk.new.out
    (areas_missing_ranges c.args.source.now.accept m a)) c.areas_of-areas.ensures.exact
    (both_walked c.args.source.now.accept m c.areas_of-areas.result _ _ _ _ w.written w.next w.found _ _ none
    c.walk.ensures.written
    c.walk.ensures.next)
