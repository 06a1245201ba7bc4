use Rattle.std.proofs.Common.{arith, ◌||◌, not}
use Rattle.acpi_base.proofs.FromStd.{common_steps, nat_tests}
use Rattle.acpi_iommu.proofs.Sure.{passed}
use Rattle.acpi_iommu.specs.Words.{drhd_in, has_whole_scopes, is_unit_of, structure_bytes}
use Rattle.acpi_iommu.proofs.dmar.units.DmarUnits.find_unit.Goals as goal

pub loop-structure-preserved-else-not-has_whole_scopes : goal.loop-structure-preserved-else-not-has_whole_scopes
loop-structure-preserved-else-not-has_whole_scopes c =
    let a = c.args in
    passed (drhd_in a.segment a.bus a.hops.now c.is_named-is_named.result)
    (λ e. not (is_unit_of a.segment e) || has_whole_scopes e) (structure_bytes c.in-Some.structure) _ _ _ _ _
    c.in-Some.ensures.steps.0 c.in-Some.ensures.steps.1.0 (grind (arith, common_steps, nat_tests))
    (grind (arith, common_steps, nat_tests)) c.loop-structure.invariant

pub loop-structure-preserved : goal.loop-structure-preserved
loop-structure-preserved c =
    let a = c.args in
    passed (drhd_in a.segment a.bus a.hops.now c.is_named-is_named.result)
    (λ e. not (is_unit_of a.segment e) || has_whole_scopes e) (structure_bytes c.in-Some.structure) _ _ _ _ _
    c.in-Some.ensures.steps.0 c.in-Some.ensures.steps.1.0 (grind (arith, common_steps, nat_tests))
    (grind (arith, common_steps, nat_tests)) c.loop-structure.invariant
