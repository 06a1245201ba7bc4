use Rattle.std.proofs.Common.{◌≡◌, ◌∙◌, ◌<◌, sym, refl, ap, arith, length, length-drop, slice_set}
use Rattle.acpi_base.proofs.FromStd.{common_steps}
use Rattle.acpi_iommu.proofs.Cuts.{structure_is, stuck_rest}
use Rattle.acpi_iommu.specs.Words.{bytes_left, cut_of, kind_of, rest_left, structure_fault, structure_size, structures_left, structures_of}
use Rattle.acpi_c_devices.specs.Types.{InvalidStructureLength}
use Rattle.acpi_c_devices.specs.Words.{dmar_faults_of, iommu_fault}
use Rattle.acpi_c_devices.proofs.IommuLists.{last_written, structures_few, structures_whole}
use Rattle.acpi_c_devices.proofs.iommu.faults.fill_dmar_faults.Goals as goal

pub loop-structure-init : goal.loop-structure-init
loop-structure-init c =
    let table = c.args.table.now in
    let walk = c.structures-structures in
    let left : structures_left walk.result ≡ structures_of table =
    walk.ensures.items ∙ ap structures_of c.over.ensures in
    let rest : rest_left walk.result ≡ (cut_of table).1 = walk.ensures.rest ∙ ap (λ t. (cut_of t).1) c.over.ensures in
    rw (left, rest) (
      refl,
      omega arith,
      omega (arith, structures_whole table, length-drop 48 table, c.requires.fixed),
      omega (arith, structures_few table),
    )

pub returns-then-not-is_empty : goal.returns-then-not-is_empty
returns-then-not-is_empty c =
    let s = c.loop-structure in
    let steps = c.in_default.ensures.steps in
    let bytes = c.rest-rest.result.now in
    let same : rest_left s.structures ≡ bytes =
    sym steps.1.0 ∙ stuck_rest structure_size structure_is (bytes_left c.next.new.self) steps.0.1
    ∙ sym c.rest-rest.ensures in
    let some : 0 < length bytes = grind (arith, common_steps) in
    let is : c.put-then-not-is_empty.new.out
    ≡ slice_set s.out s.count (iommu_fault s.at (kind_of bytes) InvalidStructureLength) = grind (arith, common_steps) in
    last_written kind_of structure_fault s.at s.count c.args.out.now s.out c.put-then-not-is_empty.new.out
    (dmar_faults_of (c.args.address, c.args.table.now)) (structures_left s.structures) (rest_left s.structures) bytes
    steps.0.0 same some s.invariant.0 s.invariant.1 is
