use Rattle.std.proofs.Common.{◌≡◌, ◌∙◌, ◌<◌, sym, refl, ap, arith, length, length-drop, slice_set}
use Rattle.acpi_base.proofs.FromStd.{common_steps}
use Rattle.acpi_iommu.proofs.Cuts.{block_is, stuck_rest}
use Rattle.acpi_iommu.specs.Ivrs.{rest_left}
use Rattle.acpi_iommu.specs.Words.{block_fault, block_kind, block_size, blocks_cut, blocks_left, blocks_of, bytes_left}
use Rattle.acpi_c_devices.specs.Types.{InvalidStructureLength}
use Rattle.acpi_c_devices.specs.Words.{ivrs_faults_of, iommu_fault}
use Rattle.acpi_c_devices.proofs.IommuLists.{last_written, blocks_few, blocks_whole}
use Rattle.acpi_c_devices.proofs.iommu.faults.fill_ivrs_faults.Goals as goal

pub loop-block-init : goal.loop-block-init
loop-block-init c =
    let table = c.args.table.now in
    let walk = c.blocks-blocks in
    let left : blocks_left walk.result ≡ blocks_of table = walk.ensures.items ∙ ap blocks_of c.over.ensures in
    let rest : rest_left walk.result ≡ (blocks_cut table).1 =
    walk.ensures.rest ∙ ap (λ t. (blocks_cut t).1) c.over.ensures in
    rw (left, rest) (
      refl,
      omega arith,
      omega (arith, blocks_whole table, length-drop 48 table, c.requires.fixed),
      omega (arith, blocks_few table),
    )

pub returns-then-not-is_empty : goal.returns-then-not-is_empty
returns-then-not-is_empty c =
    let s = c.loop-block in
    let steps = c.in_default.ensures.steps in
    let bytes = c.rest-rest.result.now in
    let same : rest_left s.blocks ≡ bytes =
    sym steps.1.0 ∙ stuck_rest block_size block_is (bytes_left c.next.new.self) steps.0.1
    ∙ sym c.rest-rest.ensures in
    let some : 0 < length bytes = grind (arith, common_steps) in
    let is : c.put-then-not-is_empty.new.out
    ≡ slice_set s.out s.count (iommu_fault s.at (block_kind bytes) InvalidStructureLength) =
    grind (arith, common_steps) in
    last_written block_kind block_fault s.at s.count c.args.out.now s.out c.put-then-not-is_empty.new.out
    (ivrs_faults_of (c.args.address, c.args.table.now)) (blocks_left s.blocks) (rest_left s.blocks) bytes
    steps.0.0 same some s.invariant.0 s.invariant.1 is
