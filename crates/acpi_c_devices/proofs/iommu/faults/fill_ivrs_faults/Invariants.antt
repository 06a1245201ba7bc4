use Rattle.std.proofs.Common.{◌≡◌, ◌+◌, ◌≤◌, length}
use Rattle.acpi_base.specs.FromStd.{concat}
use Rattle.acpi_iommu.specs.Words.{block_fault, block_kind, blocks_left}
use Rattle.acpi_iommu.specs.Ivrs.{rest_left}
use Rattle.acpi_c_lib.specs.Words.{put_from}
use Rattle.acpi_c_devices.specs.Words.{ivrs_faults_of, iommu_faults_from}
use Rattle.acpi_c_devices.proofs.iommu.faults.fill_ivrs_faults.Given as goal

-- what is written and what is left are the whole, the address is that of what is left, and no more are counted than
-- there were blocks
abbrev pub invariant-loop-block : goal.invariant-loop-block
invariant-loop-block l =
    let left = blocks_left l.blocks in
    let rest = rest_left l.blocks in
    let faults = iommu_faults_from block_kind block_fault l.at left rest in
    let all = ivrs_faults_of (l.address, l.table) in
    (put_from l.out l.count faults ≡ put_from l.initial.out 0 all)
    × (l.count + length faults ≡ length all)
    × (l.at + length (concat left) + length rest ≡ l.address + length l.table)
    × (l.count + length left ≤ length l.table)

abbrev pub decreases-loop-block : goal.decreases-loop-block
decreases-loop-block l = length (blocks_left l.blocks)
