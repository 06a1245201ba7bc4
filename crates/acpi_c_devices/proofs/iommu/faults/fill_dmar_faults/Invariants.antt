use Rattle.std.proofs.Common.{◌≡◌, ◌+◌, ◌≤◌, length}
use Rattle.acpi_base.specs.FromStd.{concat}
use Rattle.acpi_iommu.specs.Words.{kind_of, rest_left, structure_fault, structures_left}
use Rattle.acpi_c_lib.specs.Words.{put_from}
use Rattle.acpi_c_devices.specs.Words.{dmar_faults_of, iommu_faults_from}
use Rattle.acpi_c_devices.proofs.iommu.faults.fill_dmar_faults.Given as goal

-- what is written and what is left are the whole, the address is that of what is left, and no more are counted than
-- there were structures
abbrev pub invariant-loop-structure : goal.invariant-loop-structure
invariant-loop-structure l =
    let left = structures_left l.structures in
    let rest = rest_left l.structures in
    let faults = iommu_faults_from kind_of structure_fault l.at left rest in
    let all = dmar_faults_of (l.address, l.table) in
    (put_from l.out l.count faults ≡ put_from l.initial.out 0 all)
    × (l.count + length faults ≡ length all)
    × (l.at + length (concat left) + length rest ≡ l.address + length l.table)
    × (l.count + length left ≤ length l.table)

abbrev pub decreases-loop-structure : goal.decreases-loop-structure
decreases-loop-structure l = length (structures_left l.structures)
