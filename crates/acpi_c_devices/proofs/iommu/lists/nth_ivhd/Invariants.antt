use Rattle.std.proofs.Common.{◌≡◌, filter, length, slice_get}
use Rattle.acpi_iommu.specs.Words.{blocks_left}
use Rattle.acpi_c_devices.specs.Words.{is_ivhd_block, ivhd_in}
use Rattle.acpi_c_devices.proofs.iommu.lists.nth_ivhd.Given as goal

-- the unit is at the index `before` among those that are left
abbrev pub invariant-loop-block : goal.invariant-loop-block
invariant-loop-block l =
    slice_get (filter is_ivhd_block (blocks_left l.blocks)) l.before ≡ ivhd_in l.table l.index

abbrev pub decreases-loop-block : goal.decreases-loop-block
decreases-loop-block l = length (blocks_left l.blocks)
