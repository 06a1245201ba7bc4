use Rattle.std.proofs.Common.{◌≡◌, find}
use Rattle.acpi_iommu.specs.Words.{block_bytes, covers, entries_left, entries_of}
use Rattle.acpi_iommu.proofs.ivrs.block.IvrsBlock.unit.Given as goal

-- those passed over don't cover the device
abbrev pub invariant-loop-entry : goal.invariant-loop-entry
invariant-loop-entry l = find (covers l.device_id) (entries_left l.entries)
    ≡ find (covers l.device_id) (entries_of (block_bytes l.self))
