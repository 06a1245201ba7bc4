use Rattle.std.proofs.Common.{◌≡◌, ◌+◌, drop, length}
use Rattle.acpi_iommu.specs.Words.{hops_left, is_front}
use Rattle.acpi_iommu.proofs.dmar.scope.front_length.Given as goal

-- the path is a front if the hops of it that are left are a front of the hops that are left
abbrev pub invariant-loop-hop : goal.invariant-loop-hop
invariant-loop-hop l = record {
  left : is_front (hops_left l.path) (drop l.count l.hops) ≡ is_front (hops_left l.fn.path) l.hops;
  counted : l.count + length (hops_left l.path) ≡ length (hops_left l.fn.path);
}

abbrev pub decreases-loop-hop : goal.decreases-loop-hop
decreases-loop-hop l = length (hops_left l.path)
