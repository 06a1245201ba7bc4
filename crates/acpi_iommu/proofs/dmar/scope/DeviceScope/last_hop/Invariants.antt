use Rattle.std.proofs.Common.{◌≡◌, length}
use Rattle.acpi_base.specs.FromStd.{last_or}
use Rattle.acpi_iommu.specs.Words.{bytes_of_scope, hops_left, last_hop}
use Rattle.acpi_iommu.proofs.dmar.scope.DeviceScope.last_hop.Given as goal

-- the last hop so far, or what is the last of those that are left
abbrev pub invariant-loop-hop : goal.invariant-loop-hop
invariant-loop-hop l = last_or l.last (hops_left l.path) ≡ last_hop (bytes_of_scope l.self)

abbrev pub decreases-loop-hop : goal.decreases-loop-hop
decreases-loop-hop l = length (hops_left l.path)
