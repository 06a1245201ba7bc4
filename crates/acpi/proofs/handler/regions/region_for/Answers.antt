use Rattle.std.proofs.Common.{leb, rules}
use Rattle.acpi_base.proofs.FromStd.{IsPartitionPoint-from_clause}
use Rattle.acpi.proofs.Placing.{decides, no_regions, passes_before}
use Rattle.acpi.proofs.handler.regions.region_for.Goals as goal

pub returns-clause-found : goal.returns-clause-found
returns-clause-found c =
    let rs = c.args.regions.now in
    let a = c.args.address in
    let point = IsPartitionPoint-from_clause (λ r. leb r.start a) _ _ c.partition_point-after.ensures.partitioned
    (λ i j d. passes_before rs a i j d c.requires) (λ x r f k. search rules) in
    decides rs a c.partition_point-after.result c.get.result c.requires c.partition_point-after.ensures.bound point
    (rw c.saturating_sub.ensures at c.get.ensures.lookup.3)

pub returns-clause-none : goal.returns-clause-none
returns-clause-none c =
    no_regions c.args.regions.now c.partition_point-after.result c.get.result c.partition_point-after.ensures.bound
    (rw c.saturating_sub.ensures at c.get.ensures.lookup.3)
