use Rattle.std.proofs.Common.{rules, leb}
use Rattle.acpi_base.proofs.FromStd.{IsPartitionPoint-from_clause}
use Rattle.acpi_c_lib.proofs.Ascending.{only_last, passes_before}
use Rattle.acpi_c_lib.proofs.regions.index_for.Goals as goal

pub returns : goal.returns
returns c =
    let rs = c.args.regions.now in
    let a = c.args.address in
    let point = IsPartitionPoint-from_clause (λ r. leb r.address a) _ _ c.partition_point-after.ensures.partitioned
    (λ i j d. passes_before rs a i j d c.requires) (λ x r f k. search rules) in
    rw c.saturating_sub.ensures (only_last rs a c.partition_point-after.result c.requires
    c.partition_point-after.ensures.bound point)
