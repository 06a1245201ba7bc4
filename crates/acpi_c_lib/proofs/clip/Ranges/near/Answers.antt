use Rattle.std.proofs.Common.{rules, leb}
use Rattle.acpi_base.proofs.FromStd.{IsPartitionPoint-from_clause}
use Rattle.acpi_c_lib.proofs.RangeSearch.{near_next, near_rest, passes_before}
use Rattle.acpi_c_lib.proofs.clip.Ranges.near.Goals as goal

pub returns-then-after-self-clause-held : goal.returns-then-after-self-clause-held
returns-then-after-self-clause-held c =
    let rs = c.args.self.all.now in
    let a = c.args.address in
    let point = IsPartitionPoint-from_clause (λ r. leb r.address a) _ _ c.partition_point-after.ensures.partitioned
    (λ i j d. passes_before rs a i j d c.args.self.ascending) (λ x r f k. search rules) in
    rw c.saturating_sub-first.ensures (
    near_next rs a c.partition_point-after.result c.args.self.ascending c.if-after-self.true point
    ).0

pub returns-then-after-self-clause-next : goal.returns-then-after-self-clause-next
returns-then-after-self-clause-next c =
    let rs = c.args.self.all.now in
    let a = c.args.address in
    let point = IsPartitionPoint-from_clause (λ r. leb r.address a) _ _ c.partition_point-after.ensures.partitioned
    (λ i j d. passes_before rs a i j d c.args.self.ascending) (λ x r f k. search rules) in
    rw c.saturating_sub-first.ensures (
    near_next rs a c.partition_point-after.result c.args.self.ascending c.if-after-self.true point
    ).1

pub returns-else-after-self-clause-held : goal.returns-else-after-self-clause-held
returns-else-after-self-clause-held c =
    let rs = c.args.self.all.now in
    let a = c.args.address in
    let point = IsPartitionPoint-from_clause (λ r. leb r.address a) _ _ c.partition_point-after.ensures.partitioned
    (λ i j d. passes_before rs a i j d c.args.self.ascending) (λ x r f k. search rules) in
    rw c.saturating_sub-first.ensures (
    near_rest rs a c.partition_point-after.result c.args.self.ascending c.partition_point-after.ensures.bound point
    ).0

pub returns-else-after-self-clause-next : goal.returns-else-after-self-clause-next
returns-else-after-self-clause-next c =
    let rs = c.args.self.all.now in
    let a = c.args.address in
    let point = IsPartitionPoint-from_clause (λ r. leb r.address a) _ _ c.partition_point-after.ensures.partitioned
    (λ i j d. passes_before rs a i j d c.args.self.ascending) (λ x r f k. search rules) in
    rw c.saturating_sub-first.ensures (
    near_rest rs a c.partition_point-after.result c.args.self.ascending c.partition_point-after.ensures.bound point
    ).1
