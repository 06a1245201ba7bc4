use Rattle.std.proofs.Common.{arith, ◌<◌, length}
use Rattle.acpi_base.proofs.FromStd.{common_steps, map-append}
use Rattle.acpi_image_reader.proofs.Images.{handed_on, reading_begins, reading_ends, reading_goes_on, reading_refuses, reading_runs_out}
use Rattle.acpi_image_reader.proofs.reader.records_of.Goals as goal

pub loop-rest-init : goal.loop-rest-init
loop-rest-init g c = rw c.none-records.ensures (reading_begins _ (λ i. (c.type_inv.bytes i).fits))

pub returns : goal.returns
returns g c = reading_ends _ _ _ (grind (arith, common_steps)) c.loop-rest.invariant

pub returns-in_err-next : goal.returns-in_err-next
returns-in_err-next g c =
    let left : 0 < length c.loop-rest.rest.now = grind (arith, common_steps) in
    handed_on _ _ _ _ _ c.from_residual.ensures.1
    (reading_refuses _ _ _ left _ c.in_err-next.ensures.named c.in_err-next.ensures.exact c.loop-rest.invariant)

pub returns-in_err-records : goal.returns-in_err-records
returns-in_err-records g c =
    let left : 0 < length c.loop-rest.rest.now = grind (arith, common_steps) in
    handed_on _ _ _ _ _ c.from_residual-in_err-records.ensures.1
    (rw c.in_err-records.ensures.refused
    (reading_runs_out _ _ _ left _ c.in_ok-next.ensures.exact c.loop-rest.invariant))

pub loop-rest-preserved : goal.loop-rest-preserved
loop-rest-preserved g c =
    let left : 0 < length c.loop-rest.rest.now = grind (arith, common_steps) in
    rw (c.in_ok-records.ensures.kept, map-append)
    (reading_goes_on _ _ _ left _ c.in_ok-next.ensures.exact c.loop-rest.invariant)
