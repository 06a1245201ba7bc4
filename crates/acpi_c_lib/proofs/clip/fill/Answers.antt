use Rattle.std.proofs.Common.{arith}
use Rattle.acpi_c_lib.proofs.Clipping.{all_written, longer, writing_from, writing_more, writing_none}
use Rattle.acpi_c_lib.proofs.clip.fill.Goals as goal

pub loop-address-init : goal.loop-address-init
loop-address-init c = (
  writing_from _ _ _ _ _ c.next-address.ensures _ _ _ (writing_none _ _ _ _),
  c.next-address.ensures.there,
  omega arith,
)

pub loop-address-preserved : goal.loop-address-preserved
loop-address-preserved c =
    let here = c.loop-address.invariant.1 c.loop-address-test.true in
    let more = writing_more _ _ _ _ _ c.loop-address-test.true here c.next-next.ensures _ _ _
    c.loop-address.invariant.0 in
    let again = c.next-address-in-loop-address.ensures in (
      rw c.put.ensures (writing_from _ _ _ _ _ again _ _ _ more),
      again.there,
      omega (arith, longer _ _ _ _ _ c.loop-address-test.true here c.next-next.ensures, again.later),
    )

pub returns : goal.returns
returns c = all_written _ _ _ _ _ _ _ c.loop-address.invariant.0 c.loop-address-test.false
