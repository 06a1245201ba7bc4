use Rattle.std.proofs.Common.{arith}
use Rattle.acpi_base.proofs.FromStd.{nat_tests, ge_from_not_lt}
use Rattle.acpi_image_reader.proofs.start_index.last_up_to.Goals as goal

pub returns-in-Some-clause-last : goal.returns-in-Some-clause-last
returns-in-Some-clause-last g c =
    λ a upto some. ge_from_not_lt _ _ ((c.range.ensures.in_range tt).4 _ _ c.in-Some.ensures.steps a
    (tt, grind (arith, nat_tests)) some)
