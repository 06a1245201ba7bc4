use Rattle.std.proofs.Common.{subst, sym}
use Rattle.acpi_base.proofs.FromStd.{take_all, take_more}
use Rattle.acpi_base.specs.Words.{IsGathered}
use Rattle.acpi_base.proofs.model.isa.gathered.Goals as goal

pub loop-wiring-preserved : goal.loop-wiring-preserved
loop-wiring-preserved c =
    subst (λ xs. IsGathered xs c.add.new.self)
    (sym (take_more c.args.overrides.now c.loop-wiring.wiring-index _ c.loop-wiring-test.true))
    (c.add.ensures _ c.loop-wiring.invariant)

pub returns : goal.returns
returns c = rw (take_all _ _ c.loop-wiring-test.false) at c.loop-wiring.invariant
