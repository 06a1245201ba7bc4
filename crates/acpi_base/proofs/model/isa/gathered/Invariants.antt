use Rattle.std.proofs.Common.{take}
use Rattle.acpi_base.specs.Words.{IsGathered}
use Rattle.acpi_base.proofs.model.isa.gathered.Given as goal

-- those before the next one are gathered
abbrev pub invariant-loop-wiring : goal.invariant-loop-wiring
invariant-loop-wiring l = IsGathered (take l.wiring-index l.overrides) l.gathered
