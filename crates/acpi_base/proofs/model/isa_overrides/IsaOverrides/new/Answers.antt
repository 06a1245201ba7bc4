use Rattle.std.proofs.Common.{replicate, arith}
use Rattle.acpi_base.proofs.Isa.{all_alike, nothing_counted, nothing_gathered}
use Rattle.acpi_base.proofs.model.isa_overrides.IsaOverrides.new.Goals as goal

pub invariant_of-result : goal.invariant_of-result
invariant_of-result c = nothing_counted (replicate 17 0) 256 (omega arith) (λ number. all_alike 17 number 0)

pub returns : goal.returns
returns c = nothing_gathered 16 256
