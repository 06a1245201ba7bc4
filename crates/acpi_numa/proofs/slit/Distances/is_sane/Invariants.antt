use Rattle.std.proofs.Common.{ℕ, ◌<◌}
use Rattle.acpi_numa.specs.Words.{IsRowSane, slit_bytes}
use Rattle.acpi_numa.proofs.slit.Distances.is_sane.Given as goal

-- the rows so far can be believed
abbrev pub invariant-loop-from : goal.invariant-loop-from
invariant-loop-from l = (from : ℕ) → from < l.from → IsRowSane (slit_bytes l.self) from
