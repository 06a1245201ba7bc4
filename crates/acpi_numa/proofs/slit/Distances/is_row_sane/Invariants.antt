use Rattle.std.proofs.Common.{ℕ, ◌<◌, IsTrue}
use Rattle.acpi_numa.specs.Words.{distance_of, fits, slit_bytes}
use Rattle.acpi_numa.proofs.slit.Distances.is_row_sane.Given as goal

-- the distances so far can be believed
abbrev pub invariant-loop-to : goal.invariant-loop-to
invariant-loop-to l = (to : ℕ) → to < l.to → IsTrue (fits l.from to (distance_of (slit_bytes l.self) l.from to))
