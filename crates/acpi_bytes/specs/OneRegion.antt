-- A memory of one region.
use Rattle.std.specs.Prelude.{ℕ, List, [], ◌∷◌}
use Rattle.acpi_bytes.specs.Memory.{Memory}

-- these bytes, from this address on, and nothing else
abbrev pub one_region : ℕ → List ℕ → Memory
one_region start bytes = record { start = start; bytes = bytes } ∷ []
