-- Sums in lanes.
use Rattle.std.specs.Prelude.{◌≡◌, ℕ, List, length}
use Rattle.acpi_bytes.specs.Bytes.{sum_of}

-- sixteen lanes that add up to what these bytes do, modulo 256
abbrev pub AddsUp : List ℕ → List ℕ → Type 0
AddsUp lanes bytes = (length lanes ≡ 16) × (sum_of lanes ≡ sum_of bytes)
