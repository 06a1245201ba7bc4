-- What holds of the cut of bytes into entries.
use Rattle.std.specs.Prelude.{◌≡◌, ℕ, List}
use Rattle.acpi_bytes.specs.Entries.{IsCut, cut}
use Rattle.acpi_bytes.specs.Types.{Grammar}

-- bytes are cut in one way at most
abbrev pub OneCut : Type 0
OneCut = (n : ℕ) (g : Grammar n) (bytes : List ℕ) (es fs : List (List ℕ)) (rest more : List ℕ)
    → IsCut g bytes es rest → IsCut g bytes fs more → (es ≡ fs) × (rest ≡ more)

-- and in the way that is computed
abbrev pub CutIsCut : Type 0
CutIsCut = (n : ℕ) (g : Grammar n) (bytes : List ℕ)
    → IsCut g bytes (cut g bytes).0 (cut g bytes).1
