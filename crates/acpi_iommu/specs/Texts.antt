-- Texts in fields of a fixed place.
use Rattle.std.specs.Prelude.{ℕ, ◌==◌, not, List, take_while}

-- the bytes before the first zero, or all
abbrev pub up_to_zero : List ℕ → List ℕ
up_to_zero bytes = take_while (λ b. not (b == 0)) bytes
