-- Pairs of arguments.
use Rattle.std.proofs.Common.{◌≡◌, ℕ, ◌<◌, ◌≤◌, List, [], ◌∷◌, ◌++◌, None, length, map, refl, arith, Option, option_map}
use Rattle.acpi_base.specs.FromStd.{Bor}
use Rattle.acpi_pack_lib.specs.Words.{addresses_in, names_in}
use Rattle.acpi_pack_lib.proofs.arguments.parse_memory.Given as goal

-- addresses, and those after them
abbrev pub behind : List ℕ → Option (List ℕ) → Option (List ℕ)
behind addresses rest = option_map (λ more. addresses ++ more) rest

abbrev pub texts_of : List (Bor (List ℕ)) → List (List ℕ)
texts_of words = map (λ w. w.now) words

-- the pairs so far, and those to come
pub record SoFar (addresses : List ℕ) (names rest words : List (Bor (List ℕ))) : Type 0 where
  pub addressed : behind addresses (addresses_in (texts_of rest)) ≡ addresses_in (texts_of words)
  pub named : texts_of names ++ names_in (texts_of rest) ≡ names_in (texts_of words)

abbrev pub invariant-pairs : goal.invariant-pairs
invariant-pairs l = SoFar l.addresses.items l.names.items l.rest l.words

abbrev pub decreases-pairs : goal.decreases-pairs
decreases-pairs l = length l.rest

-- an argument is left that has no second
pub alone : (rest : List (Bor (List ℕ))) → 1 ≤ length rest → length rest < 2 → addresses_in (texts_of rest) ≡ None
alone [] some less = absurd (omega arith)
alone (a ∷ []) some less = refl
alone (a ∷ b ∷ rest) some less = absurd (omega arith)
