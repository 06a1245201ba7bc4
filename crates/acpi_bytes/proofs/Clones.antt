-- Lists of clones.
use Rattle.std.proofs.Common.{◌≡◌, List, [], ◌∷◌, Contains, refl, arith, suc}
use Rattle.acpi_bytes.specs.FromStd.{AllZip}

-- if each clone of an item equals it, clones of the items in order are the items
pub clones_equal : {X : Type 0} (R : X → X → Type 0) (xs ys : List X) → ((x y : X) → Contains xs x → R x y → y ≡ x)
    → AllZip R xs ys → ys ≡ xs
clones_equal R [] [] same zip = refl
clones_equal R [] (y ∷ ys) same zip = absurd zip
clones_equal R (x ∷ xs) [] same zip = absurd zip
clones_equal R (x ∷ xs) (y ∷ ys) same zip =
    let here : y ≡ x = same x y (0, omega arith, refl) zip.0 in
    let rest : ys ≡ xs = clones_equal R xs ys (λ a b held. same a b (suc held.0, omega (arith, held.1), held.2))
    zip.1 in
    cc
