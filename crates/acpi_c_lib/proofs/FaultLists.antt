-- The bytes of a table's entries.
use Rattle.std.proofs.Common.{◌≡◌, ◌+◌, ◌≤◌, ℕ, List, ◌∷◌, ◌++◌, drop, length, length-append, length-drop, ap, arith}
use Rattle.acpi_base.proofs.Words.{cut_is_cut}
use Rattle.acpi_c_lib.specs.Words.{Grammar, concat, after_one, cut, with_entry}

-- the bytes of an entry and those after it are all bytes
pub front_whole : (n : ℕ) (g : Grammar n) (rest e others : List ℕ)
    → cut g rest ≡ with_entry e (cut (after_one g) others)
    → length rest ≡ length e + length others
front_whole n g rest e others front =
    let all = cut_is_cut n g rest in
    let more = cut_is_cut n (after_one g) others in
    let left = (cut (after_one g) others).0 in
    let end = (cut (after_one g) others).1 in
    let here : rest ≡ concat (e ∷ left) ++ end = rw front at all.whole in
    let long = ap length here in
    let later = ap length more.whole in
    omega (
      arith,
      long,
      later,
      length-append (concat (e ∷ left)) end,
      length-append e (concat left),
      length-append (concat left) end,
    )

-- the bytes after the fixed ones
pub after_fixed : (fixed : ℕ) (table : List ℕ) → fixed ≤ length table
    → length (drop fixed table) + fixed ≡ length table
after_fixed fixed table long = omega (arith, length-drop fixed table, long)
