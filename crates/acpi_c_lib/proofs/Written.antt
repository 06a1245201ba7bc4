-- Lists that are written, in one part or in two, and how many items they have at most.
use Rattle.std.proofs.Common.{◌≡◌, ◌∙◌, ◌+◌, ℕ, List, [], ◌∷◌, ◌++◌, length, length-append, slice_set, ap, sym, arith, map, ◌<◌, ◌≤◌, Option, filter_map}
use Rattle.acpi_base.proofs.FromStd.{append-nil, length-map}
use Rattle.acpi_c_lib.specs.Words.{Writes, put_from, IsBytes, IsEntry, number_in, Width, One, Two, Four, EntryLayout}
use Rattle.acpi.proofs.First.{filter_map_few}

-- what is written from where the first part ends on is the second part
pub put_parts : {X : Type 0} (old : List X) (n : ℕ) (xs ys : List X)
    → put_from old n (xs ++ ys) ≡ put_from (put_from old n xs) (n + length xs) ys
put_parts old n [] ys = ap (λ k. put_from old k ys) (omega arith)
put_parts old n (x ∷ xs) ys = put_parts (slice_set old n x) (n + 1) xs ys
    ∙ ap (λ k. put_from (put_from (slice_set old n x) (n + 1) xs) k ys) (omega arith)

pub two_parts : {X : Type 0} (old mid new xs ys : List X) (n k : ℕ) → mid ≡ put_from old 0 xs → n ≡ 0 + length xs
    → new ≡ put_from mid n ys → k ≡ n + length ys → Writes k old new (xs ++ ys)
two_parts old mid new xs ys n k first counted second all = (
  omega (arith, all, counted, length-append xs ys),
  second ∙ ap (λ x. put_from x n ys) first ∙ ap (λ i. put_from (put_from old 0 xs) i ys) counted
      ∙ sym (put_parts old 0 xs ys),
)

pub one_part : {X : Type 0} (old new xs : List X) (n : ℕ) → new ≡ put_from old 0 xs → n ≡ 0 + length xs
    → Writes n old new (xs ++ [])
one_part old new xs n first counted = rw (append-nil xs) (omega (arith, counted), first)

-- no more have a record than there are items
pub found_few : {X Y Z : Type 0} (f : Y → Z) (g : X → Option Y) (xs : List X)
    → length (map f (filter_map g xs)) ≤ length xs
found_few f g xs = omega (arith, length-map (filter_map g xs) f, filter_map_few g xs)

-- ---- entries of any table

-- a number of at most four bytes
pub number_small : (w : Width) (at : ℕ) (bytes : List ℕ) → IsBytes bytes → number_in w at bytes < 4294967296
number_small One at bytes h = omega (arith, h at)
number_small Two at bytes h = omega (arith, h at, h (at + 1))
number_small Four at bytes h = omega (arith, h at, h (at + 1), h (at + 2), h (at + 3))

pub entry_small : (l : EntryLayout 0) (e : List ℕ) → IsBytes e → IsEntry l e → length e < 4294967296
entry_small l e h entry = omega (arith, number_small l.length_place.width l.length_place.at e h, entry.size)
