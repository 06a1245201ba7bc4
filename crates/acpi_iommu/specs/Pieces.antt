-- How bytes are cut into pieces, each of which has its length in its first bytes, and what a walk along them
-- shows.
use Rattle.std.specs.Prelude.{◌≡◌, ◌↔◌, ℕ, ◌≤◌, ◌&&◌, ◌++◌, Bool, nat_le, List, [], ◌∷◌, length, take, Option, Some, None, Result, Ok, Err, option_and_then, if◌then◌else◌}
use Rattle.acpi_base.specs.Words.{IsCutOf, cut_by, is_left}
use Rattle.acpi_iommu.specs.declared.error.IommuError.{IommuError}
use Rattle.acpi_iommu.specs.declared.error.IommuError.TheVariants.{InvalidStructureLength}
use Rattle.acpi_iommu.specs.declared.pieces.PieceIter.{PieceIter}

-- ---- one piece

-- the length that is in a piece, if it is the least at least
abbrev pub valid_length : ℕ → ℕ → Option ℕ
valid_length least size = if nat_le least size then Some size else None

-- the length of the piece at the front of bytes, if a piece begins there: at least 1, and no more than there are bytes
abbrev pub front : (List ℕ → Option ℕ) → List ℕ → Option ℕ
front size bytes =
    option_and_then (λ n. if nat_le 1 n && nat_le n (length bytes) then Some n else None) (size bytes)

-- bytes that are one piece
abbrev pub IsPiece : (List ℕ → Option ℕ) → List ℕ → Type 0
IsPiece size p = front size p ≡ Some (length p)

-- a piece has its length in its own bytes, whatever comes after them
abbrev pub SaysItself : (List ℕ → Option ℕ) → Type 0
SaysItself size = (bytes more : List ℕ) (n : ℕ) → size bytes ≡ Some n → n ≤ length bytes
    → size (take n bytes ++ more) ≡ Some n

-- ---- all pieces

-- the bytes are the pieces one after the other, and a rest that begins with no piece
abbrev pub IsCut : (List ℕ → Option ℕ) → List ℕ → List (List ℕ) → List ℕ → Type 0
IsCut size bytes ps rest = IsCutOf (IsPiece size) None bytes ps rest

-- the pieces, and the rest; there are no more pieces than bytes
unfoldable pub pieces : (List ℕ → Option ℕ) → List ℕ → List (List ℕ) × List ℕ
pieces size bytes = cut_by (front size) (length bytes) bytes

-- there is one such cut of bytes, and it is the computed one
abbrev pub OneCut : (List ℕ → Option ℕ) → Type 0
OneCut size = (bytes : List ℕ) (ps : List (List ℕ)) (rest : List ℕ)
    → IsCut size bytes ps rest ↔ (pieces size bytes ≡ (ps, rest))

-- ---- a lookup

-- what the first piece contains that has a value; a piece before it that may have one that isn't in it, and without one
-- a rest in which no piece begins, is an error
abbrev pub first_sure : {A : Type 0} → (List ℕ → Option A) → (List ℕ → Bool) → List (List ℕ) → List ℕ
    → Result (Option A) IommuError
first_sure says is_sure [] [] = Ok None
first_sure says is_sure [] (b ∷ rest) = Err InvalidStructureLength
first_sure says is_sure (p ∷ ps) rest = elim (says p) [
  | Some a ↦ Ok (Some a)
  | None ↦ if is_sure p then first_sure says is_sure ps rest else Err InvalidStructureLength
]

-- ---- a walk

-- the pieces that are still to come
abbrev pub left : {K : Type 0} → (List ℕ → Option ℕ) → PieceIter K → List (List ℕ)
left size s = (pieces size s.rest.now).0

-- the rest after them
abbrev pub rest_after : {K : Type 0} → (List ℕ → Option ℕ) → PieceIter K → List ℕ
rest_after size s = (pieces size s.rest.now).1

-- the bytes that it hasn't returned
abbrev pub bytes_left : {K : Type 0} → PieceIter K → List ℕ
bytes_left s = s.rest.now

-- whether it has returned that no piece is left
abbrev pub has_ended : {K : Type 0} → PieceIter K → Bool
has_ended s = s.ended

-- whether it ended before the bytes did: what `ended_malformed` returns, which is no until the walk has returned None
abbrev pub is_malformed : {K : Type 0} → PieceIter K → Bool
is_malformed s = s.ended && is_left s.rest.now

-- a step leaves the rest as it is, and has ended exactly if it returns no piece
abbrev pub EndsAtRest : {K P : Type 0} → (List ℕ → Option ℕ) → PieceIter K → Option P → PieceIter K → Type 0
EndsAtRest size s (Some p) t = (rest_after size t ≡ rest_after size s) × (has_ended t ≡ has_ended s)
EndsAtRest size s None t =
    (rest_after size t ≡ rest_after size s) × (is_malformed t ≡ is_left (rest_after size s))
