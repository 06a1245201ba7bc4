-- How a table's bytes are cut into entries, each of which has its type and its length near its front.
-- What tables differ in is a value, a grammar: where the type and the length are, the least length
-- of each type, and how many entries there are at most.
use Rattle.std.specs.Prelude.{◌≡◌, ℕ, zero, suc, ◌+◌, ◌-◌, ◌*◌, ◌≤◌, ◌&&◌, Bool, true, false, List, [], ◌∷◌, ◌++◌, length, take, drop, Option, Some, None, nat_le, if◌then◌else◌, slice_index, slice_index_or, option_map, unwrap_or}
use Rattle.acpi_bytes.specs.FromStd.{concat, AllByRecursion}
use Rattle.acpi_bytes.specs.Types.{EntryLayout, Grammar, Place, Width, One, Two, Four}

-- ---- one entry

abbrev pub width_of : Width → ℕ
width_of One = 1
width_of Two = 2
width_of Four = 4

-- where a number ends
abbrev pub end_of : Place → ℕ
end_of p = p.at + width_of p.width

-- the number of two bytes from an offset on, the lower one first; a byte past the end is zero
abbrev pub two_at : ℕ → List ℕ → ℕ
two_at at bytes = slice_index bytes at + 256 * slice_index bytes (at + 1)

-- the number of these bytes from an offset on, the lowest first
abbrev pub number_in : Width → ℕ → List ℕ → ℕ
number_in One at bytes = slice_index bytes at
number_in Two at bytes = two_at at bytes
number_in Four at bytes = two_at at bytes + 65536 * two_at (at + 2) bytes

abbrev pub number_at : Place → List ℕ → ℕ
number_at p bytes = number_in p.width p.at bytes

-- the least length of an entry of a type, which the list has from type 0 on
abbrev pub least_length : {n : ℕ} → EntryLayout n → ℕ → ℕ
least_length l entry_type = slice_index_or l.least_lengths entry_type l.least_of_others

-- an entry: it has a type and a length, which is that of its bytes, and is long enough for its type
pub record IsEntry {n : ℕ} (l : EntryLayout n) (e : List ℕ) : Type 0 where
  pub entry_type : end_of l.kind_place ≤ length e
  pub header : end_of l.length_place ≤ length e
  pub size : number_at l.length_place e ≡ length e
  pub least : least_length l (number_at l.kind_place e) ≤ length e

-- ---- all entries

-- that many are no more than there may be
abbrev pub IsFew : Option ℕ → ℕ → Type 0
IsFew most n = (bound : ℕ) → most ≡ Some bound → n ≤ bound

-- the bytes are pieces one after the other, and a rest that begins with none, unless there are as many as there may be
pub record IsCutOf (Is : List ℕ → Type 0) (most : Option ℕ) (bytes : List ℕ) (es : List (List ℕ)) (rest : List ℕ)
    : Type 0 where
  pub whole : bytes ≡ concat es ++ rest
  pub entries : AllByRecursion Is es
  pub few : IsFew most (length es)
  pub ends : (e more : List ℕ) → rest ≡ e ++ more → Is e → most ≡ Some (length es)

-- the pieces are entries. What to believe of `cut` is that it is such a cut, and the only one (`EntryLaws`)
abbrev pub IsCut : {n : ℕ} → Grammar n → List ℕ → List (List ℕ) → List ℕ → Type 0
IsCut g bytes es rest = IsCutOf (IsEntry g.layout) g.most bytes es rest

-- ---- computed

-- the length of the entry that the bytes begin with
unfoldable pub front : {n : ℕ} → EntryLayout n → List ℕ → Option ℕ
front l bytes =
    let size = number_at l.length_place bytes in
    if nat_le (end_of l.kind_place) size && nat_le (end_of l.length_place) size
    && nat_le (least_length l (number_at l.kind_place bytes)) size
    && nat_le size (length bytes)
    then Some size else None

-- whether no entry may come
abbrev pub is_full : Option ℕ → Bool
is_full None = false
is_full (Some zero) = true
is_full (Some (suc more)) = false

-- the length of the entry that comes first, if one may come
unfoldable pub next_front : {n : ℕ} → Grammar n → List ℕ → Option ℕ
next_front g bytes = if is_full g.most then None else front g.layout bytes

-- an entry before the ones that follow it
abbrev pub with_entry : List ℕ → List (List ℕ) × List ℕ → List (List ℕ) × List ℕ
with_entry e others = (e ∷ others.0, others.1)

-- at most that many pieces, each as long as `size` is of the bytes from it on, and the bytes after them
abbrev pub cut_by : (List ℕ → Option ℕ) → ℕ → List ℕ → List (List ℕ) × List ℕ
cut_by size zero bytes = ([], bytes)
cut_by size (suc most) bytes = elim (size bytes) [
  | Some n ↦ with_entry (take n bytes) (cut_by size most (drop n bytes))
  | None ↦ ([], bytes)
]

-- the entries, and the rest; without a bound there are no more of them than bytes
unfoldable pub cut : {n : ℕ} → Grammar n → List ℕ → List (List ℕ) × List ℕ
cut g bytes = cut_by (front g.layout) (unwrap_or g.most (length bytes)) bytes

-- the grammar of the entries that follow one: one less may come
abbrev pub after_one : {n : ℕ} → Grammar n → Grammar n
after_one g = record { layout = g.layout; most = option_map (λ most. most - 1) g.most }
