-- Which regions start at which addresses.
use Rattle.std.specs.Prelude.{◌≡◌, ℕ, ◌==◌, ◌&&◌, nat_lt, if◌then◌else◌, List, [], ◌∷◌, length, Option, Some, None, option_map}
use Rattle.acpi_base.specs.FromStd.{BTreeMap, get, ×_prop, Unit-prop, AllByRecursion, AllByRecursion-prop, nat_cmp}
use Rattle.acpi_base.specs.Words.{Memory, AreApart, AreApart-prop}

-- no two regions share an address
abbrev pub AreAllApart : Memory → Type 0
AreAllApart [] = Unit {0}
AreAllApart (r ∷ m) = AllByRecursion (AreApart r) m × AreAllApart m

-- this fact has one proof at most
pub AreAllApart-prop : (m : Memory) → IsProp (AreAllApart m)
AreAllApart-prop [] = Unit-prop
AreAllApart-prop (r ∷ m) =
    ×_prop (AllByRecursion-prop (AreApart r) (AreApart-prop r) m) (AreAllApart-prop m)

-- the bytes of the first region that starts at an address and has some
unfoldable pub bytes_at : Memory → ℕ → Option (List ℕ)
bytes_at [] a = None
bytes_at (r ∷ m) a =
    if r.start == a && nat_lt 0 (length r.bytes) then Some r.bytes
    else bytes_at m a

-- at each address a map has, seen by view, the bytes of the region that starts there
abbrev pub ListsStarts : {X : Type 0} → (X → List ℕ) → BTreeMap ℕ X → Memory → Type 0
ListsStarts view starts m = (a : ℕ) → option_map view (get nat_cmp starts a) ≡ bytes_at m a
