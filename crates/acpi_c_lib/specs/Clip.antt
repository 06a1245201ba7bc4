-- Ranges of memory in order, some of them left out, clipped to a window.
use Rattle.std.specs.Prelude.{◌≡◌, ℕ, ◌+◌, ◌^◌, ◌<◌, ◌≤◌, ◌&&◌, not, nat_le, nat_lt, Bool, true, false, List, [], ◌∷◌, fold, length, min, if◌then◌else◌}
use Rattle.acpi_c_lib.specs.Answers.{put_from}
use Rattle.acpi_c_lib.specs.Codes.{code_of}
pub use Rattle.acpi_c_lib.specs.declared.records.Range.{Range}
use Rattle.acpi_c_lib.specs.Types.{AllByRecursion, list_all, list_any, RangeTooHigh}

-- the address after a range's last byte is 2^64 - 1 at most
abbrev pub fits : Range → Bool
fits r = nat_lt (r.address + r.length) (2 ^ 64)

abbrev pub all_fit : List Range → Bool
all_fit rs = list_all fits rs

-- a range holds an address
abbrev pub holds : ℕ → Range → Bool
holds a r = nat_le r.address a && nat_lt a (r.address + r.length)

-- one of several ranges holds an address
abbrev pub any_holds : ℕ → List Range → Bool
any_holds a rs = list_any (holds a) rs

-- a byte is in the window, in one of the ranges, and in none of those that are left out
abbrev pub wanted : List Range → List Range → Range → ℕ → Bool
wanted ranges without window a =
    holds a window && (any_holds a ranges && not (any_holds a without))

-- each has a byte, and ends before the next ones begin, with a gap
abbrev pub AreInOrder : List Range → Type 0
AreInOrder [] = Unit {0}
AreInOrder (r ∷ rs) =
    (0 < r.length) × AllByRecursion (λ s. r.address + r.length < s.address) rs × AreInOrder rs

-- these are in order, and hold the bytes that are wanted and no others
pub record IsClipped (ranges without : List Range) (window : Range) (xs : List Range) : Type 0 where
  pub ordered : AreInOrder xs
  pub same : (a : ℕ) → any_holds a xs ≡ wanted ranges without window a

-- there are such ranges, written as far as the capacity reaches, and this is how many
abbrev pub FillsClipped : List Range → List Range → ℕ → List Range → List Range → Range → Type 0
FillsClipped old new count ranges without window =
    (xs : List Range) × IsClipped ranges without window xs × (new ≡ put_from old 0 xs)
    × (count ≡ length xs)

-- each range begins where the one before ends, or after it
abbrev pub ascends_from : ℕ → List Range → Bool
ascends_from end [] = true
ascends_from end (r ∷ rs) = nat_le end r.address && ascends_from (r.address + r.length) rs

-- a list of ranges as it is afterwards: it ascends and holds the same memory, and one that ascends already is unchanged
pub record IsOrdered (old new : List Range) : Type 0 where
  pub ascends : ascends_from 0 new ≡ true
  pub same : (a : ℕ) → any_holds a new ≡ any_holds a old
  pub fit : all_fit new ≡ true
  pub kept : ascends_from 0 old ≡ true → new ≡ old

-- what C gets, by whether all ranges end at 2^64 - 1 at most: 0, the ranges, how many there are, and both lists put in
-- order; or the error's number, and nothing written
abbrev pub ClipsIf : Bool → ℕ → List Range → List Range → ℕ → ℕ → List Range → List Range → List Range → List Range
    → Range → Type 0
ClipsIf true status old new old_count new_count ranges new_ranges without new_without window =
    (status ≡ 0) × FillsClipped old new new_count ranges without window
    × IsOrdered ranges new_ranges × IsOrdered without new_without
ClipsIf false status old new old_count new_count ranges new_ranges without new_without window =
    (status ≡ code_of RangeTooHigh) × (new ≡ old) × (new_count ≡ old_count)
    × (new_ranges ≡ ranges) × (new_without ≡ without)

abbrev pub AnswersClip : ℕ → List Range → List Range → ℕ → ℕ → List Range → List Range → List Range → List Range
    → Range → Type 0
AnswersClip status old new old_count new_count ranges new_ranges without new_without window =
    ClipsIf (all_fit ranges && (all_fit without && fits window)) status old new old_count new_count
    ranges new_ranges without new_without window

-- ---- how the ranges are found

-- the next address after this one at which a range begins or has ended, or the limit if that comes before
abbrev pub change_of : Range → ℕ → ℕ → ℕ
change_of r a limit =
    if nat_lt a r.address then min r.address limit
    else if nat_lt a (r.address + r.length) then min (r.address + r.length) limit
    else limit

-- the next address after this one at which one of several ranges begins or has ended, or the limit
abbrev pub change_in : List Range → ℕ → ℕ → ℕ
change_in rs a limit = fold (λ first r. change_of r a first) limit rs

-- the next address from one on at which a byte is wanted, or isn't, or an address after the window
pub record IsNext (ranges without : List Range) (window : Range) (is_wanted : Bool) (from a : ℕ) : Type 0 where
  pub later : from ≤ a
  pub before : (b : ℕ) → from ≤ b → b < a → wanted ranges without window b ≡ not is_wanted
  pub there : a < window.address + window.length → wanted ranges without window a ≡ is_wanted
