-- A list that is written from an item on.
use Rattle.std.proofs.Common.{◌≡◌, ◌+◌, ◌-◌, ◌<◌, ◌≤◌, ℕ, suc, List, [], ◌∷◌, drop, slice_set, ap, refl, arith, Result, Ok, Err}
use Rattle.std.proofs.Math.Seq.{drop-nil}
use Rattle.acpi_c_lib.specs.Words.{Refusal, items_from, items_said, put_from}

-- one item before it, and one from there on
pub not_yet : {X : Type 0} (out : List X) (count from : ℕ) (x : X) (xs : List X) → count < from
    → put_from out (count - from) (drop (from - count) (x ∷ xs))
    ≡ put_from out (count + 1 - from) (drop (from - (count + 1)) xs)
not_yet out count from x xs before =
    let one : from - count ≡ suc (from - (count + 1)) = omega (arith, before) in
    let none : count - from ≡ 0 = omega (arith, before) in
    let next : count + 1 - from ≡ 0 = omega (arith, before) in
    rw (one, none, next) refl

pub from_there : {X : Type 0} (out : List X) (count from : ℕ) (x : X) (xs : List X) → from ≤ count
    → put_from out (count - from) (drop (from - count) (x ∷ xs))
    ≡ put_from (slice_set out (count - from) x) (count + 1 - from) (drop (from - (count + 1)) xs)
from_there out count from x xs after =
    let none : from - count ≡ 0 = omega (arith, after) in
    let still : from - (count + 1) ≡ 0 = omega (arith, after) in
    let next : count + 1 - from ≡ count - from + 1 = omega (arith, after) in
    rw (none, still, next) refl

pub none_left : {X : Type 0} (out : List X) (count from : ℕ)
    → put_from out (count - from) (drop (from - count) []) ≡ out
none_left {X} out count from = ap (put_from out (count - from)) (drop-nil (from - count))

-- where no item was counted
pub from_first : {X : Type 0} (out : List X) (from : ℕ) (xs : List X)
    → put_from out (0 - from) (drop (from - 0) xs) ≡ put_from out 0 (drop from xs)
from_first out from xs =
    let none : 0 - from ≡ 0 = omega arith in
    let all : from - 0 ≡ from = omega arith in
    rw (none, all) refl

-- all of a list from its first item on
pub all_from : {X : Type 0} (expected : Result (List X) Refusal) → items_from 0 expected ≡ items_said expected
all_from (Ok xs) = refl
all_from (Err e) = refl
