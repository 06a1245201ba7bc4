-- The answer of blocks one after another is that of the first with types, or else the first that isn't `Absent`.
use Rattle.std.proofs.Common.{◌≡◌, ℕ, List, [], ◌∷◌, Ok, Err, refl, ap}
use Rattle.std.specs.Prelude.{All}
use Rattle.acpi_base.proofs.FromStd.{All-cons, All-head, All-nil, All-tail}
use Rattle.acpi_sleep.specs.Words.{Absent, Answer, AnswerIsFirst, FirstTypes, FirstUnknown, HasNoTypes, IsFirstAnswer, NotSeen, SleepError, SleepTypes, Types, first_answer, or_after}

absent_has_none : HasNoTypes (Ok Absent)
absent_has_none types same = cc

not_seen_has_none : (at : ℕ) → HasNoTypes (Ok (NotSeen at))
not_seen_has_none at types same = cc

error_has_none : (e : SleepError) → HasNoTypes (Err e)
error_has_none e types same = cc

absent_have_none : (answers : List Answer) → All (λ a. a ≡ Ok Absent) answers → All HasNoTypes answers
absent_have_none [] all = All-nil HasNoTypes
absent_have_none (a ∷ answers) all =
    let is_absent = All-head (λ a. a ≡ Ok Absent) a answers all in
    All-cons HasNoTypes a answers (λ types same. cc)
    (absent_have_none answers (All-tail (λ a. a ≡ Ok Absent) a answers all))

types_after : (answer : Answer) (answers : List Answer) (types : SleepTypes) → HasNoTypes answer
    → FirstTypes answers types → FirstTypes (answer ∷ answers) types
types_after answer answers types none first = record {
  front = answer ∷ first.front;
  back = first.back;
  split = ap (λ rest. answer ∷ rest) first.split;
  before = All-cons HasNoTypes answer first.front none first.before;
}

unknown_after : (answers : List Answer) (answer : Answer) → FirstUnknown answers answer
    → FirstUnknown (Ok Absent ∷ answers) answer
unknown_after answers answer first = record {
  front = Ok Absent ∷ first.front;
  back = first.back;
  split = ap (λ rest. Ok Absent ∷ rest) first.split;
  before = All-cons (λ a. a ≡ Ok Absent) (Ok Absent) first.front refl first.before;
  none = All-cons HasNoTypes (Ok Absent) answers absent_has_none first.none;
}

unknown_first : (answer : Answer) (answers : List Answer) → HasNoTypes answer → All HasNoTypes answers
    → FirstUnknown (answer ∷ answers) answer
unknown_first answer answers none others =
    record {
      front = [];
      back = answers;
      split = refl;
      before = All-nil (λ a. a ≡ Ok Absent);
      none = All-cons HasNoTypes answer answers none others;
    }

first_before : (answer : Answer) (answers : List Answer) (after : Answer) → IsFirstAnswer answers after
    → IsFirstAnswer (answer ∷ answers) (or_after answer after)
first_before (Ok (Types t)) answers after first =
    record { front = []; back = answers; split = refl; before = All-nil HasNoTypes }
first_before (Ok Absent) answers (Ok (Types t)) first = types_after (Ok Absent) answers t absent_has_none first
first_before (Ok Absent) answers (Ok Absent) first =
    All-cons (λ a. a ≡ Ok Absent) (Ok Absent) answers refl first
first_before (Ok Absent) answers (Ok (NotSeen at)) first = unknown_after answers (Ok (NotSeen at)) first
first_before (Ok Absent) answers (Err e) first = unknown_after answers (Err e) first
first_before (Ok (NotSeen i)) answers (Ok (Types t)) first =
    types_after (Ok (NotSeen i)) answers t (not_seen_has_none i) first
first_before (Ok (NotSeen i)) answers (Ok Absent) first =
    unknown_first (Ok (NotSeen i)) answers (not_seen_has_none i) (absent_have_none answers first)
first_before (Ok (NotSeen i)) answers (Ok (NotSeen at)) first =
    unknown_first (Ok (NotSeen i)) answers (not_seen_has_none i) first.none
first_before (Ok (NotSeen i)) answers (Err e) first =
    unknown_first (Ok (NotSeen i)) answers (not_seen_has_none i) first.none
first_before (Err x) answers (Ok (Types t)) first = types_after (Err x) answers t (error_has_none x) first
first_before (Err x) answers (Ok Absent) first =
    unknown_first (Err x) answers (error_has_none x) (absent_have_none answers first)
first_before (Err x) answers (Ok (NotSeen at)) first = unknown_first (Err x) answers (error_has_none x) first.none
first_before (Err x) answers (Err e) first = unknown_first (Err x) answers (error_has_none x) first.none

pub answer_is_first : AnswerIsFirst
answer_is_first [] = All-nil (λ a. a ≡ Ok Absent)
answer_is_first (answer ∷ answers) = first_before answer answers (first_answer answers) (answer_is_first answers)
