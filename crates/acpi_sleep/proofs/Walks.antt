-- Steps of the loops.
use Rattle.std.proofs.Common.{◌≡◌, ◌≢◌, take, drop, ℕ, zero, suc, ◌+◌, ◌-◌, ◌<◌, ◌≤◌, true, false, cond, List, length, Option, Some, None, Result, Ok, Err, refl, sym, ap, ◌∙◌, arith, leb, eqb}
use Rattle.std.proofs.lemmas.Bool.{eq-eqb, le-leb, lt-leb, ne_eqb}
use Rattle.std.proofs.lemmas.List.{drop_more}
use Rattle.std.specs.Prelude.{◌==◌, ◌||◌}
use Rattle.acpi_base.specs.Words.{field_of, number}
use Rattle.acpi_bytes.specs.Steps.{◌>>=◌}
use Rattle.std.specs.Option.{option_or}
use Rattle.acpi_sleep.specs.Words.{Absent, AmlError, Found, IsAnswer, IsReached, NotSeen, On, Place, SleepAnswer, SleepTypes, Step, Types, Unseen, after_step, after_unseen, answer_past, argument_end, arguments_end, at_start, byte_at, contains_name, is_operator, operand_end, first_place, segment_end, segments_end, sleep_types_of, step_at, walked}

-- what is left after one that succeeded
after_one : {A B : Type 0} (r : Result A AmlError) (f : A → Result B AmlError) (x : A) → r ≡ Ok x → (r >>= f) ≡ f x
after_one r f x e = ap (λ r. r >>= f) e

-- one segment before those that are left
pub one_segment : (i count : ℕ) (aml : List ℕ) (at end : ℕ) → i < count → segment_end aml at ≡ Ok end
    → segments_end (count - i) aml at ≡ segments_end (count - (i + 1)) aml end
one_segment i count aml at end less e =
    let n : count - i ≡ suc (count - (i + 1)) = omega arith in
    ap (λ k. segments_end k aml at) n ∙ after_one (segment_end aml at)
    (λ next. segments_end (count - (i + 1)) aml next) end e

-- ---- a name in bytes

contains_next : (code : ℕ) (bytes : List ℕ) (i : ℕ) → i < length bytes → contains_name code (drop i bytes)
    ≡ ((field_of bytes i 4 == code) || contains_name code (drop (i + 1) bytes))
unfolding field_of
contains_next code bytes i less =
    let h = drop_more bytes i 0 less in
    ap (contains_name code) h
    ∙ ap (λ l. (number (take 4 l) == code) || contains_name code (drop (i + 1) bytes)) (sym h)

pub contains_here : (code : ℕ) (bytes : List ℕ) (i n : ℕ)
    → contains_name code (drop i bytes) ≡ contains_name code bytes → i < length bytes → n ≡ field_of bytes i 4
    → n ≡ code → true ≡ contains_name code bytes
contains_here code bytes i n left less is same =
    let here : (field_of bytes i 4 == code) ≡ true = ap (λ n. n == code) (sym is) ∙ eq-eqb n code same in
    sym (ap (λ b. b || contains_name code (drop (i + 1) bytes)) here) ∙ sym (contains_next code bytes i less) ∙ left

pub contains_later : (code : ℕ) (bytes : List ℕ) (i n : ℕ)
    → contains_name code (drop i bytes) ≡ contains_name code bytes → i < length bytes → n ≡ field_of bytes i 4
    → n ≢ code → contains_name code (drop (i + 1) bytes) ≡ contains_name code bytes
contains_later code bytes i n left less is other =
    let here : (field_of bytes i 4 == code) ≡ false = ap (λ n. n == code) (sym is) ∙ ne_eqb n code other in
    sym (ap (λ b. b || contains_name code (drop (i + 1) bytes)) here) ∙ sym (contains_next code bytes i less) ∙ left

pub ruleset search_steps = (contains_here, contains_later)

-- ---- an argument

-- some number of steps is enough for those that are left, and where these end is where the argument does
pub record Argues (aml : List ℕ) (at left end : ℕ) : Type 0 where
  pub steps : ℕ
  pub enough : length aml < end + steps
  pub same : arguments_end steps left aml end ≡ argument_end aml at

-- what follows the first byte of one, if others are left after it
abbrev pub after_lead : ℕ → ℕ → List ℕ → ℕ → ℕ → Result ℕ AmlError
after_lead more left aml end lead =
    cond (is_operator lead) (arguments_end more (left + 2) aml (end + 1))
    (operand_end aml end >>= (λ next. arguments_end more (left - 1) aml next))

pub one_argument : (more left : ℕ) (aml : List ℕ) (end : ℕ) → 0 < left
    → arguments_end (suc more) left aml end ≡ (byte_at aml end >>= after_lead more left aml end)
one_argument more left aml end some =
    let fails : eqb left 0 ≡ false = ne_eqb left 0 (λ e. omega arith) in
    ap (λ b. cond b (Ok end) (byte_at aml end >>= after_lead more left aml end)) fails

argues_step : (aml : List ℕ) (at left end : ℕ) (f : Argues aml at left end) → 0 < left → end ≤ length aml
    → (byte_at aml end >>= after_lead (f.steps - 1) left aml end) ≡ argument_end aml at
argues_step aml at left end f some within =
    let n : f.steps ≡ suc (f.steps - 1) = omega (arith, f.enough) in
    sym (one_argument (f.steps - 1) left aml end some) ∙ sym (ap (λ k. arguments_end k left aml end) n) ∙ f.same

argues_lead : (aml : List ℕ) (at left end lead : ℕ) (f : Argues aml at left end) → 0 < left → end ≤ length aml
    → byte_at aml end ≡ Ok lead → after_lead (f.steps - 1) left aml end lead ≡ argument_end aml at
argues_lead aml at left end lead f some within e =
    sym (after_one (byte_at aml end) (after_lead (f.steps - 1) left aml end) lead e) ∙ argues_step aml at left end f
    some within

pub argues_start : (aml : List ℕ) (at : ℕ) → Argues aml at 1 at
unfolding argument_end
argues_start aml at = record { steps = length aml + 1; enough = omega arith; same = refl }

pub argues_operator : (aml : List ℕ) (at left end lead : ℕ) → Argues aml at left end → 0 < left → end ≤ length aml
    → byte_at aml end ≡ Ok lead → is_operator lead ≡ true → Argues aml at (left + 2) (end + 1)
argues_operator aml at left end lead f some within e is = record {
  steps = f.steps - 1;
  enough = omega (arith, f.enough, within);
  same = sym (ap (λ b. cond b (arguments_end (f.steps - 1) (left + 2) aml (end + 1))
      (operand_end aml end >>= (λ next. arguments_end (f.steps - 1) (left - 1) aml next))) is) ∙ argues_lead aml at
      left end lead f some within e;
}

argues_other : (aml : List ℕ) (at left end lead : ℕ) (f : Argues aml at left end) → 0 < left → end ≤ length aml
    → byte_at aml end ≡ Ok lead → is_operator lead ≡ false
    → (operand_end aml end >>= (λ next. arguments_end (f.steps - 1) (left - 1) aml next)) ≡ argument_end aml at
argues_other aml at left end lead f some within e is =
    sym (ap (λ b. cond b (arguments_end (f.steps - 1) (left + 2) aml (end + 1))
    (operand_end aml end >>= (λ next. arguments_end (f.steps - 1) (left - 1) aml next))) is) ∙ argues_lead aml at
    left end lead f some within e

pub argues_operand : (aml : List ℕ) (at left end lead next : ℕ) → Argues aml at left end → 0 < left
    → end ≤ length aml → byte_at aml end ≡ Ok lead → is_operator lead ≡ false → operand_end aml end ≡ Ok next
    → end < next → Argues aml at (left - 1) next
argues_operand aml at left end lead next f some within e is o later = record {
  steps = f.steps - 1;
  enough = omega (arith, f.enough, within, later);
  same = sym (after_one (operand_end aml end) (λ next. arguments_end (f.steps - 1) (left - 1) aml next) next o) ∙
      argues_other aml at left end lead f some within e is;
}

pub argues_no_operand : (aml : List ℕ) (at left end lead : ℕ) (error : AmlError) → Argues aml at left end
    → 0 < left → end ≤ length aml → byte_at aml end ≡ Ok lead → is_operator lead ≡ false
    → operand_end aml end ≡ Err error → Err error ≡ argument_end aml at
argues_no_operand aml at left end lead error f some within e is o =
    sym (ap (λ r. r >>= (λ next. arguments_end (f.steps - 1) (left - 1) aml next)) o) ∙ argues_other aml at left end
    lead f some within e is

pub argues_no_byte : (aml : List ℕ) (at left end : ℕ) (error : AmlError) → Argues aml at left end → 0 < left
    → end ≤ length aml → byte_at aml end ≡ Err error → Err error ≡ argument_end aml at
argues_no_byte aml at left end error f some within e =
    sym (ap (λ r. r >>= after_lead (f.steps - 1) left aml end) e) ∙ argues_step aml at left end f some within

none_left : (steps : ℕ) (aml : List ℕ) (end : ℕ) → arguments_end steps 0 aml end ≡ Ok end
none_left zero aml end = refl
none_left (suc more) aml end = refl

pub argues_end : (aml : List ℕ) (at left end : ℕ) → Argues aml at left end → left ≡ 0 → Ok end ≡ argument_end aml at
argues_end aml at left end f none = sym (none_left f.steps aml end) ∙ sym
    (ap (λ n. arguments_end f.steps n aml end) none) ∙ f.same

pub ruleset argument_steps = (
  argues_start,
  argues_operator,
  argues_operand,
  argues_no_operand,
  argues_no_byte,
  argues_end,
)

-- ---- the walk

-- some number of steps is enough from a place, and what is answered in them is what is to be answered
pub record Finds (aml : List ℕ) (state : ℕ) (place : Place) (unseen : Option ℕ) : Type 0 where
  pub steps : ℕ
  pub enough : length aml ≤ place.at + steps
  pub same : walked steps aml state place unseen ≡ sleep_types_of aml state

-- what is answered after a step
abbrev pub found_after : ℕ → List ℕ → ℕ → ℕ → Option ℕ → Step → Result SleepAnswer AmlError
found_after more aml state at unseen s = elim s [
  | Found types ↦ Ok (Types types)
  | On next ↦ walked more aml state next unseen
  | Unseen next ↦ walked more aml state next (option_or unseen (Some at))
]

-- a step, where there are bytes left
one_step : (more : ℕ) (aml : List ℕ) (state : ℕ) (place : Place) (unseen : Option ℕ) → place.at < length aml
    → walked (suc more) aml state place unseen ≡
    (step_at aml state place >>= found_after more aml state place.at unseen)
one_step more aml state place unseen less =
    let fails : leb (length aml) place.at ≡ false = lt-leb (length aml) place.at less in
    ap (λ b. cond b (Ok (answer_past unseen))
    (step_at aml state place >>= found_after more aml state place.at unseen)) fails

-- one of the steps is left
finds_step : (aml : List ℕ) (state : ℕ) (place : Place) (unseen : Option ℕ) (f : Finds aml state place unseen)
    → place.at < length aml
    → (step_at aml state place >>= found_after (f.steps - 1) aml state place.at unseen) ≡ sleep_types_of aml state
finds_step aml state place unseen f less =
    let n : f.steps ≡ suc (f.steps - 1) = omega (arith, f.enough) in
    sym (one_step (f.steps - 1) aml state place unseen less) ∙ sym (ap (λ k. walked k aml state place unseen) n) ∙
    f.same

pub finds_start : (aml : List ℕ) (state : ℕ) → Finds aml state first_place None
unfolding sleep_types_of
finds_start aml state = record { steps = length aml; enough = omega arith; same = refl }

pub finds_on : (aml : List ℕ) (state : ℕ) (place next : Place) (unseen : Option ℕ) → Finds aml state place unseen
    → place.at < length aml → step_at aml state place ≡ Ok (On next) → place.at < next.at
    → Finds aml state next unseen
finds_on aml state place next unseen f less e later = record {
  steps = f.steps - 1;
  enough = omega (arith, f.enough, later, less);
  same = sym (after_one (step_at aml state place) (found_after (f.steps - 1) aml state place.at unseen) (On next) e)
      ∙ finds_step aml state place unseen f less;
}

pub finds_unseen : (aml : List ℕ) (state : ℕ) (place next : Place) (unseen : Option ℕ)
    → Finds aml state place unseen → place.at < length aml → step_at aml state place ≡ Ok (Unseen next)
    → place.at < next.at → Finds aml state next (option_or unseen (Some place.at))
finds_unseen aml state place next unseen f less e later = record {
  steps = f.steps - 1;
  enough = omega (arith, f.enough, later, less);
  same = sym (after_one (step_at aml state place) (found_after (f.steps - 1) aml state place.at unseen) (Unseen next)
      e) ∙ finds_step aml state place unseen f less;
}

pub finds_types : (aml : List ℕ) (state : ℕ) (place : Place) (unseen : Option ℕ) (types : SleepTypes)
    → Finds aml state place unseen → place.at < length aml → step_at aml state place ≡ Ok (Found types)
    → Ok (Types types) ≡ sleep_types_of aml state
finds_types aml state place unseen types f less e =
    sym (after_one (step_at aml state place) (found_after (f.steps - 1) aml state place.at unseen) (Found types) e) ∙
    finds_step aml state place unseen f less

pub finds_error : (aml : List ℕ) (state : ℕ) (place : Place) (unseen : Option ℕ) (error : AmlError)
    → Finds aml state place unseen → place.at < length aml → step_at aml state place ≡ Err error
    → Err error ≡ sleep_types_of aml state
finds_error aml state place unseen error f less e =
    sym (ap (λ r. r >>= found_after (f.steps - 1) aml state place.at unseen) e) ∙ finds_step aml state place unseen f
    less

-- past the bytes nothing more is found, however many steps there are
pub at_end : (steps : ℕ) (aml : List ℕ) (state : ℕ) (place : Place) (unseen : Option ℕ) → length aml ≤ place.at
    → walked steps aml state place unseen ≡ Ok (answer_past unseen)
at_end zero aml state place unseen past = refl
at_end (suc more) aml state place unseen past =
    ap (λ b. cond b (Ok (answer_past unseen))
    (step_at aml state place >>= found_after more aml state place.at unseen)) (le-leb (length aml) place.at past)

pub finds_end : (aml : List ℕ) (state : ℕ) (place : Place) (unseen : Option ℕ) → Finds aml state place unseen
    → length aml ≤ place.at → Ok (answer_past unseen) ≡ sleep_types_of aml state
finds_end aml state place unseen f past = sym (at_end f.steps aml state place unseen past) ∙ f.same

pub reached_start : (aml : List ℕ) (state : ℕ) → IsReached aml state first_place None
reached_start aml state = at_start

pub reached_on : (aml : List ℕ) (state : ℕ) (here there : Place) (unseen : Option ℕ)
    → IsReached aml state here unseen → step_at aml state here ≡ Ok (On there) → IsReached aml state there unseen
reached_on aml state here there unseen r e = after_step here there unseen r e

pub reached_unseen : (aml : List ℕ) (state : ℕ) (here there : Place) (unseen : Option ℕ)
    → IsReached aml state here unseen → step_at aml state here ≡ Ok (Unseen there)
    → IsReached aml state there (option_or unseen (Some here.at))
reached_unseen aml state here there unseen r e = after_unseen here there unseen r e

pub answer_types : (aml : List ℕ) (state : ℕ) (place : Place) (unseen : Option ℕ) (types : SleepTypes)
    → IsReached aml state place unseen → step_at aml state place ≡ Ok (Found types)
    → IsAnswer aml state (Ok (Types types))
answer_types aml state place unseen types r e = (place, unseen, r, e)

pub answer_error : (aml : List ℕ) (state : ℕ) (place : Place) (unseen : Option ℕ) (error : AmlError)
    → IsReached aml state place unseen → step_at aml state place ≡ Err error → IsAnswer aml state (Err error)
answer_error aml state place unseen error r e = (place, unseen, r, e)

pub answer_absent : (aml : List ℕ) (state : ℕ) (place : Place) → IsReached aml state place None
    → place.at ≡ length aml → IsAnswer aml state (Ok Absent)
answer_absent aml state place r e = (place, r, e)

pub answer_not_seen : (aml : List ℕ) (state : ℕ) (place : Place) (at : ℕ) → IsReached aml state place (Some at)
    → place.at ≡ length aml → IsAnswer aml state (Ok (NotSeen at))
answer_not_seen aml state place at r e = (place, r, e)

pub ruleset walk_steps = (
  finds_start,
  finds_on,
  finds_unseen,
  finds_types,
  finds_error,
  finds_end,
  reached_start,
  reached_on,
  reached_unseen,
  answer_types,
  answer_error,
  answer_absent,
  answer_not_seen,
)
