-- What the walk finds in bytes it also finds if more bytes follow.
use Rattle.std.proofs.Common.{◌≡◌, ℕ, zero, suc, ◌+◌, ◌≤◌, Bool, true, false, cond, List, [], ◌∷◌, ◌++◌, length, take, ◌⊎◌, inl, inr, Option, Some, None, Result, Ok, Err, refl, sym, ap, ◌∙◌, arith, leb}
use Rattle.std.specs.Prelude.{◌==◌, ◌&&◌, nat_le, nat_lt}
use Rattle.std.specs.Option.{option_or}
use Rattle.std.proofs.lemmas.Bool.{and_parts, lt-leb, leb-false, eqb-true, leb-true}
use Rattle.std.proofs.lemmas.List.{take-append-le, length-append, length-take-le, take_all}
use Rattle.acpi_base.proofs.Words.{bind_ok, same_ok}
use Rattle.acpi_base.specs.Words.{field_of, ◌>>=◌}
use Rattle.acpi_sleep.proofs.Behind.{Single, argument_stays, block_end_stays, block_stays, block_within, byte_stays, bytes_stay, field_stays, name_end_stays, name_stays, operand_stays, single_name, stays_if}
use Rattle.acpi_sleep.proofs.Walks.{at_end, found_after}
use Rattle.acpi_sleep.specs.Words.{AmlError, Found, InvalidLength, InvalidName, Name, NotRead, NothingBehindMatters, On, Part, PastEnd, Place, SleepAnswer, SleepTypes, Step, Types, UnknownTerm, Unseen, alias_at, answer_past, argument_end, block_at, byte_at, field_end, first_place, has_arguments, is_state, may_define, method_at, name_at, named_at, no_term, object_at, opcode_at, operand_end, or_hidden, package_types, part_end, part_of, parts_end, parts_of, passed, passed_at, place_after, scope_at, seen_at, sleep_types_of, state_code, step_at, types_at, walked}
use Rattle.acpi_sleep.specs.declared.opcode.Opcode.{Opcode}
use Rattle.acpi_sleep.specs.declared.term.Part.TheVariants as part

-- ---- objects

package_stays : (xs ys : List ℕ) (at : ℕ) (types : SleepTypes) → package_types xs at ≡ Ok types
    → package_types (xs ++ ys) at ≡ Ok types
package_stays xs ys at types e =
    let block = bind_ok (block_at xs at) _ types e in
    let same = take-append-le block.0.end xs ys (block_within xs at block.0 block.1) in
    rw (block_stays xs ys at block.0 block.1, same) block.2

no_types_read : (xs : List ℕ) (at : ℕ) (types : SleepTypes) (P : Type 0)
    → (operand_end xs at >>= (λ end. Err (NotRead at))) ≡ Ok types → P
no_types_read xs at types P e =
    let end = bind_ok (operand_end xs at) (λ end. Err (NotRead at)) types e in
    absurd cc

types_stay : (xs ys : List ℕ) (at : ℕ) (types : SleepTypes) → types_at xs at ≡ Ok types
    → types_at (xs ++ ys) at ≡ Ok types
unfolding types_at
types_stay xs ys at types e =
    let lead = bind_ok (byte_at xs at) _ types e in
    rw (byte_stays xs ys at lead.0 lead.1) (stays_if (lead.0 == 0x12) _ _ _ _ types
    (package_stays xs ys (at + 1) types) (no_types_read xs at types _) lead.2)

opcode_stays : (xs ys : List ℕ) (at : ℕ) (op : Opcode) → opcode_at xs at ≡ Ok op → opcode_at (xs ++ ys) at ≡ Ok op
unfolding opcode_at
opcode_stays xs ys at op e =
    let first = bind_ok (byte_at xs at) _ op e in
    rw (byte_stays xs ys at first.0 first.1) (stays_if (first.0 == 0x5B) _ _ _ _ op (λ e.
    let second = bind_ok (byte_at xs (at + 1)) _ op e in
    rw (byte_stays xs ys (at + 1) second.0 second.1) second.2) (λ e. e) first.2)

field_end_stays : (xs ys : List ℕ) (at end : ℕ) → field_end xs at ≡ Ok end → field_end (xs ++ ys) at ≡ Ok end
field_end_stays xs ys at end e =
    let lead = bind_ok (byte_at xs at) _ end e in
    let last = bind_ok (operand_end xs at) _ end lead.2 in
    rw (byte_stays xs ys at lead.0 lead.1, operand_stays xs ys at last.0 last.1) last.2

part_stays : (p : Part) (xs ys : List ℕ) (at end : ℕ) → part_end p xs at ≡ Ok end → part_end p (xs ++ ys) at ≡ Ok end
part_stays part.Name xs ys at end e = name_end_stays xs ys at end e
part_stays part.Byte xs ys at end e = bytes_stay xs ys at 1 end e
part_stays part.Argument xs ys at end e = argument_stays xs ys at end e
part_stays part.Block xs ys at end e = block_end_stays xs ys at end e
part_stays part.Field xs ys at end e = field_end_stays xs ys at end e

parts_stay : (ps : List Part) (xs ys : List ℕ) (at end : ℕ) → parts_end ps xs at ≡ Ok end
    → parts_end ps (xs ++ ys) at ≡ Ok end
parts_stay [] xs ys at end e = e
parts_stay (p ∷ ps) xs ys at end e =
    let first = bind_ok (part_end p xs at) _ end e in
    rw (part_stays p xs ys at first.0 first.1) (parts_stay ps xs ys first.0 end first.2)

same_if : (a b c : Bool) → (a ≡ true → b ≡ c) → (a && b) ≡ (a && c)
same_if true b c same = same refl
same_if false b c same = refl

state_stays : (xs ys : List ℕ) (state : ℕ) (name : Name) → Single xs name
    → is_state (xs ++ ys) state name ≡ is_state xs state name
state_stays xs ys state name single =
    same_if (name.ups == 0 && name.segments == 1) (field_of (xs ++ ys) name.first 4 == state_code state)
    (field_of xs name.first 4 == state_code state) (λ is.
    ap (λ f. f == state_code state) (field_stays xs ys name.first 4
    (single (eqb-true name.segments 1 (and_parts (name.ups == 0) (name.segments == 1) is).1))))

named_stays : (xs ys : List ℕ) (state : ℕ) (scope : Option ℕ) (at : ℕ) (s : Step)
    → named_at xs state scope at ≡ Ok s → named_at (xs ++ ys) state scope at ≡ Ok s
unfolding named_at
named_stays xs ys state scope at s e =
    let name = bind_ok (name_at xs at) _ s e in
    rw (name_stays xs ys at name.0 name.1, state_stays xs ys state name.0 (single_name xs at name.0 name.1))
    (stays_if (is_state xs state name.0) _ _ _ _ s (λ e.
    let types = bind_ok (types_at xs name.0.end) _ s e in
    rw (types_stay xs ys name.0.end types.0 types.1) types.2) (λ e.
    let lead = bind_ok (byte_at xs name.0.end) _ s e in
    let next = bind_ok (argument_end xs name.0.end) _ s lead.2 in
    rw (byte_stays xs ys name.0.end lead.0 lead.1, argument_stays xs ys name.0.end next.0 next.1) next.2) name.2)

scope_stays : (xs ys : List ℕ) (state : ℕ) (scope : Option ℕ) (at : ℕ) (s : Step)
    → scope_at xs state scope at ≡ Ok s → scope_at (xs ++ ys) state scope at ≡ Ok s
unfolding scope_at
scope_stays xs ys state scope at s e =
    let block = bind_ok (block_at xs at) _ s e in
    rw (block_stays xs ys at block.0 block.1, take-append-le block.0.end xs ys (block_within xs at block.0 block.1))
    block.2

method_stays : (xs ys : List ℕ) (state : ℕ) (scope : Option ℕ) (at : ℕ) (s : Step)
    → method_at xs state scope at ≡ Ok s → method_at (xs ++ ys) state scope at ≡ Ok s
unfolding method_at
method_stays xs ys state scope at s e =
    let block = bind_ok (block_at xs at) _ s e in
    let within = block_within xs at block.0 block.1 in
    let name = bind_ok (name_at (take block.0.end xs) block.0.start) _ s block.2 in
    let single : Single xs name.0 = λ one. omega (
      arith,
      within,
      length-take-le block.0.end xs within,
      single_name (take block.0.end xs) block.0.start name.0
          name.1 one,
    ) in
    rw (
      block_stays xs ys at block.0 block.1,
      take-append-le block.0.end xs ys within,
      name.1,
      state_stays xs ys
          state name.0 single,
    ) name.2

alias_stays : (xs ys : List ℕ) (state : ℕ) (scope : Option ℕ) (at : ℕ) (s : Step)
    → alias_at xs state scope at ≡ Ok s → alias_at (xs ++ ys) state scope at ≡ Ok s
unfolding alias_at
alias_stays xs ys state scope at s e =
    let object = bind_ok (name_at xs at) _ s e in
    let name = bind_ok (name_at xs object.0.end) _ s object.2 in
    rw (
      name_stays xs ys at object.0 object.1,
      name_stays xs ys object.0.end name.0 name.1,
      state_stays xs ys state
          name.0 (single_name xs object.0.end name.0 name.1),
    ) name.2

-- ---- ways: whether a step is seen doesn't matter for where it leads

abbrev way : Step → Step
way (Found types) = Found types
way (On next) = On next
way (Unseen next) = On next

abbrev way_of : Result Step AmlError → Result Step AmlError
way_of (Ok s) = Ok (way s)
way_of (Err e) = Err e

-- a step leads this way
abbrev Leads : Result Step AmlError → Step → Type 0
Leads r w = way_of r ≡ Ok w

way_passed : (b : Bool) (next : Place) → way (passed b next) ≡ On next
way_passed true next = refl
way_passed false next = refl

leads_if : (b : Bool) (r s t u : Result Step AmlError) (w : Step) → (Leads r w → Leads t w) → (Leads s w → Leads u w)
    → Leads (cond b r s) w → Leads (cond b t u) w
leads_if true r s t u w one other e = one e
leads_if false r s t u w one other e = other e

leads_exactly : (r t : Result Step AmlError) (w : Step) → ((s : Step) → r ≡ Ok s → t ≡ Ok s) → Leads r w → Leads t w
leads_exactly (Ok s) t w same e = ap way_of (same s refl) ∙ e
leads_exactly (Err d) t w same e = absurd cc

-- where a term ends, and the step past it
abbrev ends : ℕ → Option ℕ → ℕ → ℕ → List ℕ → ℕ → Result Step AmlError
ends state scope code after xs end = Ok (passed (may_define state code (part_of xs after end))
    (record { at = end; scope = scope; called = has_arguments code }))

passed_leads : (xs ys : List ℕ) (state : ℕ) (scope : Option ℕ) (code : ℕ) (parts : List Part) (after : ℕ) (w : Step)
    (r : Result ℕ AmlError) → parts_end parts xs after ≡ r → Leads (r >>= ends state scope code after xs) w
    → Leads (passed_at (xs ++ ys) state scope code parts after) w
unfolding passed_at
passed_leads xs ys state scope code parts after w (Err d) at e = absurd cc
passed_leads xs ys state scope code parts after w (Ok end) at e =
    let next : Place = record { at = end; scope = scope; called = has_arguments code } in
    rw (parts_stay parts xs ys after end at)
    (ap Ok (way_passed (may_define state code (part_of (xs ++ ys) after end)) next)
    ∙ ap Ok (sym (way_passed (may_define state code (part_of xs after end)) next)) ∙ e)

term_leads : (xs ys : List ℕ) (state : ℕ) (scope : Option ℕ) (called : Bool) (code at after : ℕ) (w : Step)
    (o : Option (List Part))
    → Leads (elim o [
      | Some parts ↦ passed_at xs state scope code parts after
      | None ↦ Err (no_term xs code called at)
    ]) w
    → Leads (elim o [
      | Some parts ↦ passed_at (xs ++ ys) state scope code parts after
      | None ↦ Err (no_term (xs ++ ys) code called at)
    ]) w
unfolding passed_at
term_leads xs ys state scope called code at after w None e = absurd cc
term_leads xs ys state scope called code at after w (Some parts) e =
    passed_leads xs ys state scope code parts after w (parts_end parts xs after) refl e

object_leads : (xs ys : List ℕ) (state : ℕ) (scope : Option ℕ) (called : Bool) (at : ℕ) (w : Step)
    (r : Result Opcode AmlError) → opcode_at xs at ≡ r → Leads (object_at xs state scope called at) w
    → Leads (object_at (xs ++ ys) state scope called at) w
unfolding object_at
object_leads xs ys state scope called at w (Err d) is e = absurd (let f = (rw is at e) in cc)
object_leads xs ys state scope called at w (Ok op) is e =
    let term = term_leads xs ys state scope called op.code at op.end w (parts_of op.code) in
    let alias = leads_if (op.code == 0x06) _ _ _ _ w
    (leads_exactly _ _ w (alias_stays xs ys state scope op.end)) term in
    let method = leads_if (op.code == 0x14) _ _ _ _ w
    (leads_exactly _ _ w (method_stays xs ys state scope op.end)) alias in
    let other = leads_if (op.code == 0x10) _ _ _ _ w
    (leads_exactly _ _ w (scope_stays xs ys state scope op.end)) method in
    rw (opcode_stays xs ys at op is) (leads_if (op.code == 0x08) _ _ _ _ w
    (leads_exactly _ _ w (named_stays xs ys state scope op.end)) other (rw is at e))

-- ---- the walk

-- what isn't read hides what follows it: then nothing more is found in the first bytes
abbrev Hides : List ℕ → Option ℕ → Step → Type 0
Hides xs scope w = w ≡ On (place_after scope (length xs))

seen_leads : (xs ys : List ℕ) (scope : Option ℕ) (r s : Result Step AmlError) (w : Step)
    → ((w : Step) → Leads r w → Leads s w) → Leads (or_hidden scope (length xs) r) w
    → Leads (or_hidden scope (length (xs ++ ys)) s) w ⊎ Hides xs scope w
seen_leads xs ys scope (Err (NotRead i)) s w same e = inr (sym (same_ok _ _ e))
seen_leads xs ys scope (Err (PastEnd i)) s w same e = absurd cc
seen_leads xs ys scope (Err (InvalidLength i)) s w same e = absurd cc
seen_leads xs ys scope (Err (InvalidName i)) s w same e = absurd cc
seen_leads xs ys scope (Err (UnknownTerm i)) s w same e = absurd cc
seen_leads xs ys scope (Ok x) (Ok y) w same e = inl (same w e)
seen_leads xs ys scope (Ok x) (Err d) w same e = absurd (let f = same w e in cc)

seen_stays : (xs ys : List ℕ) (state : ℕ) (scope : Option ℕ) (place : Place) (w : Step)
    → Leads (seen_at xs state scope place) w → Leads (seen_at (xs ++ ys) state scope place) w ⊎ Hides xs scope w
unfolding seen_at
seen_stays xs ys state scope place w e = seen_leads xs ys scope (object_at xs state scope place.called place.at)
    (object_at (xs ++ ys) state scope place.called place.at) w
    (λ w. object_leads xs ys state scope place.called place.at w (opcode_at xs place.at) refl) e

front_of_both : (n : ℕ) (xs ys : List ℕ) → (zs : List ℕ) × (take n (xs ++ ys) ≡ take n xs ++ zs)
front_of_both zero xs ys = ([], refl)
front_of_both (suc n) [] ys = (take (suc n) ys, refl)
front_of_both (suc n) (x ∷ xs) ys =
    let rest = front_of_both n xs ys in
    (rest.0, ap (λ l. x ∷ l) rest.1)

-- the walk is at the end of the bytes
abbrev Ends : List ℕ → Step → Type 0
Ends xs w = (place : Place) × (w ≡ On place) × (length xs ≤ place.at)

inside_stays : (xs ys : List ℕ) (state end : ℕ) (place : Place) (w : Step) (b : Bool) → nat_le end (length xs) ≡ b
    → Leads (seen_at (take end xs) state (Some end) place) w
    → Leads (seen_at (take end (xs ++ ys)) state (Some end) place) w ⊎ Ends xs w
inside_stays xs ys state end place w true fits e =
    inl (rw (take-append-le end xs ys (leb-true end (length xs) fits)) e)
inside_stays xs ys state end place w false long e =
    let all : take end xs ≡ xs = take_all end xs (omega (arith, leb-false end (length xs) long)) in
    let front = front_of_both end xs ys in
    elim (seen_stays (take end xs) front.0 state (Some end) place w e) [
      | inl same ↦ inl (rw front.1 same)
      | inr hides ↦ inr (place_after (Some end) (length (take end xs)), hides, omega (arith, ap length all))
    ]

root_stays : (xs ys : List ℕ) (state : ℕ) (place : Place) (w : Step) → Leads (seen_at xs state None place) w
    → Leads (seen_at (xs ++ ys) state None place) w ⊎ Ends xs w
root_stays xs ys state place w e = elim (seen_stays xs ys state None place w e) [
  | inl same ↦ inl same
  | inr hides ↦ inr (place_after None (length xs), hides, omega arith)
]

-- each way that is taken leads there, or ends
place_leads : (b : Bool) (xs : List ℕ) (r s t u : Result Step AmlError) (w : Step)
    → (Leads r w → Leads t w ⊎ Ends xs w) → (Leads s w → Leads u w ⊎ Ends xs w)
    → Leads (cond b r s) w → Leads (cond b t u) w ⊎ Ends xs w
place_leads true xs r s t u w one other e = one e
place_leads false xs r s t u w one other e = other e

-- what `step_at` is by the scope of the place
abbrev seen_in : List ℕ → ℕ → Place → Option ℕ → Result Step AmlError
seen_in xs state place scope = elim scope [
  | Some end ↦ cond (nat_lt place.at end) (seen_at (take end xs) state (Some end) place) (seen_at xs state None place)
  | None ↦ seen_at xs state None place
]

scope_leads : (xs ys : List ℕ) (state : ℕ) (place : Place) (w : Step) (scope : Option ℕ)
    → Leads (seen_in xs state place scope) w → Leads (seen_in (xs ++ ys) state place scope) w ⊎ Ends xs w
scope_leads xs ys state place w None e = root_stays xs ys state place w e
scope_leads xs ys state place w (Some end) e = place_leads (nat_lt place.at end) xs _ _ _ _ w
    (inside_stays xs ys state end place w (nat_le end (length xs)) refl) (root_stays xs ys state place w) e

step_stays : (xs ys : List ℕ) (state : ℕ) (place : Place) (w : Step) → Leads (step_at xs state place) w
    → Leads (step_at (xs ++ ys) state place) w ⊎ Ends xs w
unfolding step_at
step_stays xs ys state place w e = scope_leads xs ys state place w place.scope e

abbrev answered : SleepAnswer → Result SleepAnswer AmlError
answered answer = Ok answer

no_types : (unseen : Option ℕ) (types : SleepTypes) → answered (answer_past unseen) ≡ Ok (Types types) → ⊥
no_types None types e = cc
no_types (Some at) types e = cc

-- a walk that finds types from each place finds them after each step that leads the same way
walk_after : (n m : ℕ) (xs ys : List ℕ) (state i j : ℕ) (u v : Option ℕ) (types : SleepTypes) (s t : Step)
    → ((place : Place) (u v : Option ℕ) → walked n xs state place u ≡ Ok (Types types)
    → walked m (xs ++ ys) state place v ≡ Ok (Types types)) → way t ≡ way s
    → found_after n xs state i u s ≡ Ok (Types types) → found_after m (xs ++ ys) state j v t ≡ Ok (Types types)
walk_after n m xs ys state i j u v types (Found a) (Found b) rest same e = cc
walk_after n m xs ys state i j u v types (Found a) (On q) rest same e = absurd cc
walk_after n m xs ys state i j u v types (Found a) (Unseen q) rest same e = absurd cc
walk_after n m xs ys state i j u v types (On p) (Found b) rest same e = absurd cc
walk_after n m xs ys state i j u v types (On p) (On q) rest same e =
    let to : q ≡ p = cc in rw to (rest p u v e)
walk_after n m xs ys state i j u v types (On p) (Unseen q) rest same e =
    let to : q ≡ p = cc in rw to (rest p u (option_or v (Some j)) e)
walk_after n m xs ys state i j u v types (Unseen p) (Found b) rest same e = absurd cc
walk_after n m xs ys state i j u v types (Unseen p) (On q) rest same e =
    let to : q ≡ p = cc in rw to (rest p (option_or u (Some i)) v e)
walk_after n m xs ys state i j u v types (Unseen p) (Unseen q) rest same e =
    let to : q ≡ p = cc in rw to (rest p (option_or u (Some i)) (option_or v (Some j)) e)

-- at the end of the bytes there are no types
end_after : (n : ℕ) (xs : List ℕ) (state i : ℕ) (u : Option ℕ) (types : SleepTypes) (s : Step) → Ends xs (way s)
    → found_after n xs state i u s ≡ Ok (Types types) → ⊥
end_after n xs state i u types (Found a) (place, same, past) e = cc
end_after n xs state i u types (On p) (place, same, past) e =
    let to : p ≡ place = cc in
    no_types u types (sym (at_end n xs state p u (rw to past)) ∙ e)
end_after n xs state i u types (Unseen p) (place, same, past) e =
    let to : p ≡ place = cc in
    no_types (option_or u (Some i)) types (sym (at_end n xs state p (option_or u (Some i)) (rw to past)) ∙ e)

step_after : (n m : ℕ) (xs ys : List ℕ) (state : ℕ) (place : Place) (u v : Option ℕ) (types : SleepTypes) (s : Step)
    (r : Result Step AmlError) → step_at (xs ++ ys) state place ≡ r
    → ((place : Place) (u v : Option ℕ) → walked n xs state place u ≡ Ok (Types types)
    → walked m (xs ++ ys) state place v ≡ Ok (Types types)) → Leads r (way s)
    → found_after n xs state place.at u s ≡ Ok (Types types)
    → (step_at (xs ++ ys) state place >>= found_after m (xs ++ ys) state place.at v) ≡ Ok (Types types)
step_after n m xs ys state place u v types s (Err d) is rest leads e = absurd cc
step_after n m xs ys state place u v types s (Ok t) is rest leads e =
    rw is (walk_after n m xs ys state place.at place.at u v types s t rest (same_ok _ _ leads) e)

walk_from : (n m : ℕ) (xs ys : List ℕ) (state : ℕ) (place : Place) (u v : Option ℕ) (types : SleepTypes) (b : Bool)
    → ((place : Place) (u v : Option ℕ) → walked n xs state place u ≡ Ok (Types types)
    → walked m (xs ++ ys) state place v ≡ Ok (Types types)) → leb (length xs) place.at ≡ b
    → cond b (Ok (answer_past u)) (step_at xs state place >>= found_after n xs state place.at u) ≡ Ok (Types types)
    → walked (suc m) (xs ++ ys) state place v ≡ Ok (Types types)
walk_from n m xs ys state place u v types true rest h e = absurd (no_types u types e)
walk_from n m xs ys state place u v types false rest h e =
    let past : leb (length (xs ++ ys)) place.at ≡ false = lt-leb (length (xs ++ ys)) place.at
    (omega (arith, leb-false (length xs) place.at h, length-append xs ys)) in
    let s = bind_ok (step_at xs state place) (found_after n xs state place.at u) (Types types) e in
    rw past (elim (step_stays xs ys state place (way s.0) (ap way_of s.1)) [
      | inl leads ↦ step_after n m xs ys state place u v types s.0 (step_at (xs ++ ys) state place) refl rest leads s.2
      | inr ends ↦ absurd (end_after n xs state place.at u types s.0 ends s.2)
    ])

walk_stays : (n m : ℕ) (xs ys : List ℕ) (state : ℕ) (place : Place) (u v : Option ℕ) (types : SleepTypes) → n ≤ m
    → walked n xs state place u ≡ Ok (Types types) → walked m (xs ++ ys) state place v ≡ Ok (Types types)
walk_stays zero m xs ys state place u v types le e = absurd (no_types u types e)
walk_stays (suc n) zero xs ys state place u v types le e = absurd (omega (arith, le))
walk_stays (suc n) (suc m) xs ys state place u v types le e = walk_from n m xs ys state place u v types
    (leb (length xs) place.at) (λ place u v e. walk_stays n m xs ys state place u v types (omega (arith, le)) e) refl e

pub nothing_behind_matters : NothingBehindMatters
unfolding sleep_types_of
nothing_behind_matters aml more state types e =
    walk_stays (length aml) (length (aml ++ more)) aml more state first_place None None types
    (omega (arith, length-append aml more)) e
