-- `argument_end` passes exactly one argument.
use Rattle.std.proofs.Common.{◌≡◌, ℕ, zero, suc, ◌+◌, ◌-◌, ◌<◌, ◌≤◌, Bool, true, false, cond, inl, inr, List, length, drop, Option, Some, None, Result, Ok, Err, refl, sym, ap, ◌∙◌, subst, arith, eqb, ok_or}
use Rattle.std.specs.Prelude.{◌==◌, ◌&&◌, ◌||◌, nat_le, nat_lt}
use Rattle.std.specs.List.{position}
use Rattle.std.proofs.lemmas.Bool.{leb-true, ne_eqb}
use Rattle.std.proofs.lemmas.Bool.Decides.{eqb_tells}
use Rattle.acpi_base.proofs.Words.{bind_ok, holds_ok, same_ok}
use Rattle.acpi_base.specs.Words.{◌>>=◌}
use Rattle.acpi_sleep.proofs.Behind.{block_of, byte_within, either_way, segment_within}
use Rattle.acpi_sleep.proofs.Walks.{Argues, after_lead, argues_end, argues_operand, argues_operator, argues_start, one_argument}
use Rattle.acpi_sleep.specs.Words.{AmlError, EachArgumentEnds, Block, IsArgument, Name, PastEnd, argument_end, arguments_end, begins_name, block_at, block_end, byte_at, bytes_end, carets, integer_width, is_operator, is_single, many_at, name_at, name_end, name_of, no_operand, operand, operand_end, operation, other_end, path_at, segment_end, segments_end, text_end}

-- ---- an operand passes a byte

segments_go : (n : ℕ) (aml : List ℕ) (at end : ℕ) → segments_end n aml at ≡ Ok end → at + n ≤ end
segments_go zero aml at end e = omega (arith, same_ok at end e)
segments_go (suc n) aml at end e =
    let first = bind_ok (segment_end aml at) _ end e in
    omega (arith, (segment_within aml at first.0 first.1).0, segments_go n aml first.0 end first.2)

name_of_goes : (aml : List ℕ) (ups segments first path : ℕ) (name : Name) → path < first + segments
    → name_of aml ups segments first ≡ Ok name → path < name.end
name_of_goes aml ups segments first path name less e =
    let end = bind_ok (segments_end segments aml first) _ name e in
    let same = same_ok (record { ups = ups; first = first; segments = segments; end = end.0 }) name end.2 in
    omega (arith, less, segments_go segments aml first end.0 end.1, ap (λ (n : Name). n.end) same)

many_goes : (aml : List ℕ) (ups path : ℕ) (name : Name) → many_at aml ups path ≡ Ok name → path < name.end
many_goes aml ups path name e =
    let count = bind_ok (byte_at aml (path + 1)) _ name e in
    let some = holds_ok (nat_lt 0 count.0) _ _ name count.2 in
    name_of_goes aml ups count.0 (path + 2) path name (omega arith) some.1

path_goes : (aml : List ℕ) (ups path : ℕ) (name : Name) → path_at aml ups path ≡ Ok name → path < name.end
path_goes aml ups path name e =
    let lead = bind_ok (byte_at aml path) _ name e in
    let one = either_way (path < name.end) (lead.0 == 0x2F) _ _ name (many_goes aml ups path name)
    (name_of_goes aml ups 1 path path name (omega arith)) in
    let two = either_way (path < name.end) (lead.0 == 0x2E) _ _ name
    (name_of_goes aml ups 2 (path + 1) path name (omega arith)) one in
    either_way (path < name.end) (lead.0 == 0x00) _ _ name
    (name_of_goes aml ups 0 (path + 1) path name (omega arith)) two lead.2

name_goes : (aml : List ℕ) (at end : ℕ) → name_end aml at ≡ Ok end → at < end
unfolding name_at
name_goes aml at end e =
    let name = bind_ok (name_at aml at) _ end e in
    let first = bind_ok (byte_at aml at) _ name.0 name.1 in
    let path = at + carets aml at + cond (first.0 == 92) 1 0 in
    omega (arith, path_goes aml (carets aml at) path name.0 first.2, same_ok name.0.end end name.2)

block_goes : (aml : List ℕ) (at end : ℕ) → block_end aml at ≡ Ok end → at < end
block_goes aml at end e =
    let block = bind_ok (block_at aml at) _ end e in
    let h = block_of aml at block.0 block.1 in
    omega (arith, leb-true _ _ h.ordered, ap (λ (b : Block). b.end) h.same, same_ok block.0.end end block.2)

text_goes : (aml : List ℕ) (at end : ℕ) → text_end aml at ≡ Ok end → at < end
text_goes aml at end e =
    let n = bind_ok (ok_or (position (λ (b : ℕ). b == 0) (drop at aml)) (PastEnd at)) _ end e in
    omega (arith, same_ok (at + n.0 + 1) end n.2)

other_goes : (aml : List ℕ) (at lead end : ℕ) → other_end aml at lead ≡ Ok end → at < end
other_goes aml at lead end e =
    let name = either_way (at < end) (begins_name lead) _ _ end (name_goes aml at end)
    (λ (e : Err (no_operand aml at) ≡ Ok end). absurd cc) in
    let block = either_way (at < end) (nat_le 0x11 lead && nat_le lead 0x13) _ _ end
    (λ (e : block_end aml (at + 1) ≡ Ok end). omega (arith, block_goes aml (at + 1) end e)) name in
    let text = either_way (at < end) (lead == 0x0D) _ _ end
    (λ (e : text_end aml (at + 1) ≡ Ok end). omega (arith, text_goes aml (at + 1) end e)) block in
    either_way (at < end) (is_single lead) (Ok (at + 1)) _ end (λ e. omega (arith, same_ok (at + 1) end e)) text e

-- where an operand with this first byte ends
abbrev ended : List ℕ → ℕ → ℕ → Result ℕ AmlError
ended aml at lead = elim (integer_width lead) [
  | Some width ↦ bytes_end aml (at + 1) width
  | None ↦ other_end aml at lead
]

ended_goes : (aml : List ℕ) (at lead end : ℕ) (o : Option ℕ)
    → ◌≡◌ {A = Result ℕ AmlError} (elim o [ Some width ↦ bytes_end aml (at + 1) width | None ↦ other_end aml at lead ])
    (Ok end) → at < end
ended_goes aml at lead end None e = other_goes aml at lead end e
ended_goes aml at lead end (Some width) e =
    let fits = holds_ok (nat_le (at + 1 + width) (length aml)) _ _ end e in
    omega (arith, same_ok (at + 1 + width) end fits.1)

-- ---- an operand is no operator

abbrev NoOperand : ℕ → Type 0
NoOperand lead = (aml : List ℕ) (at end : ℕ) → ended aml at lead ≡ Ok end → ⊥

either_of : (P : Type 0) (a b : Bool) → (a ≡ true → P) → (b ≡ true → P) → (a || b) ≡ true → P
either_of P true b one other e = one refl
either_of P false b one other e = other e

this_one : (lead n : ℕ) → NoOperand n → (lead == n) ≡ true → NoOperand lead
this_one lead n none e = elim (eqb_tells lead n) [
  | inl same ↦ subst NoOperand (sym same.1) none
  | inr other ↦ absurd cc
]

none_of : (lead : ℕ) → is_operator lead ≡ true → NoOperand lead
none_of lead e =
    let is : (n : ℕ) → NoOperand n → (lead == n) ≡ true → NoOperand lead = this_one lead in
    let one = either_of (NoOperand lead) (lead == 0x72) (lead == 0x74) (is 0x72 (λ aml at end e. cc))
    (is 0x74 (λ aml at end e. cc)) in
    let two = either_of (NoOperand lead) _ (lead == 0x79) one (is 0x79 (λ aml at end e. cc)) in
    let three = either_of (NoOperand lead) _ (lead == 0x7A) two (is 0x7A (λ aml at end e. cc)) in
    let four = either_of (NoOperand lead) _ (lead == 0x7B) three (is 0x7B (λ aml at end e. cc)) in
    either_of (NoOperand lead) _ (lead == 0x7D) four (is 0x7D (λ aml at end e. cc)) e

no_operator : (aml : List ℕ) (at end lead : ℕ) (b : Bool) → is_operator lead ≡ b → ended aml at lead ≡ Ok end
    → b ≡ false
no_operator aml at end lead false is e = refl
no_operator aml at end lead true is e = absurd (none_of lead is aml at end e)

-- what an operand begins with, and that it goes on
record Passes (aml : List ℕ) (at end : ℕ) : Type 0 where
  pub lead : ℕ
  pub read : byte_at aml at ≡ Ok lead
  pub other : is_operator lead ≡ false
  pub after : at < end

operand_passes : (aml : List ℕ) (at end : ℕ) → operand_end aml at ≡ Ok end → Passes aml at end
unfolding operand_end
operand_passes aml at end e =
    let lead = bind_ok (byte_at aml at) (ended aml at) end e in
    record {
      lead = lead.0;
      read = lead.1;
      other = no_operator aml at end lead.0 (is_operator lead.0) refl lead.2;
      after = ended_goes aml at lead.0 end (integer_width lead.0) lead.2;
    }

-- ---- an argument ends there

passes : (aml : List ℕ) (first left at end : ℕ) → IsArgument aml at end → Argues aml first (suc left) at
    → Argues aml first left end
passes aml first left at end (operand _ _ e) f =
    let h = operand_passes aml at end e in
    let within = byte_within aml at h.lead h.read in
    let less : suc left - 1 ≡ left = omega arith in
    subst (λ n. Argues aml first n end) less (argues_operand aml first (suc left) at h.lead end f (omega arith)
    (omega (arith, within)) h.read h.other e h.after)
passes aml first left at end (operation _ lead second target _ read is a b c) f =
    let within = byte_within aml at lead read in
    let more : suc left + 2 ≡ suc (suc (suc left)) = omega arith in
    let three = subst (λ n. Argues aml first n (at + 1)) more (argues_operator aml first (suc left) at lead f
    (omega arith) (omega (arith, within)) read is) in
    passes aml first left target end c
    (passes aml first (suc left) second target b (passes aml first (suc (suc left)) (at + 1) second a three))

-- ---- no other does

-- a number of arguments, one after the other
abbrev Follow : ℕ → List ℕ → ℕ → ℕ → Type 0
Follow zero aml at end = at ≡ end
Follow (suc left) aml at end = (next : ℕ) × IsArgument aml at next × Follow left aml next end

follow_next : (n left : ℕ) (aml : List ℕ) (at end lead : ℕ) (b : Bool) → is_operator lead ≡ b
    → byte_at aml at ≡ Ok lead
    → ((left at : ℕ) → arguments_end n left aml at ≡ Ok end → Follow left aml at end)
    → cond b (arguments_end n (suc left + 2) aml (at + 1))
    (operand_end aml at >>= (λ next. arguments_end n (suc left - 1) aml next)) ≡ Ok end → Follow (suc left) aml at end
follow_next n left aml at end lead true is read rest e =
    let more : suc left + 2 ≡ suc (suc (suc left)) = omega arith in
    let a = subst (λ n. Follow n aml (at + 1) end) more (rest (suc left + 2) (at + 1) e) in
    let b = a.2 in
    let c = b.2 in
    (c.0, operation at lead a.0 b.0 c.0 read is a.1 b.1 c.1, c.2)
follow_next n left aml at end lead false is read rest e =
    let next = bind_ok (operand_end aml at) (λ next. arguments_end n (suc left - 1) aml next) end e in
    let less : suc left - 1 ≡ left = omega arith in
    (next.0, operand at next.0 next.1, subst (λ n. Follow n aml next.0 end) less (rest (suc left - 1) next.0 next.2))

follow : (n left : ℕ) (aml : List ℕ) (at end : ℕ) → arguments_end n left aml at ≡ Ok end → Follow left aml at end
follow zero zero aml at end e = same_ok at end e
follow zero (suc left) aml at end e =
    let some : eqb (suc left) 0 ≡ false = ne_eqb (suc left) 0 (λ e. omega arith) in
    let fails : Err (PastEnd at) ≡ Ok end = subst (λ b. cond b (Ok at) (Err (PastEnd at)) ≡ Ok end) some e in
    absurd cc
follow (suc n) zero aml at end e = same_ok at end e
follow (suc n) (suc left) aml at end e =
    let lead = bind_ok (byte_at aml at) (after_lead n (suc left) aml at) end
    (sym (one_argument n (suc left) aml at (omega arith)) ∙ e) in
    follow_next n left aml at end lead.0 (is_operator lead.0) refl lead.1
    (λ left at e. follow n left aml at end e) lead.2

only_one : (aml : List ℕ) (at end : ℕ) → Follow 1 aml at end → IsArgument aml at end
only_one aml at end f = subst (IsArgument aml at) f.2 f.1

pub each_argument_ends : EachArgumentEnds
unfolding argument_end
each_argument_ends aml at end = (
  λ e. only_one aml at end (follow (length aml + 1) 1 aml at end e),
  λ a. sym (argues_end aml at 0 end (passes aml at 0 at end a (argues_start aml at)) refl),
)
