-- No term begins as an argument does: each byte is tried.
use Rattle.std.proofs.Common.{◌≡◌, ℕ, zero, suc, ◌<◌, Bool, true, false, ◌⊎◌, inl, inr, Option, Some, None, refl, ap, ◌∙◌, arith}
use Rattle.std.proofs.lemmas.Bool.{and_parts}
use Rattle.std.proofs.lemmas.Bool.Decides.{eqb_tells}
use Rattle.std.specs.Prelude.{◌&&◌, ◌||◌, ◌==◌, is_none, not}
use Rattle.acpi_sleep.specs.Words.{ArgumentsBeginNoTerm, begins_argument}
use Rattle.acpi_sleep.specs.Words.{parts_of}

-- a test of each number below one
abbrev each_below : ℕ → (ℕ → Bool) → Bool
each_below zero p = true
each_below (suc n) p = p n && each_below n p

either : (k n : ℕ) → k < suc n → (k ≡ n) ⊎ (k < n)
either k n less = elim (eqb_tells k n) [
  | inl same ↦ inl same.1
  | inr other ↦ inr (let ne : k ≡ n
      → ⊥ = other.1 in omega arith)
]

at_each : (n : ℕ) (p : ℕ → Bool) → each_below n p ≡ true → (k : ℕ) → k < n → p k ≡ true
at_each zero p e k less = absurd (omega arith)
at_each (suc n) p e k less =
    let parts = and_parts (p n) (each_below n p) e in
    elim (either k n less) [ inl same ↦ ap p same ∙ parts.0 | inr below ↦ at_each n p parts.1 k below ]

-- whether no term begins with a byte, as far as an argument may
abbrev is_apart : ℕ → Bool
is_apart lead = not (begins_argument lead) ||
    (((((not (lead == 0x08) && not (lead == 0x10)) && not (lead == 0x14)) && not (lead == 0x06)) && not
    (lead == 0x5B))
    && is_none (parts_of lead))

all_apart : each_below 256 is_apart ≡ true
unfolding parts_of
all_apart = refl

or_else : (a b : Bool) → (not a || b) ≡ true → a ≡ true → b ≡ true
or_else true b e same = e
or_else false b e same = cc

differs : (a b : ℕ) → not (a == b) ≡ true → a ≡ b → ⊥
differs a b e same = grind arith

no_parts : {A : Type 0} (o : Option A) → is_none o ≡ true → o ≡ None
no_parts None e = refl
no_parts (Some x) e = cc

pub arguments_begin_no_term : ArgumentsBeginNoTerm
arguments_begin_no_term lead byte begins =
    let b = or_else _ _ (at_each 256 is_apart all_apart lead byte) begins in
    let p = and_parts _ _ b in
    let q = and_parts _ _ p.0 in
    let r = and_parts _ _ q.0 in
    let s = and_parts _ _ r.0 in
    let t = and_parts _ _ s.0 in record {
      no_name = differs lead 0x08 t.0;
      no_scope = differs lead 0x10 t.1;
      no_method = differs lead 0x14 s.1;
      no_alias = differs lead 0x06 r.1;
      no_prefix = differs lead 0x5B q.1;
      no_other = no_parts _ p.1;
    }
