-- The answers of the ISA interrupts: two are one global system interrupt only by overrides of both, and what is
-- gathered from Interrupt Source Overrides decides them.
use Rattle.std.proofs.Common.{◌≡◌, ℕ, List, [], ◌∷◌, Bool, true, false, refl, sym, ◌∙◌, ap, arith, Option, Some, None, inl, inr, subst, eq-eqb, zero, suc, ◌+◌, ◌<◌, ◌≤◌, min, ◌++◌, length, cond, get_or, set, replicate, get_or-set_same, get_or-set_other, length-set, ◌==◌, ◌⊎◌, ◌||◌, filter, nat_lt, IfSome, if◌then◌else◌, count_by}
use Rattle.acpi_base.specs.FromStd.{last_or, list_any}
use Rattle.acpi_base.proofs.FromStd.{nat_tests, get_or-eq_default, count_by-le-length, sum_by-cons, sum_by-set}
use Rattle.acpi_base.specs.Words.{InterruptSourceOverride, IsaInterrupt, SharedByOverrides, goes_to, isa_interrupt, is_taken, leads_to, override_for, straight, wired, AreCounted, Gathered, IsGathered}
use Rattle.acpi_base.specs.declared.model.interrupt.Polarity.TheVariants as polarity
use Rattle.acpi_base.specs.declared.model.interrupt.TriggerMode.TheVariants as trigger

-- what is found last passes the test, and what it passes besides some item does
abbrev IsOne : {X : Type 0} → (X → Bool) → (X → Bool) → List X → X → Type 0
IsOne p q xs o = (p o ≡ true) × (q o ≡ true → list_any q xs ≡ true)

or_right : (a b : Bool) → b ≡ true → (a || b) ≡ true
or_right true b h = refl
or_right false b h = h

or_left : (a b : Bool) → a ≡ true → (a || b) ≡ true
or_left true b h = refl
or_left false b h = absurd cc

later : {X : Type 0} (p q : X → Bool) (x : X) (xs : List X) (o : X) → IsOne p q xs o → IsOne p q (x ∷ xs) o
later p q x xs o h = (h.0, λ passes. or_right (q x) (list_any q xs) (h.1 passes))

at_front : {X : Type 0} (p q : X → Bool) (x : X) (xs : List X) (o : X) → p x ≡ true → x ≡ o → IsOne p q (x ∷ xs) o
at_front p q x xs o passes same =
    (subst (λ y. p y ≡ true) same passes, λ h. or_left (q x) (list_any q xs) (subst (λ y. q y ≡ true) (sym same) h))

last_one : {X : Type 0} (p q : X → Bool) (xs : List X) (b : Option X) (o : X) → last_or b (filter p xs) ≡ Some o
    → (b ≡ Some o) ⊎ IsOne p q xs o
last_one p q [] b o h = inl h
last_one p q (x ∷ xs) b o h =
    (elim (p x) as (λ t. p x ≡ t → last_or b (cond t (x ∷ filter p xs) (filter p xs)) ≡ Some o
    → (b ≡ Some o) ⊎ IsOne p q (x ∷ xs) o) [
      | true ↦ λ is h. (elim (last_one p q xs (Some x) o h) [
        | inl e ↦ (let same : x ≡ o = cc in inr (at_front p q x xs o is same))
        | inr more ↦ inr (later p q x xs o more)
      ])
      | false ↦ λ is h. (elim (last_one p q xs b o h) [
        | inl e ↦ inl e
        | inr more ↦ inr (later p q x xs o more)
      ])
    ]) refl h

-- an interrupt that a source's override leads to is taken
some_is : (x y : IsaInterrupt) → Some x ≡ Some y → x ≡ y
some_is x y e = cc

module _ (overrides : List InterruptSourceOverride) where
  led_by : (n s : ℕ) (o : InterruptSourceOverride) → override_for overrides s ≡ Some o
      → (o.global_system_interrupt == n) ≡ true → is_taken overrides n ≡ true
  led_by n s o e leads =
      elim (last_one (λ x. x.isa_source == s) (λ x. leads_to overrides n x.isa_source) overrides None o e) [
        | inl none ↦ absurd cc
        | inr one ↦ (let same : s ≡ o.isa_source = (let test : (o.isa_source == s) ≡ true = one.0 in
            grind (arith, nat_tests)) in
            let there : leads_to overrides n s ≡ true = subst (λ r. goes_to n r ≡ true) (sym e) leads in
            one.1 (subst (λ x. leads_to overrides n x ≡ true) same there))
      ]

  led_from : (n s : ℕ) (r : Option InterruptSourceOverride) → override_for overrides s ≡ r → goes_to n r ≡ true
      → is_taken overrides n ≡ true
  led_from n s None e leads = absurd cc
  led_from n s (Some o) e leads = led_by n s o e leads

  -- an interrupt that a source's override leads to is taken
  pub led : (n s : ℕ) → leads_to overrides n s ≡ true → is_taken overrides n ≡ true
  led n s leads = led_from n s (override_for overrides s) refl leads

  -- an ISA interrupt goes where its override leads, or one to one if that input is free
  abbrev GoesTo : ℕ → ℕ → Type 0
  GoesTo irq n = (leads_to overrides n irq ≡ true) ⊎ ((n ≡ irq) × (is_taken overrides irq ≡ false))

  goes_by : (irq : ℕ) (this : IsaInterrupt) (r : Option InterruptSourceOverride) (taken : Bool)
      → override_for overrides irq ≡ r → is_taken overrides irq ≡ taken
      → (elim r [
        | Some o ↦ Some (wired polarity.ActiveHigh trigger.Edge o)
        | None ↦ if taken then None else Some (straight polarity.ActiveHigh trigger.Edge irq)
      ]) ≡ Some this
      → GoesTo irq this.global_system_interrupt
  goes_by irq this (Some o) taken e t h =
      let same : wired polarity.ActiveHigh trigger.Edge o ≡ this = some_is _ _ h in
      let there : o.global_system_interrupt ≡ this.global_system_interrupt =
      ap (λ (i : IsaInterrupt). i.global_system_interrupt) same in
      inl (subst (λ r. goes_to this.global_system_interrupt r ≡ true) (sym e) (eq-eqb _ _ there))
  goes_by irq this None true e t h = absurd cc
  goes_by irq this None false e t h =
      let same : straight polarity.ActiveHigh trigger.Edge irq ≡ this = some_is _ _ h in
      inr (sym (ap (λ (i : IsaInterrupt). i.global_system_interrupt) same), t)

  goes_if : (irq : ℕ) (this : IsaInterrupt) (large : Bool)
      → (if large then None else (elim (override_for overrides irq) [
        | Some o ↦ Some (wired polarity.ActiveHigh trigger.Edge o)
        | None ↦ if is_taken overrides irq then None
            else Some (straight polarity.ActiveHigh trigger.Edge irq)
      ])) ≡ Some this
      → GoesTo irq this.global_system_interrupt
  goes_if irq this true h = absurd cc
  goes_if irq this false h = goes_by irq this (override_for overrides irq) (is_taken overrides irq) refl refl h

  goes : (irq : ℕ) (this : IsaInterrupt) → isa_interrupt overrides irq ≡ Some this
      → GoesTo irq this.global_system_interrupt
  goes irq this h = goes_if irq this (nat_lt 15 irq) h

  free : (n s m : ℕ) → is_taken overrides m ≡ false → n ≡ m → leads_to overrides n s ≡ true → ⊥
  free n s m is_free e leads =
      let taken : is_taken overrides m ≡ true = led m s (subst (λ x. leads_to overrides x s ≡ true) e leads) in cc

  both : (n irq other : ℕ) → (other ≡ irq → ⊥) → GoesTo irq n → GoesTo other n
      → (leads_to overrides n irq ≡ true) × (leads_to overrides n other ≡ true)
  both n irq other differ (inl this) (inl that) = (this, that)
  both n irq other differ (inl this) (inr that) = absurd (free n irq other that.1 that.0 this)
  both n irq other differ (inr this) (inl that) = absurd (free n other irq this.1 this.0 that)
  both n irq other differ (inr this) (inr that) = absurd (differ (sym that.0 ∙ this.0))

  pub if_shared : (irq : ℕ) (o : Option IsaInterrupt) → o ≡ isa_interrupt overrides irq
      → IfSome o (SharedByOverrides overrides irq)
  if_shared irq None is = tt
  if_shared irq (Some this) is = λ other that differ there same.
      both this.global_system_interrupt irq other differ (goes irq this (sym is))
      (subst (GoesTo other) same (goes other that there))

-- ---- what is gathered from Interrupt Source Overrides

-- what stands at a place after a write
written : {X : Type 0} (xs : List X) (i j : ℕ) (y d : X) (same : Bool) → (i == j) ≡ same → i < length xs
    → get_or (set xs i y) j d ≡ cond same y (get_or xs j d)
written xs i j y d true is fits =
    let e : i ≡ j = grind (arith, nat_tests) in
    subst (λ s. get_or (set xs i y) s d ≡ y) e (get_or-set_same xs i y d fits)
written xs i j y d false is fits =
    let differ : j ≡ i → ⊥ = grind (arith, nat_tests) in
    get_or-set_other xs i j y d differ

-- ---- before the first one

pub all_alike : {X : Type 0} (n i : ℕ) (x : X) → get_or (replicate n x) i x ≡ x
all_alike zero i x = refl
all_alike (suc n) zero x = refl
all_alike (suc n) (suc i) x = all_alike n i x

pub nothing_gathered : (m n : ℕ) → IsGathered [] (record { own = replicate m None; leads = replicate n 16 })
nothing_gathered m n = record {
  own = λ irq small. all_alike m irq None;
  leads = λ source irq small. subst (λ x. (x == irq) ≡ false) (sym (all_alike n source 16)) (grind (arith, nat_tests));
}

count_alike : (p : ℕ → Bool) (n x : ℕ) (passes : Bool) → p x ≡ passes → count_by p (replicate n x) ≡ cond passes n 0
count_alike p zero x true is = refl
count_alike p zero x false is = refl
count_alike p (suc n) x true is =
    let rest : count_by p (replicate n x) ≡ n = count_alike p n x true is in
    sum_by-cons (λ y. cond (p y) 1 0) x (replicate n x) ∙ subst (λ b. cond b 1 0 + count_by p (replicate n x) ≡ suc n)
    (sym is) (omega arith)
count_alike p (suc n) x false is =
    let rest : count_by p (replicate n x) ≡ 0 = count_alike p n x false is in
    sum_by-cons (λ y. cond (p y) 1 0) x (replicate n x) ∙ subst (λ b. cond b 1 0 + count_by p (replicate n x) ≡ 0)
    (sym is) (omega arith)

count_first : (counts : List ℕ) (n number : ℕ) (same : Bool) → 16 < length counts → (16 == number) ≡ same
    → get_or counts number 0 ≡ 0
    → get_or (set counts 16 n) number 0 ≡ count_by (λ x. x == number) (replicate n 16)
count_first counts n number true fits is none =
    written counts 16 number n 0 true is fits ∙ sym (count_alike (λ x. x == number) n 16 true is)
count_first counts n number false fits is none =
    written counts 16 number n 0 false is fits ∙ none ∙ sym (count_alike (λ x. x == number) n 16 false is)

pub nothing_counted : (counts : List ℕ) (n : ℕ) → 16 < length counts → ((number : ℕ) → get_or counts number 0 ≡ 0)
    → AreCounted (replicate n 16) (set counts 16 n)
nothing_counted counts n fits none = record {
  within = λ source. subst (λ x. x ≤ 16) (sym (all_alike n source 16)) (omega arith);
  each = λ number small. count_first counts n number (16 == number) fits refl (none number);
}

-- ---- one more

-- the last one that passes is the one that came last, if it passes
last_passing : {X : Type 0} (p : X → Bool) (b : Option X) (xs : List X) (x : X)
    → last_or b (filter p (xs ++ x ∷ [])) ≡ cond (p x) (Some x) (last_or b (filter p xs))
last_passing p b [] x = elim (p x) as (λ t. last_or b (cond t (x ∷ []) []) ≡ cond t (Some x) b) [
  | true ↦ refl
  | false ↦ refl
]
last_passing p b (y ∷ ys) x =
    elim (p y) as (λ t. last_or b (cond t (y ∷ filter p (ys ++ x ∷ [])) (filter p (ys ++ x ∷ [])))
    ≡ cond (p x) (Some x) (last_or b (cond t (y ∷ filter p ys) (filter p ys)))) [
      | true ↦ last_passing p (Some y) ys x
      | false ↦ last_passing p b ys x
    ]

-- each ISA interrupt has its override
abbrev pub OwnOf : List InterruptSourceOverride → List (Option InterruptSourceOverride) → Type 0
OwnOf overrides own = (irq : ℕ) → irq < 16 → get_or own irq None ≡ override_for overrides irq

pub own_if_below : (before : List InterruptSourceOverride) (o : InterruptSourceOverride)
    (own : List (Option InterruptSourceOverride)) → o.isa_source < length own
    → OwnOf before own → OwnOf (before ++ o ∷ []) (set own o.isa_source (Some o))
own_if_below before o own fits all irq small =
    written own o.isa_source irq (Some o) None (o.isa_source == irq) refl fits
    ∙ ap (cond (o.isa_source == irq) (Some o)) (all irq small)
    ∙ sym (last_passing (λ x. x.isa_source == irq) None before o)

pub own_if_above : (before : List InterruptSourceOverride) (o : InterruptSourceOverride)
    (own : List (Option InterruptSourceOverride)) → 16 ≤ o.isa_source
    → OwnOf before own → OwnOf (before ++ o ∷ []) own
own_if_above before o own above all irq small =
    let other : (o.isa_source == irq) ≡ false = grind (arith, nat_tests) in
    all irq small ∙ subst (λ t. override_for before irq ≡ cond t (Some o) (override_for before irq)) (sym other) refl
    ∙ sym (last_passing (λ x. x.isa_source == irq) None before o)

capped : (n to irq : ℕ) → irq < 16 → to ≡ min n 16 → (to == irq) ≡ (n == irq)
capped n to irq small is = grind (arith, nat_tests)

one_leads : (irq : ℕ) (before : List InterruptSourceOverride) (o : InterruptSourceOverride) (leads : List ℕ) (to : ℕ)
    → irq < 16 → o.isa_source < length leads
    → to ≡ min o.global_system_interrupt 16 → (source : ℕ)
    → (get_or leads source 16 == irq) ≡ leads_to before irq source
    → (same : Bool) → (o.isa_source == source) ≡ same
    → (get_or (set leads o.isa_source to) source 16 == irq) ≡ goes_to irq
    (cond same (Some o) (override_for before source))
one_leads irq before o leads to small fits is_to source led true is =
    ap (λ x. x == irq) (written leads o.isa_source source to 16 true is fits)
    ∙ capped o.global_system_interrupt to irq small is_to
one_leads irq before o leads to small fits is_to source led false is =
    ap (λ x. x == irq) (written leads o.isa_source source to 16 false is fits) ∙ led

pub one_gathered : (before : List InterruptSourceOverride) (o : InterruptSourceOverride) (g : Gathered)
    (own : List (Option InterruptSourceOverride)) (to : ℕ) → o.isa_source < length g.leads
    → to ≡ min o.global_system_interrupt 16
    → OwnOf (before ++ o ∷ []) own → IsGathered before g
    → IsGathered (before ++ o ∷ []) (record { own = own; leads = set g.leads o.isa_source to })
one_gathered before o g own to fits is_to is all = record {
  own = is;
  leads = λ source irq small.
      one_leads irq before o g.leads to small fits is_to source (all.leads source irq small)
      (o.isa_source == source) refl
      ∙ ap (goes_to irq) (sym (last_passing (λ x. x.isa_source == source) None before o));
}

-- ---- the counts

count_none : (p : ℕ → Bool) (xs : List ℕ) (d : ℕ) → ((source : ℕ) → p (get_or xs source d) ≡ false) → count_by p xs ≡ 0
count_none p [] d none = refl
count_none p (x ∷ xs) d none =
    let rest : count_by p xs ≡ 0 = count_none p xs d (λ source. none (suc source)) in
    let this : p x ≡ false = none 0 in
    sum_by-cons (λ x. cond (p x) 1 0) x xs ∙ subst (λ b. cond b 1 0 + count_by p xs ≡ 0) (sym this) (omega arith)

count_some : (p : ℕ → Bool) (xs : List ℕ) (d source : ℕ) → source < length xs → p (get_or xs source d) ≡ true
    → 0 < count_by p xs
count_some p [] d source fits leads = absurd (omega arith)
count_some p (x ∷ xs) d zero fits leads =
    subst (λ n. 0 < n) (sym (sum_by-cons (λ x. cond (p x) 1 0) x xs))
    (subst (λ b. 0 < cond b 1 0 + count_by p xs) (sym leads) (omega arith))
count_some p (x ∷ xs) d (suc source) fits leads =
    let rest : 0 < count_by p xs = count_some p xs d source (omega arith) leads in
    let all : count_by p (x ∷ xs) ≡ cond (p x) 1 0 + count_by p xs = sum_by-cons (λ x. cond (p x) 1 0) x xs in
    omega arith

count_found : (p : ℕ → Bool) (xs : List ℕ) (d source : ℕ) → p d ≡ false → p (get_or xs source d) ≡ true
    → 0 < count_by p xs
count_found p xs d source not leads =
    (elim (nat_lt source (length xs)) as (λ t. nat_lt source (length xs) ≡ t → 0 < count_by p xs) [
      | true ↦ λ is. count_some p xs d source (grind (arith, nat_tests)) leads
      | false ↦ λ is. let past : get_or xs source d ≡ d = get_or-eq_default xs d (grind (arith, nat_tests)) in absurd cc
    ]) refl

-- a count after one source leads elsewhere
recounted : (from_here to_here : Bool) (was less inner more final counted after : ℕ)
    → after + cond from_here 1 0 ≡ counted + cond to_here 1 0 → was ≡ counted
    → inner ≡ cond from_here less was → (from_here ≡ true → less + 1 ≡ was) → final ≡ cond to_here more inner
    → (to_here ≡ true → more ≡ inner + 1) → final ≡ after
recounted true true was less inner more final counted after moved is one less_is two more_is = let a : less + 1 ≡ was =
    less_is refl in let b : more ≡ inner + 1 = more_is refl in omega arith
recounted true false was less inner more final counted after moved is one less_is two more_is = let a : less + 1 ≡ was =
    less_is refl in omega arith
recounted false true was less inner more final counted after moved is one less_is two more_is =
    let b : more ≡ inner + 1 = more_is refl in omega arith
recounted false false was less inner more final counted after moved is one less_is two more_is = omega arith

module _ (leads counts : List ℕ) (source from : ℕ) (all : AreCounted leads counts) (fits : source < length leads)
    (is : get_or leads source 16 ≡ from) where
  pub from_fits : from ≤ 16
  from_fits = subst (λ n. n ≤ 16) is (all.within source)

  pub from_counted : 0 < get_or counts from 0
  from_counted =
      subst (λ n. 0 < n) (sym (all.each from from_fits))
      (count_some (λ x. x == from) leads 16 source fits (grind (arith, nat_tests)))

  each_few : (number : ℕ) → number ≤ 16 → get_or counts number 0 ≤ length leads
  each_few number small = subst (λ n. n ≤ length leads) (sym (all.each number small))
      (count_by-le-length (λ x. x == number) leads)

  -- no count is above the number of sources, also after one of them is less
  pub still_few : (to less : ℕ) → length counts ≡ 17 → to ≤ 16 → less ≤ get_or counts from 0
      → get_or (set counts from less) to 0 ≤ length leads
  still_few to less long small le = few (from == to) refl where
    few : (same : Bool) → (from == to) ≡ same → get_or (set counts from less) to 0 ≤ length leads
    few true same =
        subst (λ n. n ≤ length leads) (sym (written counts from to less 0 true same (let low : from ≤ 16 = from_fits in
        omega arith))) (let most = each_few from from_fits in omega arith)
    few false same =
        subst (λ n. n ≤ length leads) (sym (written counts from to less 0 false same (let low : from ≤ 16 = from_fits in
        omega arith))) (each_few to small)

  pub one_counted : (to less more : ℕ) → length counts ≡ 17 → to ≤ 16 → less + 1 ≡ get_or counts from 0
      → more ≡ get_or (set counts from less) to 0 + 1
      → AreCounted (set leads source to) (set (set counts from less) to more)
  one_counted to less more long small less_is more_is = record {
    within = λ s. within_at s (source == s) refl;
    each = λ number at_most.
        let moved : count_by (λ x. x == number) (set leads source to) + cond (from == number) 1 0
        ≡ count_by (λ x. x == number) leads + cond (to == number) 1 0 =
        subst (λ n. count_by (λ x. x == number) (set leads source to) + cond (n == number) 1 0
        ≡ count_by (λ x. x == number) leads + cond (to == number) 1 0) is
        (sum_by-set (λ x. cond (x == number) 1 0) leads source to 16 fits) in
        recounted (from == number) (to == number) (get_or counts number 0) less (get_or (set counts from less) number 0)
        more _ _ _ moved (all.each number at_most)
        (written counts from number less 0 (from == number) refl (let low : from ≤ 16 = from_fits in omega arith))
        (λ here. let e : from ≡ number = grind (arith, nat_tests) in
        subst (λ n. less + 1 ≡ get_or counts n 0) e less_is)
        (written (set counts from less) to number more 0 (to == number) refl (omega (arith, length-set {A = ℕ})))
        (λ here. let e : to ≡ number = grind (arith, nat_tests) in
        subst (λ n. more ≡ get_or (set counts from less) n 0 + 1) e more_is);
  } where
    within_at : (s : ℕ) (same : Bool) → (source == s) ≡ same → get_or (set leads source to) s 16 ≤ 16
    within_at s true same = subst (λ n. n ≤ 16) (sym (written leads source s to 16 true same fits)) small
    within_at s false same = subst (λ n. n ≤ 16) (sym (written leads source s to 16 false same fits)) (all.within s)

-- ---- the answer

some_source : (p : ℕ → Bool) (overrides : List InterruptSourceOverride)
    → list_any (λ o. p o.isa_source) overrides ≡ true → (source : ℕ) × (p source ≡ true)
some_source p [] is = absurd cc
some_source p (o ∷ more) is =
    (elim (p o.isa_source) as (λ t. p o.isa_source ≡ t → (t || list_any (λ x. p x.isa_source) more) ≡ true
    → (source : ℕ) × (p source ≡ true)) [
      | true ↦ λ this is. (o.isa_source, this)
      | false ↦ λ this is. some_source p more is
    ]) refl is

-- the input of a number is taken exactly if the last override of some source leads there
taken_if : (irq : ℕ) (overrides : List InterruptSourceOverride) (g : Gathered) → irq < 16 → IsGathered overrides g
    → (taken : Bool) → is_taken overrides irq ≡ taken
    → nat_lt 0 (count_by (λ leads. leads == irq) g.leads) ≡ taken
taken_if irq overrides g small all true is =
    let source : (s : ℕ) × (leads_to overrides irq s ≡ true) = some_source (leads_to overrides irq) overrides is in
    let some : 0 < count_by (λ leads. leads == irq) g.leads =
    count_found (λ leads. leads == irq) g.leads 16 source.0 (grind (arith, nat_tests))
    (all.leads source.0 irq small ∙ source.1) in
    grind (arith, nat_tests)
taken_if irq overrides g small all false is =
    let none : count_by (λ leads. leads == irq) g.leads ≡ 0 =
    count_none (λ leads. leads == irq) g.leads 16 (λ source. all.leads source irq small
    ∙ leads_nowhere source (leads_to overrides irq source) refl) in
    grind (arith, nat_tests) where
      leads_nowhere : (source : ℕ) (leads : Bool) → leads_to overrides irq source ≡ leads
          → leads_to overrides irq source ≡ false
      leads_nowhere source true e = let taken : is_taken overrides irq ≡ true = led overrides irq source e in absurd cc
      leads_nowhere source false e = e

without_own : (irq : ℕ) (overrides : List InterruptSourceOverride) (large : Bool) (own : Option InterruptSourceOverride)
    (taken : Bool)
    → nat_lt 15 irq ≡ large → override_for overrides irq ≡ own → is_taken overrides irq ≡ taken → large ≡ false
    → own ≡ None
    → isa_interrupt overrides irq ≡ (if taken then None else Some (straight polarity.ActiveHigh trigger.Edge irq))
without_own irq overrides large own taken l o t small none =
    rw (l, small, o, none, t) refl

-- of an interrupt without an override, by how many sources lead there
by_count : (irq : ℕ) (overrides : List InterruptSourceOverride) (g : Gathered) (taken : Bool) → IsGathered overrides g
    → irq < 16 → get_or g.own irq None ≡ None
    → nat_lt 0 (count_by (λ leads. leads == irq) g.leads) ≡ taken
    → isa_interrupt overrides irq ≡ (if taken then None else Some (straight polarity.ActiveHigh trigger.Edge irq))
by_count irq overrides g taken all small none is =
    without_own irq overrides (nat_lt 15 irq) (override_for overrides irq) taken refl refl
    (sym (taken_if irq overrides g small all (is_taken overrides irq) refl) ∙ is)
    (grind (arith, nat_tests))
    (sym (all.own irq small) ∙ none)

pub of_taken : (irq : ℕ) (overrides : List InterruptSourceOverride) (g : Gathered) (counts : List ℕ)
    → IsGathered overrides g → irq < 16 → get_or g.own irq None ≡ None
    → AreCounted g.leads counts → 0 < get_or counts irq 0 → None ≡ isa_interrupt overrides irq
of_taken irq overrides g counts all small none counted some =
    sym (by_count irq overrides g true all small none
    (subst (λ n. nat_lt 0 n ≡ true) (counted.each irq (omega arith)) (grind (arith, nat_tests))))

pub of_free : (irq : ℕ) (overrides : List InterruptSourceOverride) (g : Gathered) (counts : List ℕ)
    (this : IsaInterrupt) → IsGathered overrides g → irq < 16 → get_or g.own irq None ≡ None
    → AreCounted g.leads counts → get_or counts irq 0 ≤ 0 → this ≡ straight polarity.ActiveHigh trigger.Edge irq
    → Some this ≡ isa_interrupt overrides irq
of_free irq overrides g counts this all small none counted free is =
    ap Some is
    ∙ sym (by_count irq overrides g false all small none
    (subst (λ n. nat_lt 0 n ≡ false) (counted.each irq (omega arith)) (grind (arith, nat_tests))))
