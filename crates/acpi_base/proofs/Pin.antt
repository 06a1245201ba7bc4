-- The I/O APIC that is found has the nearest base, and is the first of that base.
use Rattle.std.proofs.Common.{◌≡◌, ℕ, ◌-◌, ◌≤◌, ◌<◌, List, [], ◌∷◌, ◌++◌, Bool, true, false, refl, ap, sym, subst, arith, Option, Some, None, ◌&&◌, nat_le, nat_lt, if◌then◌else◌, option_map}
use Rattle.acpi_base.specs.FromStd.{AllByRecursion}
use Rattle.acpi_base.proofs.FromStd.{nat_tests}
use Rattle.acpi_base.specs.Words.{IoApic, IsNearest, IsNoNearer, base_of, io_apic_for, nearer, nearest}

-- ---- one at a time from the front

-- whether an I/O APIC is nearer than the one so far
abbrev pub is_nearer : Option IoApic → IoApic → Bool
is_nearer None x = true
is_nearer (Some y) x = nat_lt (base_of y) (base_of x)

-- the nearer one of the two
abbrev pub kept : ℕ → Option IoApic → IoApic → Option IoApic
kept interrupt best x = if nat_le (base_of x) interrupt && is_nearer best x then Some x else best

-- the nearer one of the one so far and the nearest of those that are left
abbrev pub or_nearer : Option IoApic → Option IoApic → Option IoApic
or_nearer None later = later
or_nearer (Some x) None = Some x
or_nearer (Some x) (Some y) = if nat_lt (base_of x) (base_of y) then Some y else Some x

pub one_nearer : (interrupt : ℕ) (best : Option IoApic) (x : IoApic) (later : Option IoApic)
    → or_nearer (kept interrupt best x) later ≡ or_nearer best (nearer interrupt x later)
one_nearer interrupt None x None = grind (arith, nat_tests)
one_nearer interrupt None x (Some y) = grind (arith, nat_tests)
one_nearer interrupt (Some b) x None = grind (arith, nat_tests)
one_nearer interrupt (Some b) x (Some y) = grind (arith, nat_tests)

-- ---- in the reader's words

-- of the nearest one, without its pin
record IsFound (io_apics : List IoApic) (interrupt : ℕ) (x : IoApic) : Type 0 where
  before : List IoApic
  after : List IoApic
  listed : io_apics ≡ before ++ x ∷ after
  below : base_of x ≤ interrupt
  none_nearer : AllByRecursion (IsNoNearer interrupt (base_of x)) io_apics
  none_before : AllByRecursion (λ y. base_of y ≤ interrupt → base_of y < base_of x) before

abbrev Found : List IoApic → ℕ → Option IoApic → Type 0
Found io_apics interrupt (Some x) = IsFound io_apics interrupt x
Found io_apics interrupt None = AllByRecursion (λ x. interrupt < base_of x) io_apics

no_nearer_still : (interrupt a b : ℕ) (xs : List IoApic) → a ≤ b → AllByRecursion (IsNoNearer interrupt a) xs
    → AllByRecursion (IsNoNearer interrupt b) xs
no_nearer_still interrupt a b [] le all = tt
no_nearer_still interrupt a b (x ∷ xs) le all =
    ((λ h. let at : base_of x ≤ a = all.0 h in omega arith), no_nearer_still interrupt a b xs le all.1)

none_below : (interrupt b : ℕ) (xs : List IoApic) → AllByRecursion (λ x. interrupt < base_of x) xs
    → AllByRecursion (IsNoNearer interrupt b) xs
none_below interrupt b [] all = tt
none_below interrupt b (x ∷ xs) all = (
  (λ h. let above : interrupt < base_of x = all.0 in absurd (omega arith)),
  none_below interrupt b xs all.1,
)

this_one : (interrupt : ℕ) (x : IoApic) (more : List IoApic) → base_of x ≤ interrupt
    → AllByRecursion (IsNoNearer interrupt (base_of x)) more → IsFound (x ∷ more) interrupt x
this_one interrupt x more below all = record {
  before = [];
  after = more;
  listed = refl;
  below = below;
  none_nearer = ((λ h. omega arith), all);
  none_before = tt;
}

later_one : (interrupt : ℕ) (x y : IoApic) (more : List IoApic) → (base_of x ≤ interrupt → base_of x < base_of y)
    → IsFound more interrupt y → IsFound (x ∷ more) interrupt y
later_one interrupt x y more less f = record {
  before = x ∷ f.before;
  after = f.after;
  listed = ap (λ zs. x ∷ zs) f.listed;
  below = f.below;
  none_nearer = ((λ h. let under : base_of x < base_of y = less h in omega arith), f.none_nearer);
  none_before = (less, f.none_before);
}

one_more : (interrupt : ℕ) (x : IoApic) (more : List IoApic) (later : Option IoApic) → Found more interrupt later
    → Found (x ∷ more) interrupt (nearer interrupt x later)
one_more interrupt x more None f =
    (elim (nat_le (base_of x) interrupt) as (λ t. nat_le (base_of x) interrupt ≡ t
    → Found (x ∷ more) interrupt (if t then Some x else None)) [
      | true ↦ λ is. this_one interrupt x more (grind (arith, nat_tests)) (none_below interrupt (base_of x) more f)
      | false ↦ λ is. (grind (arith, nat_tests), f)
    ]) refl
one_more interrupt x more (Some y) f =
    (elim (nat_le (base_of x) interrupt && nat_le (base_of y) (base_of x)) as (λ t.
    (nat_le (base_of x) interrupt && nat_le (base_of y) (base_of x)) ≡ t
    → Found (x ∷ more) interrupt (if t then Some x else Some y)) [
      | true ↦ λ is. this_one interrupt x more (grind (arith, nat_tests))
          (no_nearer_still interrupt (base_of y) (base_of x) more (grind (arith, nat_tests)) f.none_nearer)
      | false ↦ λ is. later_one interrupt x y more (λ h. grind (arith, nat_tests)) f
    ]) refl

is_found : (interrupt : ℕ) (xs : List IoApic) → Found xs interrupt (nearest interrupt xs)
is_found interrupt [] = tt
is_found interrupt (x ∷ more) = one_more interrupt x more (nearest interrupt more) (is_found interrupt more)

with_pin : (interrupt : ℕ) (xs : List IoApic) (o : Option IoApic) → Found xs interrupt o
    → IsNearest xs interrupt (option_map (λ x. (x, interrupt - base_of x)) o)
with_pin interrupt xs None f = f
with_pin interrupt xs (Some x) f = record {
  before = f.before;
  after = f.after;
  listed = f.listed;
  at_pin = (let below : base_of x ≤ interrupt = f.below in omega arith);
  none_nearer = f.none_nearer;
  none_before = f.none_before;
}

pub is_nearest : (xs : List IoApic) (interrupt : ℕ) (o : Option (IoApic × ℕ)) → o ≡ io_apic_for xs interrupt
    → IsNearest xs interrupt o
is_nearest xs interrupt o is = subst (IsNearest xs interrupt) (sym is)
    (with_pin interrupt xs (nearest interrupt xs) (is_found interrupt xs))
