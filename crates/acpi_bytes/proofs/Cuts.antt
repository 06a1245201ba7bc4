-- Bytes are cut in exactly one way.
use Rattle.std.proofs.Common.{◌≡◌, ℕ, zero, suc, ◌+◌, ◌-◌, ◌≤◌, cond, List, [], ◌∷◌, ◌++◌, length, take, drop, Option, Some, None, refl, sym, ap, ◌∙◌, arith, append_assoc, length-append, length-drop, option_map, unwrap_or}
use Rattle.acpi_bytes.proofs.FromStd.{get_or_append_left, take_at, drop_at, take-append-drop, get_or-take, length-take-le, nat_tests}
use Rattle.acpi_bytes.specs.FromStd.{concat, AllByRecursion}
use Rattle.acpi_bytes.specs.Words.{IsEntry, IsCutOf, after_one, front, is_full, next_front, with_entry, cut_by, cut, least_length, number_at, number_in, width_of, OneCut, CutIsCut, EntryLayout, Grammar, Place, Width, One, Two, Four}
use Rattle.acpi_bytes.specs.Entries.{end_of, two_at}

-- ---- numbers in the front of bytes

two_append : (at : ℕ) (e x : List ℕ) → at + 2 ≤ length e → two_at at (e ++ x) ≡ two_at at e
two_append at e x l =
    rw (get_or_append_left e x 0 at (omega (arith, l)), get_or_append_left e x 0 (at + 1) (omega (arith, l))) refl

in_append : (w : Width) (at : ℕ) (e x : List ℕ) → at + width_of w ≤ length e
    → number_in w at (e ++ x) ≡ number_in w at e
in_append One at e x l = get_or_append_left e x 0 at (omega (arith, l))
in_append Two at e x l = two_append at e x l
in_append Four at e x l =
    rw (two_append at e x (omega (arith, l)), two_append (at + 2) e x (omega (arith, l))) refl

two_take : (at n : ℕ) (bytes : List ℕ) → at + 2 ≤ n → two_at at (take n bytes) ≡ two_at at bytes
two_take at n bytes l =
    rw (get_or-take n bytes at 0 (omega (arith, l)), get_or-take n bytes (at + 1) 0 (omega (arith, l))) refl

in_take : (w : Width) (at n : ℕ) (bytes : List ℕ) → at + width_of w ≤ n
    → number_in w at (take n bytes) ≡ number_in w at bytes
in_take One at n bytes l = get_or-take n bytes at 0 (omega (arith, l))
in_take Two at n bytes l = two_take at n bytes l
in_take Four at n bytes l =
    rw (two_take at n bytes (omega (arith, l)), two_take (at + 2) n bytes (omega (arith, l))) refl

at_append : (p : Place) (e x : List ℕ) → end_of p ≤ length e → number_at p (e ++ x) ≡ number_at p e
at_append p e x l = in_append p.width p.at e x l

at_take : (p : Place) (n : ℕ) (bytes : List ℕ) → end_of p ≤ n → number_at p (take n bytes) ≡ number_at p bytes
at_take p n bytes l = in_take p.width p.at n bytes l

some_end : (w : Width) (at : ℕ) → 1 ≤ at + width_of w
some_end One at = omega arith
some_end Two at = omega arith
some_end Four at = omega arith

-- ---- the front

pub front_is : {k : ℕ} (l : EntryLayout k) (bytes : List ℕ) (n : ℕ) → front l bytes ≡ Some n
    → IsEntry l (take n bytes) × (1 ≤ n) × (n ≤ length bytes)
unfolding front
front_is l bytes n e =
    let is : number_at l.length_place bytes ≡ n = grind (arith, nat_tests) in
    let kind_in : end_of l.kind_place ≤ n = grind (arith, nat_tests) in
    let length_in : end_of l.length_place ≤ n = grind (arith, nat_tests) in
    let least : least_length l (number_at l.kind_place bytes) ≤ n = grind (arith, nat_tests) in
    let within : n ≤ length bytes = grind (arith, nat_tests) in
    let long : length (take n bytes) ≡ n = length-take-le n bytes within in (
      record {
        entry_type = omega (arith, kind_in, long);
        header = omega (arith, length_in, long);
        size = at_take l.length_place n bytes length_in ∙ is ∙ sym long;
        least = rw (at_take l.kind_place n bytes kind_in, long) least;
      },
      omega (arith, length_in, some_end l.length_place.width l.length_place.at),
      within,
    )

-- an entry begins its bytes whatever comes after them
front_begins : {k : ℕ} (l : EntryLayout k) (e more : List ℕ) → IsEntry l e → front l (e ++ more) ≡ Some (length e)
unfolding front
front_begins l e more ee =
    let is_long : number_at l.length_place (e ++ more) ≡ length e =
    at_append l.length_place e more ee.header ∙ ee.size in
    let is_kind : number_at l.kind_place (e ++ more) ≡ number_at l.kind_place e =
    at_append l.kind_place e more ee.entry_type in
    let least : least_length l (number_at l.kind_place (e ++ more)) ≤ length e = rw is_kind ee.least in
    grind (arith, nat_tests, ee.entry_type, ee.header, length-append e more)

-- ---- pieces of any kind

-- the length of the piece at the front of bytes: at least 1, and no more than there are bytes
abbrev pub Within : (List ℕ → Option ℕ) → Type 0
Within size = (bytes : List ℕ) (n : ℕ) → size bytes ≡ Some n → (1 ≤ n) × (n ≤ length bytes)

-- what bytes begin with is a piece, and a piece begins its bytes whatever comes after them
pub record Fronts (Is : List ℕ → Type 0) (size : List ℕ → Option ℕ) : Type 0 where
  pub within : Within size
  pub is : (bytes : List ℕ) (n : ℕ) → size bytes ≡ Some n → Is (take n bytes)
  pub begins : (e more : List ℕ) → Is e → size (e ++ more) ≡ Some (length e)

entry_fronts : {k : ℕ} (l : EntryLayout k) → Fronts (IsEntry l) (front l)
entry_fronts l = record {
  within = λ bytes n e.
      let is = front_is l bytes n e in
      (is.1, is.2);
  is = λ bytes n e. (front_is l bytes n e).0;
  begins = front_begins l;
}

-- ---- as many as there are bytes are enough

-- what a front makes of the bytes, if at most that many pieces follow
abbrev cut_at : (List ℕ → Option ℕ) → ℕ → List ℕ → Option ℕ → List (List ℕ) × List ℕ
cut_at size most bytes o = elim o [
  | Some n ↦ with_entry (take n bytes) (cut_by size most (drop n bytes))
  | None ↦ ([], bytes)
]

none_in_none : (size : List ℕ → Option ℕ) → Within size → (most : ℕ) (bytes : List ℕ) (o : Option ℕ) → size bytes ≡ o
    → length bytes ≤ 0 → cut_at size most bytes o ≡ ([], bytes)
none_in_none size within most bytes None e none = refl
none_in_none size within most bytes (Some n) e none = absurd (omega (arith, within bytes n e, none))

same_at : (size : List ℕ → Option ℕ) → Within size → (a b : ℕ) (bytes : List ℕ) (o : Option ℕ) → size bytes ≡ o
    → ((n : ℕ) → 1 ≤ n → n ≤ length bytes → cut_by size a (drop n bytes) ≡ cut_by size b (drop n bytes))
    → cut_at size a bytes o ≡ cut_at size b bytes o
same_at size within a b bytes None e same = refl
same_at size within a b bytes (Some n) e same =
    let is = within bytes n e in
    ap (with_entry (take n bytes)) (same n is.0 is.1)

same_within : (size : List ℕ → Option ℕ) → Within size → (a b : ℕ) (bytes : List ℕ) → length bytes ≤ a
    → length bytes ≤ b → cut_by size a bytes ≡ cut_by size b bytes
same_within size within zero zero bytes l m = refl
same_within size within zero (suc b) bytes l m = sym (none_in_none size within b bytes (size bytes) refl l)
same_within size within (suc a) zero bytes l m = none_in_none size within a bytes (size bytes) refl m
same_within size within (suc a) (suc b) bytes l m =
    same_at size within a b bytes (size bytes) refl (λ n one few.
    same_within size within a b (drop n bytes) (omega (arith, length-drop n bytes, l, one))
    (omega (arith, length-drop n bytes, m, one)))

-- the pieces of bytes that begin with one
pub all_front : (size : List ℕ → Option ℕ) → Within size → (bytes : List ℕ) (n : ℕ) → size bytes ≡ Some n
    → cut_by size (length bytes) bytes
    ≡ with_entry (take n bytes) (cut_by size (length (drop n bytes)) (drop n bytes))
all_front size within bytes n e =
    let is = within bytes n e in
    same_within size within (length bytes) (suc (length bytes)) bytes (omega arith) (omega arith)
    ∙ ap (cut_at size (length bytes) bytes) e ∙ ap (with_entry (take n bytes))
    (same_within size within (length bytes) (length (drop n bytes)) (drop n bytes) (omega (arith, length-drop n bytes))
    (omega arith))

-- those of bytes that begin with none
pub stuck : (size : List ℕ → Option ℕ) (most : ℕ) (bytes : List ℕ) → size bytes ≡ None
    → cut_by size most bytes ≡ ([], bytes)
stuck size zero bytes e = refl
stuck size (suc most) bytes e = ap (cut_at size most bytes) e

-- ---- what is computed is a cut

one_byte : {Is : List ℕ → Type 0} {size : List ℕ → Option ℕ} → Fronts Is size → (e : List ℕ) → Is e → 1 ≤ length e
one_byte f e i = (f.within (e ++ []) (length e) (f.begins e [] i)).0

-- no more pieces than bytes
as_many : {Is : List ℕ → Type 0} {size : List ℕ → Option ℕ} → Fronts Is size → (es : List (List ℕ))
    → AllByRecursion Is es → length es ≤ length (concat es)
as_many f [] a = omega arith
as_many f (e ∷ es) a = omega (arith, as_many f es a.1, one_byte f e a.0, length-append e (concat es))

not_none : {A : Type 0} (o : Option A) (x : A) → o ≡ None → o ≡ Some x → ⊥
not_none o x none some = cc

step : {Is : List ℕ → Type 0} {size : List ℕ → Option ℕ} → Fronts Is size → (most : ℕ) (bytes : List ℕ) (o : Option ℕ)
    → size bytes ≡ o → ((n : ℕ) → let others : List (List ℕ) × List ℕ = cut_by size most (drop n bytes) in
    IsCutOf Is (Some most) (drop n bytes) others.0 others.1)
    → IsCutOf Is (Some (suc most)) bytes (cut_at size most bytes o).0 (cut_at size most bytes o).1
step {size = size} f most bytes None e others = record {
  whole = refl;
  entries = tt;
  few = λ bound same. omega arith;
  ends = λ p more w i. absurd (not_none (size bytes) (length p) e (ap size w ∙ f.begins p more i));
}
step {size = size} f most bytes (Some n) e others =
    let c = others n in
    let r : List (List ℕ) × List ℕ = cut_by size most (drop n bytes) in
    record {
      whole = sym (take-append-drop n bytes) ∙ ap (λ s. take n bytes ++ s) c.whole
          ∙ sym (append_assoc (take n bytes) (concat r.0) r.1);
      entries = (f.is bytes n e, c.entries);
      few = λ bound same.
          let is : suc most ≡ bound = cc in
          omega (arith, c.few most refl, is);
      ends = λ p more w i. ap (option_map suc) (c.ends p more w i);
    }

pub bounded_cut : {Is : List ℕ → Type 0} {size : List ℕ → Option ℕ} → Fronts Is size → (most : ℕ) (bytes : List ℕ)
    → IsCutOf Is (Some most) bytes (cut_by size most bytes).0 (cut_by size most bytes).1
bounded_cut f zero bytes = record {
  whole = refl;
  entries = tt;
  few = λ bound same. omega arith;
  ends = λ p more w i. refl;
}
bounded_cut {size = size} f (suc most) bytes =
    step f most bytes (size bytes) refl (λ n. bounded_cut f most (drop n bytes))

-- with a bound, or without one
pub is_cut_by : {Is : List ℕ → Type 0} {size : List ℕ → Option ℕ} → Fronts Is size → (most : Option ℕ) (bytes : List ℕ)
    → let r : List (List ℕ) × List ℕ = cut_by size (unwrap_or most (length bytes)) bytes in
    IsCutOf Is most bytes r.0 r.1
is_cut_by f (Some most) bytes = bounded_cut f most bytes
is_cut_by {size = size} f None bytes =
    let r : List (List ℕ) × List ℕ = cut_by size (length bytes) bytes in
    let c = bounded_cut f (length bytes) bytes in
    record {
      whole = c.whole;
      entries = c.entries;
      few = λ bound same. cc;
      ends = λ p more w i.
          let all : Some (length bytes) ≡ Some (length r.0) = c.ends p more w i in
          let same : length bytes ≡ length r.0 = cc in
          absurd (omega (
            arith,
            same,
            as_many f r.0 c.entries,
            one_byte f p i,
            ap length c.whole,
            length-append (concat r.0) r.1,
            ap length w,
            length-append p more,
          ));
    }

-- ---- and the only one

rest_stuck : {Is : List ℕ → Type 0} {size : List ℕ → Option ℕ} → Fronts Is size → (most : ℕ) (rest : List ℕ)
    (o : Option ℕ) → size rest ≡ o → ((e more : List ℕ) → rest ≡ e ++ more → Is e → suc most ≡ 0)
    → cut_at size most rest o ≡ ([], rest)
rest_stuck f most rest None e ends = refl
rest_stuck f most rest (Some n) e ends =
    absurd (omega (arith, ends (take n rest) (drop n rest) (sym (take-append-drop n rest)) (f.is rest n e)))

only : {Is : List ℕ → Type 0} {size : List ℕ → Option ℕ} → Fronts Is size → (most : ℕ) (es : List (List ℕ))
    (rest : List ℕ) → AllByRecursion Is es → length es ≤ most
    → ((e more : List ℕ) → rest ≡ e ++ more → Is e → most ≡ length es)
    → cut_by size most (concat es ++ rest) ≡ (es, rest)
only f zero [] rest are few ends = refl
only {size = size} f (suc most) [] rest are few ends = rest_stuck f most rest (size rest) refl ends
only f zero (e ∷ es) rest are few ends = absurd (omega (arith, few))
only {size = size} f (suc most) (e ∷ es) rest are few ends =
    let others = only f most es rest are.1 (omega (arith, few)) (λ p more w i. omega (arith, ends p more w i)) in
    let parts : with_entry (take (length e) (e ++ (concat es ++ rest)))
    (cut_by size most (drop (length e) (e ++ (concat es ++ rest)))) ≡ (e ∷ es, rest) =
    rw (take_at e (concat es ++ rest) (length e) refl, drop_at e (concat es ++ rest) (length e) refl, others) refl in
    rw (append_assoc e (concat es) rest)
    (ap (cut_at size most (e ++ (concat es ++ rest))) (f.begins e (concat es ++ rest) are.0) ∙ parts)

pub is_only : {Is : List ℕ → Type 0} {size : List ℕ → Option ℕ} → Fronts Is size → (most : Option ℕ) (bytes : List ℕ)
    (es : List (List ℕ)) (rest : List ℕ) → IsCutOf Is most bytes es rest
    → cut_by size (unwrap_or most (length bytes)) bytes ≡ (es, rest)
is_only {size = size} f (Some most) bytes es rest c =
    ap (cut_by size most) c.whole ∙ only f most es rest c.entries (c.few most refl) (λ p more w i.
    let all : Some most ≡ Some (length es) = c.ends p more w i in
    cc)
is_only {size = size} f None bytes es rest c =
    let few : length es ≤ length bytes =
    omega (arith, as_many f es c.entries, ap length c.whole, length-append (concat es) rest) in
    ap (cut_by size (length bytes)) c.whole ∙ only f (length bytes) es rest c.entries few (λ p more w i.
    let none : None ≡ Some (length es) = c.ends p more w i in
    absurd cc)

-- ---- entries

pub cut_is_cut : CutIsCut
unfolding cut
cut_is_cut n g bytes = is_cut_by (entry_fronts g.layout) g.most bytes

pub one_cut : OneCut
unfolding cut
one_cut n g bytes es fs rest more c d =
    let f = entry_fronts g.layout in
    let same = sym (is_only f g.most bytes es rest c) ∙ is_only f g.most bytes fs more d in
    (ap (λ x. x.0) same, ap (λ x. x.1) same)

-- what the test whether one may come says
next_some : (most : Option ℕ) (o : Option ℕ) (n : ℕ) → cond (is_full most) None o ≡ Some n → o ≡ Some n
next_some None o n e = e
next_some (Some zero) o n e = cc
next_some (Some (suc k)) o n e = e

-- an entry that comes first
pub next_is : {k : ℕ} (g : Grammar k) (bytes : List ℕ) (n : ℕ) → next_front g bytes ≡ Some n
    → IsEntry g.layout (take n bytes) × (1 ≤ n) × (n ≤ length bytes)
unfolding next_front
next_is g bytes n e = front_is g.layout bytes n (next_some g.most (front g.layout bytes) n e)

front_by : (size : List ℕ → Option ℕ) → Within size → (most : Option ℕ) (bytes : List ℕ) (n : ℕ)
    → cond (is_full most) None (size bytes) ≡ Some n → cut_by size (unwrap_or most (length bytes)) bytes
    ≡ with_entry (take n bytes)
    (cut_by size (unwrap_or (option_map (λ k. k - 1) most) (length (drop n bytes))) (drop n bytes))
front_by size within None bytes n e = all_front size within bytes n e
front_by size within (Some zero) bytes n e = cc
front_by size within (Some (suc k)) bytes n e =
    let less : suc k - 1 ≡ k = omega arith in
    rw less (ap (cut_at size k bytes) e)

-- the cut of bytes that begin with an entry
pub cut_front : {k : ℕ} (g : Grammar k) (bytes : List ℕ) (n : ℕ) → next_front g bytes ≡ Some n
    → cut g bytes ≡ with_entry (take n bytes) (cut (after_one g) (drop n bytes))
unfolding next_front cut
cut_front g bytes n e = front_by (front g.layout) (entry_fronts g.layout).within g.most bytes n e

stuck_by : (size : List ℕ → Option ℕ) (most : Option ℕ) (bytes : List ℕ) → cond (is_full most) None (size bytes) ≡ None
    → cut_by size (unwrap_or most (length bytes)) bytes ≡ ([], bytes)
stuck_by size None bytes e = stuck size (length bytes) bytes e
stuck_by size (Some zero) bytes e = refl
stuck_by size (Some (suc k)) bytes e = stuck size (suc k) bytes e

-- of bytes that begin with none, or if none may come
pub cut_stuck : {k : ℕ} (g : Grammar k) (bytes : List ℕ) → next_front g bytes ≡ None → cut g bytes ≡ ([], bytes)
unfolding next_front cut
cut_stuck g bytes e = stuck_by (front g.layout) g.most bytes e

-- ---- bytes that are entries to their end

front_length : {k : ℕ} (l : EntryLayout k) (bytes : List ℕ) (n : ℕ) → front l bytes ≡ Some n
    → number_at l.length_place bytes ≡ n
unfolding front
front_length l bytes n e = grind (arith, nat_tests)

next_length : {k : ℕ} (g : Grammar k) (bytes : List ℕ) (n : ℕ) → next_front g bytes ≡ Some n
    → number_at g.layout.length_place bytes ≡ n
unfolding next_front
next_length g bytes n e = front_length g.layout bytes n (next_some g.most (front g.layout bytes) n e)

whole_next : {k : ℕ} (g : Grammar k) (bytes : List ℕ) (o : Option ℕ) → next_front g bytes ≡ o → 1 ≤ length bytes
    → (cut g bytes).1 ≡ [] → next_front g bytes ≡ Some (number_at g.layout.length_place bytes)
whole_next g bytes None e some whole =
    let none : bytes ≡ [] = sym (ap (λ x. x.1) (cut_stuck g bytes e)) ∙ whole in
    absurd (omega (arith, some, ap length none))
whole_next g bytes (Some n) e some whole = e ∙ ap Some (sym (next_length g bytes n e))

-- the next one is as long as it says
pub whole_front : {k : ℕ} (g : Grammar k) (bytes : List ℕ) → 1 ≤ length bytes → (cut g bytes).1 ≡ []
    → next_front g bytes ≡ Some (number_at g.layout.length_place bytes)
whole_front g bytes some whole = whole_next g bytes (next_front g bytes) refl some whole

pub whole_header : {k : ℕ} (g : Grammar k) (bytes : List ℕ) → 1 ≤ length bytes → (cut g bytes).1 ≡ []
    → end_of g.layout.length_place ≤ length bytes
whole_header g bytes some whole =
    let n = number_at g.layout.length_place bytes in
    let f = next_is g bytes n (whole_front g bytes some whole) in
    omega (arith, f.0.header, f.2, length-take-le n bytes f.2)

empty_next : {k : ℕ} (g : Grammar k) (bytes : List ℕ) (o : Option ℕ) → next_front g bytes ≡ o → length bytes ≡ 0
    → cut g bytes ≡ ([], bytes)
empty_next g bytes None e none = cut_stuck g bytes e
empty_next g bytes (Some n) e none =
    let f = next_is g bytes n e in
    absurd (omega (arith, f.1, f.2, none))

-- no bytes have no entries
pub cut_empty : {k : ℕ} (g : Grammar k) (bytes : List ℕ) → length bytes ≡ 0 → cut g bytes ≡ ([], bytes)
cut_empty g bytes none = empty_next g bytes (next_front g bytes) refl none
