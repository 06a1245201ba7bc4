-- Pieces say their own lengths, and bytes are cut into them in one way; hops are cut into a path and others after it.
use Rattle.std.proofs.Common.{◌≡◌, ℕ, ◌-◌, ◌≤◌, Bool, true, cond, List, [], ◌∷◌, ◌++◌, length, take, drop, Option, Some, None, refl, sym, ap, ◌∙◌, subst, arith, length-append, length-drop, leb, ◌+◌, ◌&&◌, filter, is_some, slice_get}
use Rattle.std.proofs.lemmas.Option.{option_and_then_some}
use Rattle.acpi_bytes.proofs.Cuts.{Fronts, Within, all_front, bounded_cut, is_cut_by, is_only, stuck}
use Rattle.acpi_base.proofs.FromStd.{cond_some, and_parts, and_from, eqb-true, leb-true, le-leb, nat_tests, take_all, drop-take, take-take, length-take-le, append-nil, take-append-le, drop-append-le}
use Rattle.acpi_base.specs.FromStd.{concat, list_all, list_any, prefix_len}
use Rattle.acpi_base.specs.Words.{with_entry, field_of}
use Rattle.acpi_iommu.specs.Words.{FrontIsFront, is_front, is_same_hop, scope_size, IsCut, IsPiece, OneCut, SaysItself, front, pieces, valid_length, Hop, kind_of, structure_size, block_kind, block_size, entry_kind, entry_size, own_size}
use Rattle.acpi_iommu.specs.Dmar as dmar
use Rattle.acpi_iommu.specs.Ivrs as ivrs

-- ---- the piece at the front of bytes

pub front_within : (size : List ℕ → Option ℕ) (bytes : List ℕ) (n : ℕ) → front size bytes ≡ Some n
    → (size bytes ≡ Some n) × (1 ≤ n) × (n ≤ length bytes)
front_within size bytes n e =
    option_and_then_some (λ m. cond (leb 1 m && leb m (length bytes)) (Some m) None) (size bytes) n e (λ m is f.
    let t = cond_some (leb 1 m && leb m (length bytes)) m n f in
    let p = and_parts (leb 1 m) (leb m (length bytes)) t.0 in
    (is ∙ ap Some t.1, omega (arith, leb-true 1 m p.0, t.1), omega (arith, leb-true m (length bytes) p.1, t.1)))

front_from : (size : List ℕ → Option ℕ) (bytes : List ℕ) (n : ℕ) → size bytes ≡ Some n → 1 ≤ n → n ≤ length bytes
    → front size bytes ≡ Some n
front_from size bytes n e one within = rw (e, le-leb 1 n one, le-leb n (length bytes) within) refl

within : (size : List ℕ → Option ℕ) → Within (front size)
within size bytes n e =
    let is = front_within size bytes n e in
    (is.1, is.2)

-- the pieces of bytes that begin with one
pub pieces_front : (size : List ℕ → Option ℕ) (bytes : List ℕ) (n : ℕ) → front size bytes ≡ Some n
    → pieces size bytes ≡ with_entry (take n bytes) (pieces size (drop n bytes))
unfolding pieces
pieces_front size bytes n e = all_front (front size) (within size) bytes n e

-- those of bytes that begin with none
pub pieces_stuck : (size : List ℕ → Option ℕ) (bytes : List ℕ) → front size bytes ≡ None
    → pieces size bytes ≡ ([], bytes)
unfolding pieces
pieces_stuck size bytes e = stuck (front size) (length bytes) bytes e

-- ---- a piece by itself

-- it begins its bytes whatever comes after them
begins : (size : List ℕ → Option ℕ) → SaysItself size → (p more : List ℕ) → IsPiece size p
    → front size (p ++ more) ≡ Some (length p)
begins size says p more e =
    let is = front_within size p (length p) e in
    let again : size (p ++ more) ≡ Some (length p) =
    sym (ap (λ b. size (b ++ more)) (take_all (length p) p (omega arith))) ∙ says p more (length p) is.0 is.2 in
    front_from size (p ++ more) (length p) again is.1 (omega (arith, length-append p more))

-- the one at the front of bytes
front_is : (size : List ℕ → Option ℕ) → SaysItself size → (bytes : List ℕ) (n : ℕ) → front size bytes ≡ Some n
    → IsPiece size (take n bytes)
front_is size says bytes n e =
    let is = front_within size bytes n e in
    let long : length (take n bytes) ≡ n = length-take-le n bytes is.2 in
    let again : size (take n bytes) ≡ Some n = sym (ap size (append-nil (take n bytes))) ∙ says bytes [] n is.0 is.2 in
    front_from size (take n bytes) n again is.1 (omega (arith, long)) ∙ ap Some (sym long)

fronts : (size : List ℕ → Option ℕ) → SaysItself size → Fronts (IsPiece size) (front size)
fronts size says = record { within = within size; is = front_is size says; begins = begins size says }

-- ---- the only cut

pub one_cut : (size : List ℕ → Option ℕ) → SaysItself size → OneCut size
unfolding pieces
one_cut size says bytes ps rest = (
  λ c. is_only (fronts size says) None bytes ps rest c,
  λ e. subst (λ x. IsCut size bytes x.0 x.1) e (is_cut_by (fronts size says) None bytes),
)

-- the pieces and the rest are all bytes
pub cut_whole : (size : List ℕ → Option ℕ) → SaysItself size → (bytes : List ℕ)
    → length (concat (pieces size bytes).0) + length (pieces size bytes).1 ≡ length bytes
cut_whole size says bytes =
    let c = (one_cut size says bytes (pieces size bytes).0 (pieces size bytes).1).1 refl in
    let all = ap length c.whole in
    omega (arith, all, length-append (concat (pieces size bytes).0) (pieces size bytes).1)

-- what is left where no piece begins is the rest
pub stuck_rest : (size : List ℕ → Option ℕ) → SaysItself size → (bytes : List ℕ) → (pieces size bytes).0 ≡ []
    → (pieces size bytes).1 ≡ bytes
stuck_rest size says bytes none =
    let c = (one_cut size says bytes (pieces size bytes).0 (pieces size bytes).1).1 refl in
    sym (rw none at c.whole)

-- no more pieces begin in bytes than there are of these
pub pieces_few : (size : List ℕ → Option ℕ) → SaysItself size → (bytes : List ℕ)
    → length (pieces size bytes).0 ≤ length bytes
unfolding pieces
pieces_few size says bytes = (bounded_cut (fronts size says) (length bytes) bytes).few (length bytes) refl

-- ---- fields in the front of bytes

-- a field among the first n bytes is the same whatever comes after them
kept : (bytes more : List ℕ) (n at width : ℕ) → n ≤ length bytes → at + width ≤ n
    → field_of (take n bytes ++ more) at width ≡ field_of bytes at width
unfolding field_of
kept bytes more n at width within inside =
    let long = length-take-le n bytes within in
    let some : width ≤ length (drop at (take n bytes)) = omega (arith, inside, long, length-drop at (take n bytes)) in
    let room : at + (n - at) ≡ n = omega arith in
    let cut : drop at (take n bytes) ≡ take (n - at) (drop at bytes) = rw room at (drop-take at (n - at) bytes) in
    rw (drop-append-le at (take n bytes) more (omega (arith, inside, long)))
    (rw (take-append-le width (drop at (take n bytes)) more some, cut, take-take width (n - at) (drop at bytes) (omega arith))
    refl)

-- ---- a length that a piece says

-- if the least length and the length stand among as many bytes as each piece has
said_size : (least size : List ℕ → ℕ) (header : ℕ) → ((bytes : List ℕ) → header ≤ least bytes)
    → ((bytes more : List ℕ) (n : ℕ) → n ≤ length bytes → header ≤ n
    → (least (take n bytes ++ more) ≡ least bytes) × (size (take n bytes ++ more) ≡ size bytes))
    → SaysItself (λ b. valid_length (least b) (size b))
said_size least size header has same bytes more n e within =
    let is = cond_some (leb (least bytes) (size bytes)) (size bytes) n e in
    let again = same bytes more n within (omega (arith, has bytes, leb-true (least bytes) (size bytes) is.0, is.1)) in
    ap (λ l. valid_length l (size (take n bytes ++ more))) again.0 ∙ ap (λ s. valid_length (least bytes) s) again.1 ∙ e

pub structure_is : SaysItself structure_size
structure_is =
    said_size (λ b. dmar.least_of (kind_of b)) (λ b. field_of b 2 2) 4 (λ b. grind (arith, nat_tests))
    (λ bytes more n within four. (
      ap dmar.least_of (kept bytes more n 0 2 within (omega (arith, four))),
      kept bytes more n 2 2 within (omega (arith, four)),
    ))

pub scope_is : SaysItself scope_size
scope_is =
    said_size (λ b. 6) (λ b. field_of b 1 1) 6 (λ b. omega arith) (λ bytes more n within six.
    (refl, kept bytes more n 1 1 within (omega (arith, six))))

pub block_is : SaysItself block_size
block_is =
    said_size (λ b. ivrs.least_of (block_kind b)) (λ b. field_of b 2 2) 4 (λ b. grind (arith, nat_tests))
    (λ bytes more n within four. (
      ap ivrs.least_of (kept bytes more n 0 1 within (omega (arith, four))),
      kept bytes more n 2 2 within (omega (arith, four)),
    ))

-- ---- device entries

own_some : (e : List ℕ) → 4 ≤ own_size e
own_some e = grind (arith, nat_tests)

own_least : (e : List ℕ) (n : ℕ) → entry_size e ≡ Some n → own_size e ≤ n
own_least e n is = grind (arith, nat_tests)

own_same : (a b : List ℕ) (n : ℕ) → own_size b ≤ n → entry_kind a ≡ entry_kind b
    → (22 ≤ n → field_of a 21 1 ≡ field_of b 21 1) → own_size a ≡ own_size b
own_same a b n least kind id = grind (arith, nat_tests)

size_same : (a b : List ℕ) (n : ℕ) → entry_size b ≡ Some n → entry_kind a ≡ entry_kind b → own_size a ≡ own_size b
    → (own_size b + 4 ≤ n → field_of a (own_size b) 1 ≡ field_of b (own_size b) 1) → entry_size a ≡ Some n
size_same a b n is kind own marked = grind (arith, nat_tests)

pub entry_is : SaysItself entry_size
entry_is bytes more n e within =
    let least = own_least bytes n e in
    let some = own_some bytes in
    let all = take n bytes ++ more in
    let kind = kept bytes more n 0 1 within (omega (arith, some, least)) in
    let own = own_same all bytes n least kind (λ far. kept bytes more n 21 1 within (omega (arith, far))) in
    size_same all bytes n e kind own (λ far. kept bytes more n (own_size bytes) 1 within (omega (arith, far)))

-- ---- what walks make of lists

-- every piece passes where there is nothing to test
pub all_pass : {X : Type 0} (xs : List X) → list_all (λ x. true) xs ≡ true
all_pass [] = refl
all_pass (x ∷ xs) = all_pass xs

-- some piece passes if one is left of those that do
pub some_passes : {X : Type 0} (test : X → Bool) (xs : List X)
    → list_any test xs ≡ is_some (slice_get (filter test xs) 0)
some_passes test [] = refl
some_passes test (x ∷ xs) = grind (arith, nat_tests, some_passes test xs)

-- no more pass from the front on than there are
pub prefix_few : {X : Type 0} (p : X → Bool) (xs : List X) → prefix_len p xs ≤ length xs
prefix_few p [] = omega arith
prefix_few p (x ∷ xs) = grind (arith, nat_tests, prefix_few p xs)

-- ---- a path and others

same_is : (a b : Hop) → is_same_hop a b ≡ true → a ≡ b
same_is a b e =
    let p = and_parts _ _ e in
    rw (eqb-true a.device b.device p.0, eqb-true a.function b.function p.1) refl

same_self : (a : Hop) → is_same_hop a a ≡ true
same_self a = grind (arith, nat_tests)

others : (path hops : List Hop) → is_front path hops ≡ true → (rest : List Hop) × (hops ≡ path ++ rest)
others [] hops e = (hops, refl)
others (p ∷ path) [] e = absurd cc
others (p ∷ path) (h ∷ hops) e =
    let parts = and_parts (is_same_hop p h) (is_front path hops) e in
    let more = others path hops parts.1 in
    (more.0, ap (λ x. x ∷ hops) (sym (same_is p h parts.0)) ∙ ap (λ xs. p ∷ xs) more.1)

is_front_of : (path rest : List Hop) → is_front path (path ++ rest) ≡ true
is_front_of [] rest = refl
is_front_of (p ∷ path) rest = and_from (is_same_hop p p) (is_front path (path ++ rest)) (same_self p)
    (is_front_of path rest)

pub front_is_front : FrontIsFront
front_is_front path hops = (others path hops, λ r. rw r.1 (is_front_of path r.0))
