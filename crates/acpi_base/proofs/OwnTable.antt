-- What the header of a table tells. A table is valid for a signature and a least length exactly if it is valid under
-- the
-- signature that it has, has this one, and is as long. And memories that agree on the ranges of a table have the same
-- table.
use Rattle.std.proofs.Common.{◌≡◌, ℕ, ◌≤◌, Bool, true, false, ◌&&◌, ◌+◌, List, [], ◌∷◌, length, take, drop, lit≤, Option, Some, None, Result, Ok, Err, refl, sym, ap, subst, ◌∙◌, arith, if◌then◌else◌, ◌==◌, nat_le, bytes_eq}
use Rattle.acpi_base.specs.FromStd.{result_ok, is_utf8}
use Rattle.acpi_base.proofs.FromStd.{and_from, and_parts, leb-true, le-leb, ne_eqb, drop-take, length-take-le, take-take, cond_some, bytes_eq-Decides, take-length}
use Rattle.acpi_bytes.proofs.LentRanges.{at-front, lent_bytes}
use Rattle.acpi_bytes.proofs.Steps.{bind_ok, holds_ok, some_lent, same_ok}
use Rattle.acpi_base.specs.Words.{IsBytes, field_of, part, sum_of, unchecked, and_own, check_names, check_of, own_of, check_table, header_at, Memory, IsMemory, at, rest_from, AgreesOn, DependsOn, accepted, own_accepted, own_accepted_ranges, own_kind, own_table_ranges, table_ranges, ◌>>=◌, holds, lent, kind, own_table_at, plain_kind, sdt_kind, table_at, Kind, AcpiError, SdtInvalidChecksum, SdtInvalidLength, SdtInvalidSignature, SdtHeader, Signature, letters_of}

abbrev only : {A : Type 0} → Bool → Option A → Option A
only b o = if b then o else None

-- the header has this signature
abbrev pub bears : Signature → SdtHeader → Bool
bears s h = bytes_eq h.signature.0 s.0

-- a table has this signature and has so many bytes
abbrev pub serves : Signature → ℕ → List ℕ → Bool
serves s least table = bears s (header_at table) && nat_le least (length table)

abbrev pub served : Signature → ℕ → Option (List ℕ) → Option (List ℕ)
served s least None = None
served s least (Some table) = only (serves s least table) (Some table)

-- ---- the five checks

-- what a table at an address has passed
pub record Passed (m : Memory) (k : Kind) (p : ℕ) (table : List ℕ) : Type 0 where
  pub head : List ℕ
  pub front : lent m p 36 ≡ Ok head
  pub names : k.names (header_at head) ≡ Ok tt
  pub long : nat_le k.least (header_at head).length ≡ true
  pub whole : lent m p (header_at head).length ≡ Ok table
  pub checked : check_of k table ≡ Ok tt

pub passed : (m : Memory) (k : Kind) (p : ℕ) (table : List ℕ) → table_at m k p ≡ Ok table → Passed m k p table
unfolding table_at
passed m k p table e =
    let head = bind_ok (lent m p 36) _ table e in
    let names = bind_ok (k.names (header_at head.0)) _ table head.2 in
    let long = holds_ok (nat_le k.least (header_at head.0).length) _ _ table names.2 in
    let whole = bind_ok (lent m p (header_at head.0).length) _ table long.1 in
    let checked = bind_ok (check_of k whole.0) _ table whole.2 in
    let same : whole.0 ≡ table = same_ok whole.0 table checked.2 in
    record {
      head = head.0;
      front = head.1;
      names = names.1;
      long = long.0;
      whole = subst (λ (b : List ℕ). lent m p (header_at head.0).length ≡ Ok b) same whole.1;
      checked = subst (λ (b : List ℕ). check_of k b ≡ Ok tt) same checked.1;
    }

pub passes : (m : Memory) (k : Kind) (p : ℕ) (table : List ℕ) → Passed m k p table → table_at m k p ≡ Ok table
unfolding table_at
passes m k p table h = rw (h.front, h.names, h.long, h.whole, h.checked) refl

-- ---- the whole table

-- a header's place in the table that it begins
pub part_within : (o n m : ℕ) (b : List ℕ) → n ≤ m → part (take (o + m) b) o n ≡ part b o n
part_within o n m b h = ap (take n) (drop-take o m b) ∙ take-take n m (drop o b) h

pub header_front : (b : List ℕ) → header_at (take 36 b) ≡ header_at b
unfolding header_at field_of
header_front b = rw (
  part_within 0 4 36 b (lit≤ tt),
  part_within 4 4 32 b (lit≤ tt),
  part_within 8 1 28 b (lit≤ tt),
  part_within 9 1 27 b (lit≤ tt),
  part_within 10 6 26 b (lit≤ tt),
  part_within 16 8 20 b (lit≤ tt),
  part_within 24 4 12 b (lit≤ tt),
  part_within 28 4 8 b (lit≤ tt),
  part_within 32 4 4 b (lit≤ tt),
) refl

same_some : {A : Type 0} {x y : A} → Some x ≡ Some y → x ≡ y
same_some e = cc

at_length : (m : Memory) (p n : ℕ) (b : List ℕ) → at m p n ≡ Some b → length b ≡ n
unfolding at
at_length m p n b e =
    let both = cond_some _ _ _ e in
    ap length (sym both.1) ∙ length-take-le n (rest_from m p) (leb-true _ _ both.0)

pub at_header : (m : Memory) (p n : ℕ) (b head : List ℕ) → at m p n ≡ Some b → at m p 36 ≡ Some head → 36 ≤ n
    → (header_at b ≡ header_at head) × (length b ≡ n)
at_header m p n b head whole front enough =
    let long = at_length m p n b whole in
    let whole_of_it : at m p (length b) ≡ Some b = rw long whole in
    let same : take 36 b ≡ head = same_some (sym (at-front m p 36 b whole_of_it (omega (arith, long))) ∙ front) in
    (sym (header_front b) ∙ ap header_at same, long)

-- the whole of a table has the header that was looked at, which has its length
pub is_whole : (m : Memory) (k : Kind) (p : ℕ) (table : List ℕ) → 36 ≤ k.least → (h : Passed m k p table)
    → (header_at table ≡ header_at h.head) × ((header_at table).length ≡ length table)
is_whole m k p table enough h =
    let long : 36 ≤ (header_at h.head).length =
    omega (arith, enough, leb-true k.least (header_at h.head).length h.long) in
    let both = at_header m p (header_at h.head).length table h.head (some_lent _ _ h.whole)
    (some_lent _ _ h.front) long in
    (both.0, ap (λ x. x.length) both.0 ∙ sym both.1)

-- ---- a table under its own signature

abbrev the_signature : List ℕ → Signature
the_signature letters = record { 0 = letters }

pub same_signature : (s : Signature) (h : SdtHeader) → bears s h ≡ true → h.signature ≡ s
same_signature s h e = ap the_signature ((bytes_eq-Decides h.signature.0 s.0).0 e)

is_named : (s : Signature) (h : SdtHeader) → check_names s h ≡ Ok tt → bears s h ≡ true
unfolding check_names
is_named s h e = (and_parts _ _ (holds_ok (bears s h && is_utf8 h.signature.0) _ _ tt e).0).0

pub own_accepted_is : (accept : ℕ) (m : Memory) (s : Signature) (p : ℕ) (head : List ℕ) → lent m p 36 ≡ Ok head
    → (header_at head).signature ≡ s → own_accepted accept m p ≡ table_at m (accepted accept (sdt_kind s 36)) p
unfolding own_accepted
own_accepted_is accept m s p head front own = rw front (ap (λ x. table_at m (accepted accept (sdt_kind x 36)) p) own)

own_from : (m : Memory) (s : Signature) (least p : ℕ) → 36 ≤ least → (table : List ℕ)
    → table_at m (kind s least (check_table s)) p ≡ Ok table
    → (own_accepted 0 m p ≡ Ok table) × (serves s least table ≡ true)
unfolding table_at
own_from m s least p enough table e =
    let h = passed m (kind s least (check_table s)) p table e in
    let is = is_whole m (kind s least (check_table s)) p table enough h in
    let own = is_named s (header_at h.head) h.names in
    let long = le-leb 36 (header_at h.head).length
    (omega (arith, enough, leb-true least (header_at h.head).length h.long)) in
    let plain : table_at m (plain_kind s) p ≡ Ok table = rw (h.front, h.names, long, h.whole, h.checked) refl in (
      own_accepted_is 0 m s p h.head h.front (same_signature s (header_at h.head) own) ∙ plain,
      and_from (bears s (header_at table)) (nat_le least (length table)) (rw is.0 own) (rw (← is.1, is.0) h.long),
    )

of_own : (m : Memory) (s : Signature) (least p : ℕ) (table : List ℕ) → own_accepted 0 m p ≡ Ok table
    → serves s least table ≡ true
    → table_at m (kind s least (check_table s)) p ≡ Ok table
unfolding own_accepted table_at
of_own m s least p table e serving =
    let both = and_parts _ _ serving in
    let first = bind_ok (lent m p 36) _ table e in
    let plain = plain_kind (header_at first.0).signature in
    let h = passed m plain p table first.2 in
    let is = is_whole m plain p table (lit≤ tt) h in
    let same : h.head ≡ first.0 = same_ok h.head first.0 (sym h.front ∙ first.1) in
    let own : (header_at first.0).signature ≡ s = ap (λ b. (header_at b).signature) (sym same)
    ∙ same_signature s (header_at h.head) (rw (← is.0) both.0) in
    let g = passed m (plain_kind s) p table (subst (λ x. table_at m (plain_kind x) p ≡ Ok table) own first.2) in
    let long = is_whole m (plain_kind s) p table (lit≤ tt) g in
    let enough : nat_le least (header_at g.head).length ≡ true = rw (← long.0, long.1) both.1 in
    rw (g.front, g.names, enough, g.whole, g.checked) refl

unserved : (b : Bool) (table : List ℕ) → (b ≡ true → ⊥) → None ≡ only b (Some table)
unserved true table never = absurd (never refl)
unserved false table never = refl

by_both : (s : Signature) (least : ℕ) (r own : Result (List ℕ) AcpiError)
    → ((t : List ℕ) → r ≡ Ok t → (own ≡ Ok t) × (serves s least t ≡ true))
    → ((t : List ℕ) → own ≡ Ok t → serves s least t ≡ true → r ≡ Ok t) → result_ok r ≡ served s least (result_ok own)
by_both s least (Ok t) own there back = let both = there t refl in rw (both.0, both.1) refl
by_both s least (Err d) (Ok t) there back = unserved (serves s least t) t (λ q. let other = back t refl q in cc)
by_both s least (Err d) (Err e) there back = refl

pub own_table_is : (m : Memory) (s : Signature) (least p : ℕ) → 36 ≤ least
    → result_ok (table_at m (kind s least (check_table s)) p) ≡ served s least (result_ok (own_accepted 0 m p))
own_table_is m s least p enough = by_both s least _ _ (own_from m s least p enough) (of_own m s least p)

pub own_signature : (s : Signature) (head : List ℕ) → letters_of s ≡ part head 0 4 → (header_at head).signature ≡ s
unfolding header_at
own_signature s head letters = ap the_signature (sym letters)

-- a header with these four letters has the signature that they were compared with
pub is_signature : (s t : Signature) (head : List ℕ) → letters_of t ≡ part head 0 4 → bytes_eq t.0 s.0 ≡ true
    → (header_at head).signature ≡ s
is_signature s t head letters same =
    own_signature t head letters ∙ ap the_signature ((bytes_eq-Decides t.0 s.0).0 same)

pub own_table : (m : Memory) (s : Signature) (p : ℕ) (head : List ℕ) → lent m p 36 ≡ Ok head
    → letters_of s ≡ part head 0 4
    → own_accepted 0 m p ≡ table_at m (plain_kind s) p
unfolding header_at
own_table m s p head front letters = own_accepted_is 0 m s p head front (ap the_signature (sym letters))

-- ---- before the checks of bytes, and then only the sum is left

-- what is known of a table that was claimed as one of a kind
pub names_there : (m : Memory) (k : Kind) (p : ℕ) (table : List ℕ) → 36 ≤ k.least
    → table_at m (unchecked k) p ≡ Ok table → k.names (header_at table) ≡ Ok tt
names_there m k p table enough e =
    let h = passed m (unchecked k) p table e in
    rw (is_whole m (unchecked k) p table enough h).0 h.names

pub length_there : (m : Memory) (k : Kind) (p : ℕ) (table : List ℕ) → 36 ≤ k.least
    → table_at m (unchecked k) p ≡ Ok table → (header_at table).length ≡ length table
length_there m k p table enough e =
    (is_whole m (unchecked k) p table enough (passed m (unchecked k) p table e)).1

-- a check of a type's own comes after what is left of the others
pub own_after : (own : Option (List ℕ → Result (Unit {0}) AcpiError)) (b : List ℕ)
    (checked : Result (Unit {0}) AcpiError) → and_own own b checked ≡ (checked >>= λ _. own_of own b)
own_after None b (Ok tt) = refl
own_after None b (Err e) = refl
own_after (Some own) b checked = refl

-- the checks of bytes are the last
check_last : (a b : Result (Unit {0}) AcpiError) (w : Result (List ℕ) AcpiError) (f : List ℕ
    → Result (List ℕ) AcpiError)
    → (a >>= λ _. b >>= λ _. w >>= f) ≡ ((a >>= λ _. b >>= λ _. w >>= λ t. Ok t) >>= f)
check_last (Ok x) (Ok y) (Ok t) f = refl
check_last (Ok x) (Ok y) (Err d) f = refl
check_last (Ok x) (Err d) w f = refl
check_last (Err d) b w f = refl

check_after : (m : Memory) (k : Kind) (p : ℕ) (r : Result (List ℕ) AcpiError) → lent m p 36 ≡ r
    → table_at m k p ≡ (table_at m (unchecked k) p >>= λ t. check_of k t >>= λ _. Ok t)
unfolding table_at
check_after m k p (Ok head) front =
    let long = holds (nat_le k.least (header_at head).length) (SdtInvalidLength k.signature) in
    rw front (check_last (k.names (header_at head)) long (lent m p (header_at head).length)
    (λ t. check_of k t >>= λ _. Ok t))
check_after m k p (Err d) front = rw front refl

pub checked_last : (m : Memory) (k : Kind) (p : ℕ)
    → table_at m k p ≡ (table_at m (unchecked k) p >>= λ t. check_of k t >>= λ _. Ok t)
checked_last m k p = check_after m k p (lent m p 36) refl

of_length : (s : Signature) (b : List ℕ) → nat_le 36 (length b) ≡ true → field_of b 4 4 ≡ length b
    → check_table s b ≡ (check_names s (header_at b) >>= λ _. holds (sum_of b == 0) (SdtInvalidChecksum s))
unfolding check_table
of_length s b long same =
    rw (
      same,
      and_from (nat_le 36 (length b)) (nat_le (length b) (length b)) long
          (le-leb (length b) (length b) (omega arith)),
      take-length b,
    ) refl

header_length : (b : List ℕ) → (header_at b).length ≡ field_of b 4 4
unfolding header_at
header_length b = refl

-- if Length is the number of bytes, the names and the sum are all that is left of the check, and then the sum
pub names_and_sum : (s : Signature) (b : List ℕ) → 36 ≤ length b → (header_at b).length ≡ length b
    → check_table s b ≡ (check_names s (header_at b) >>= λ _. holds (sum_of b == 0) (SdtInvalidChecksum s))
names_and_sum s b long same = of_length s b (le-leb 36 (length b) long) (sym (header_length b) ∙ same)

pub only_sum_left : (s : Signature) (b : List ℕ) → 36 ≤ length b → check_names s (header_at b) ≡ Ok tt
    → (header_at b).length ≡ length b
    → check_table s b ≡ holds (sum_of b == 0) (SdtInvalidChecksum s)
only_sum_left s b long names same = rw (names_and_sum s b long same, names) refl

pub bad_rest : (s : Signature) (b : List ℕ) → 36 ≤ length b → check_names s (header_at b) ≡ Ok tt
    → (header_at b).length ≡ length b
    → (sum_of b ≡ 0 → ⊥) → check_table s b ≡ Err (SdtInvalidChecksum s)
bad_rest s b long names same bad = rw (only_sum_left s b long names same, ne_eqb _ _ bad) refl

pub good_rest : (s : Signature) (b : List ℕ) → 36 ≤ length b → check_names s (header_at b) ≡ Ok tt
    → (header_at b).length ≡ length b
    → sum_of b ≡ 0 → check_table s b ≡ Ok tt
good_rest s b long names same good = rw (only_sum_left s b long names same, good) refl

-- ---- if the header isn't lent, or has another signature

pub no_header : (m : Memory) (k : Kind) (p : ℕ) (e : AcpiError) → lent m p 36 ≡ Err e → table_at m k p ≡ Err e
unfolding table_at
no_header m k p e refused = rw refused refl

pub refused_by_names : (m : Memory) (k : Kind) (p : ℕ) (head : List ℕ) (e : AcpiError) → lent m p 36 ≡ Ok head
    → k.names (header_at head) ≡ Err e → table_at m k p ≡ Err e
unfolding table_at
refused_by_names m k p head e front refused = rw (front, refused) refl

pub signature_first : (s : Signature) (h : SdtHeader) → bytes_eq h.signature.0 s.0 ≡ false
    → check_names s h ≡ Err (SdtInvalidSignature s)
unfolding check_names
signature_first s h other = rw other refl

pub another_signature : (m : Memory) (k : Kind) (p : ℕ) (head : List ℕ) → k.names ≡ check_names k.signature
    → lent m p 36 ≡ Ok head
    → bytes_eq (part head 0 4) k.signature.0 ≡ false
    → table_at m k p ≡ Err (SdtInvalidSignature k.signature)
unfolding header_at
another_signature m k p head own front other =
    refused_by_names m k p head _ front (rw own (signature_first k.signature (header_at head) other))

-- ---- in another memory

-- steps that go on in the same way after what they give
after : {A B : Type 0} (r : Result A AcpiError) (f g : A → Result B AcpiError) → ((x : A) → r ≡ Ok x → f x ≡ g x)
    → (r >>= f) ≡ (r >>= g)
after (Ok x) f g each = each x refl
after (Err e) f g each = refl

-- bytes depend on themselves
pub same_lent : (m n : Memory) (a size : ℕ) → AgreesOn m n ((a, size) ∷ []) → lent n a size ≡ lent m a size
same_lent m n a size h = rw (← h.0) refl

-- a table depends on its ranges, whatever is asked of it
pub same_table : (k : Kind) → DependsOn (λ m. table_ranges m k) (λ m. table_at m k)
unfolding table_at
same_table k m n p h =
    rw (← h.0) (after (lent m p 36) _ _ (λ head front.
    after (k.names (header_at head)) _ _ (λ _ names.
    after (holds (nat_le k.least (header_at head).length) (SdtInvalidLength k.signature)) _ _ (λ _ long.
    let whole = rw (front, names, long) at h.1 in
    rw (← whole.0) refl))))

pub same_own_accepted : (accept : ℕ) → DependsOn (own_accepted_ranges accept) (own_accepted accept)
unfolding own_accepted
same_own_accepted accept m n p h =
    rw (← h.0) (after (lent m p 36) _ _ (λ head front.
    same_table (own_kind accept (header_at head) 36) m n p (h.0, rw front (rw front at h.1))))

pub same_own_table : DependsOn own_table_ranges own_table_at
same_own_table = same_own_accepted 0

-- a table's bytes are bytes
pub table_bytes : (m : Memory) (k : Kind) (p : ℕ) (table : List ℕ) → IsMemory m → table_at m k p ≡ Ok table
    → IsBytes table
table_bytes m k p table h e =
    let passes = passed m k p table e in
    lent_bytes m p (header_at passes.head).length table h passes.whole
