-- What is left to check of a table that a caller accepts.
use Rattle.std.proofs.Common.{◌≡◌, ℕ, ◌≤◌, ◌∙◌, List, Bool, true, false, ◌==◌, ◌||◌, Option, Some, None, Result, Ok, Err, ap, arith, refl, subst, sym, length, bytes_eq, if◌then◌else◌}
use Rattle.acpi_base.proofs.FromStd.{eqb-true, leb-true, ne_eqb}
use Rattle.acpi_base.proofs.OwnTable.{Passed, checked_last, is_whole, length_there, names_there, no_header, names_and_sum, only_sum_left, own_after, passed, passes, refused_by_names, signature_first}
use Rattle.acpi_bytes.proofs.Steps.{bind_ok}
use Rattle.acpi_base.specs.Words.{AcceptsNothing, AcceptsValid, AcpiError, IsGivenUp, KeepsChecks, KeepsNames, KeepsSums, Kind, Memory, OwnIsValid, SdtHeader, SdtInvalidChecksum, SdtInvalidOemId, SdtInvalidSignature, SdtInvalidTableId, Signature, accepted, and_own, check_ids, check_names, check_of, check_signature, has_bit, header_at, holds, left_of, lent, loosened, own_accepted, own_of, part, sdt_kind, sum_of, table_at, unchecked, whole_ranges, ◌>>=◌}

-- ---- the signature comes first

first_if : (any_ids : Bool) (k : Kind) (s : Signature) (h : SdtHeader) → k.signature ≡ s → k.names ≡ check_names s
    → bytes_eq h.signature.0 s.0 ≡ false
    → (if any_ids then check_signature k.signature else k.names) h ≡ Err (SdtInvalidSignature s)
first_if true k s h same names other = rw (same, other) refl
first_if false k s h same names other = rw names (signature_first s h other)

pub no_accepted : (accept : ℕ) (m : Memory) (k : Kind) (p : ℕ) (e : AcpiError) → lent m p 36 ≡ Err e
    → table_at m (accepted accept k) p ≡ Err e
no_accepted accept m k p e refused = no_header m (accepted accept k) p e refused

pub another_accepted : (accept : ℕ) (m : Memory) (k : Kind) (s : Signature) (p : ℕ) (head : List ℕ)
    → k.signature ≡ s → k.names ≡ check_names s → lent m p 36 ≡ Ok head → bytes_eq (part head 0 4) s.0 ≡ false
    → table_at m (accepted accept k) p ≡ Err (SdtInvalidSignature s)
unfolding header_at
another_accepted accept m k s p head same names front other = refused_by_names m (accepted accept k) p head _
    front (first_if (has_bit accept 1) k s (header_at head) same names other)

-- ---- the sum comes last

-- of a check that looks at nothing but the header and the sum, only the sum is left

sum_after : (any_sum any_ids : Bool) (s : Signature) (b : List ℕ) (good : Bool)
    → left_of any_sum any_ids s b (holds good (SdtInvalidChecksum s)) ≡ holds (any_sum || good) (SdtInvalidChecksum s)
sum_after true any_ids s b true = refl
sum_after false any_ids s b true = refl
sum_after true any_ids s b false = refl
sum_after false any_ids s b false = refl

after_ids : (any_sum : Bool) (s : Signature) (b : List ℕ) (oem id : Bool) (rest : Result (Unit {0}) AcpiError)
    → left_of any_sum true s b rest ≡ holds (any_sum || sum_of b == 0) (SdtInvalidChecksum s)
    → left_of any_sum true s b ((holds oem (SdtInvalidOemId s) >>= λ _. holds id (SdtInvalidTableId s)) >>= λ _. rest)
    ≡ holds (any_sum || sum_of b == 0) (SdtInvalidChecksum s)
after_ids any_sum s b true true rest e = e
after_ids any_sum s b true false rest e = refl
after_ids any_sum s b false id rest e = refl

sum_if : (any_sum any_ids : Bool) (s : Signature) (least : ℕ) (b : List ℕ) → 36 ≤ length b
    → (if any_ids then check_signature s else check_names s) (header_at b) ≡ Ok tt
    → (header_at b).length ≡ length b
    → (loosened any_sum any_ids (sdt_kind s least)).check b ≡ holds (any_sum || sum_of b == 0) (SdtInvalidChecksum s)
unfolding check_names
sum_if true true s least b long names same =
    rw (names_and_sum s b long same, names) (after_ids true s b _ _ _ (sum_after true true s b (sum_of b == 0)))
sum_if false true s least b long names same =
    rw (names_and_sum s b long same, names) (after_ids false s b _ _ _ (sum_after false true s b (sum_of b == 0)))
sum_if true false s least b long names same =
    rw (only_sum_left s b long names same) (sum_after true false s b (sum_of b == 0))
sum_if false false s least b long names same = only_sum_left s b long names same

sum_decides : (accept : ℕ) (m : Memory) (s : Signature) (least p : ℕ) (table : List ℕ) → 36 ≤ least
    → 36 ≤ length table → table_at m (unchecked (accepted accept (sdt_kind s least))) p ≡ Ok table
    → table_at m (accepted accept (sdt_kind s least)) p
    ≡ (holds (has_bit accept 0 || sum_of table == 0) (SdtInvalidChecksum s) >>= λ _. Ok table)
sum_decides accept m s least p table enough long claimed =
    let k = accepted accept (sdt_kind s least) in
    rw (
      checked_last m k p,
      claimed,
      sum_if (has_bit accept 0) (has_bit accept 1) s least table long
          (names_there m k p table enough claimed) (length_there m k p table enough claimed),
    ) refl

pub sum_refused : (accept : ℕ) (m : Memory) (s : Signature) (least p : ℕ) (table : List ℕ) → 36 ≤ least
    → 36 ≤ length table → table_at m (unchecked (accepted accept (sdt_kind s least))) p ≡ Ok table
    → has_bit accept 0 ≡ false → (sum_of table ≡ 0 → ⊥)
    → table_at m (accepted accept (sdt_kind s least)) p ≡ Err (SdtInvalidChecksum s)
sum_refused accept m s least p table enough long claimed strict bad =
    rw (sum_decides accept m s least p table enough long claimed, strict, ne_eqb _ _ bad) refl

or_right : (a b : Bool) → b ≡ true → (a || b) ≡ true
or_right true b e = refl
or_right false b e = e

pub sum_passed : (accept : ℕ) (m : Memory) (s : Signature) (least p : ℕ) (table : List ℕ) → 36 ≤ least
    → 36 ≤ length table → table_at m (unchecked (accepted accept (sdt_kind s least))) p ≡ Ok table
    → (has_bit accept 0 || sum_of table == 0) ≡ true → table_at m (accepted accept (sdt_kind s least)) p ≡ Ok table
sum_passed accept m s least p table enough long claimed passes =
    rw (sum_decides accept m s least p table enough long claimed, passes) refl

-- ---- of a type of tables whose check of a header is that of the names

pub own_unchecked : (accept : ℕ) (k : Kind) (s : Signature) (least : ℕ) → k.signature ≡ s → k.least ≡ least
    → k.names ≡ check_names s → unchecked (accepted accept k) ≡ unchecked (accepted accept (sdt_kind s least))
own_unchecked accept k s least signature fits names = rw (signature, fits, names) refl

pub own_ranges : (accept : ℕ) (k : Kind) (s : Signature) (least p : ℕ) (head : List ℕ) → k.signature ≡ s
    → k.least ≡ least → k.names ≡ check_names s
    → whole_ranges (accepted accept k) p head ≡ whole_ranges (accepted accept (sdt_kind s least)) p head
own_ranges accept k s least p head signature fits names = rw (signature, fits, names) refl

pub strict_names : (m : Memory) (s : Signature) (least p : ℕ) (table : List ℕ) → 36 ≤ least
    → table_at m (unchecked (accepted 0 (sdt_kind s least))) p ≡ Ok table → check_names s (header_at table) ≡ Ok tt
strict_names m s least p table enough claimed = names_there m (sdt_kind s least) p table enough claimed

pub strict_length : (m : Memory) (s : Signature) (least p : ℕ) (table : List ℕ) → 36 ≤ least
    → table_at m (unchecked (accepted 0 (sdt_kind s least))) p ≡ Ok table → (header_at table).length ≡ length table
strict_length m s least p table enough claimed = length_there m (sdt_kind s least) p table enough claimed

-- what is claimed is left to the kind's checks of bytes
pub accepted_last : (accept : ℕ) (m : Memory) (k : Kind) (s : Signature) (least p : ℕ) → k.signature ≡ s
    → k.least ≡ least → k.names ≡ check_names s
    → table_at m (accepted accept k) p
    ≡ (table_at m (unchecked (accepted accept (sdt_kind s least))) p >>= λ t. check_of
    (accepted accept k) t >>= λ _. Ok t)
accepted_last accept m k s least p signature fits names =
    subst (λ u. table_at m (accepted accept k) p
    ≡ (table_at m u p >>= λ t. check_of (accepted accept k) t >>= λ _. Ok t))
    (own_unchecked accept k s least signature fits names) (checked_last m (accepted accept k) p)

pub strict_last : (m : Memory) (k : Kind) (s : Signature) (least p : ℕ) → k.signature ≡ s → k.least ≡ least
    → k.names ≡ check_names s
    → table_at m k p
    ≡ (table_at m (unchecked (accepted 0 (sdt_kind s least))) p >>= λ t. check_of k t >>= λ _. Ok t)
strict_last m k s least p signature fits names = accepted_last 0 m k s least p signature fits names

-- if some checks are given up, what is left of the others decides, and then the check of the type's own
left_if : (any_sum any_ids : Bool) (k : Kind) (s : Signature) (b : List ℕ) → k.signature ≡ s
    → (any_sum || any_ids) ≡ true
    → check_of (loosened any_sum any_ids k) b ≡ and_own k.own b (left_of any_sum any_ids s b (k.check b))
left_if any_sum any_ids k s b same some = rw (some, same) refl

pub left_decides : (accept : ℕ) (k : Kind) (s : Signature) (b : List ℕ) → k.signature ≡ s
    → (has_bit accept 0 || has_bit accept 1) ≡ true
    → check_of (accepted accept k) b
    ≡ and_own k.own b (left_of (has_bit accept 0) (has_bit accept 1) s b (k.check b))
left_decides accept k s b same some = left_if (has_bit accept 0) (has_bit accept 1) k s b same some

none_if : (any_sum any_ids : Bool) (k : Kind) → (any_sum || any_ids) ≡ false → loosened any_sum any_ids k ≡ k
none_if true any_ids k none = absurd cc
none_if false true k none = absurd cc
none_if false false k none = refl

-- if no check is given up, a kind is as it was
pub none_given_up : (accept : ℕ) (k : Kind) → (has_bit accept 0 || has_bit accept 1) ≡ false → accepted accept k ≡ k
none_given_up accept k none = none_if (has_bit accept 0) (has_bit accept 1) k none

-- ---- the laws

pub accepts_nothing : AcceptsNothing
accepts_nothing k = refl

pub own_is_valid : OwnIsValid
unfolding own_accepted
own_is_valid m p = refl

held : (b : Bool) (e : AcpiError) → holds b e ≡ Ok tt → b ≡ true
held true e is = refl
held false e is = absurd cc

-- what an accepted table has passed, by its own header
accepted_long : (accept : ℕ) (m : Memory) (s : Signature) (least p : ℕ) (table : List ℕ) → 36 ≤ least
    → (h : Passed m (accepted accept (sdt_kind s least)) p table) → 36 ≤ length table
accepted_long accept m s least p table enough h =
    let is = is_whole m (accepted accept (sdt_kind s least)) p table enough h in
    omega (arith, enough, leb-true least (header_at h.head).length h.long, ap (λ x. x.length) is.0, is.1)

accepted_names : (accept : ℕ) (m : Memory) (s : Signature) (least p : ℕ) (table : List ℕ) → 36 ≤ least
    → (h : Passed m (accepted accept (sdt_kind s least)) p table)
    → (accepted accept (sdt_kind s least)).names (header_at table) ≡ Ok tt
accepted_names accept m s least p table enough h =
    rw (is_whole m (accepted accept (sdt_kind s least)) p table enough h).0 h.names

pub keeps_names : KeepsNames
keeps_names accept m s least p table enough strict e =
    let h = passed m (accepted accept (sdt_kind s least)) p table e in
    rw strict at (accepted_names accept m s least p table enough h)

pub keeps_sums : KeepsSums
keeps_sums accept m s least p table enough strict e =
    let k = accepted accept (sdt_kind s least) in
    let h = passed m k p table e in
    let checked = sum_if (has_bit accept 0) (has_bit accept 1) s least table
    (accepted_long accept m s least p table enough h) (accepted_names accept m s least p table enough h)
    (is_whole m k p table enough h).1 in
    let passes = held (has_bit accept 0 || sum_of table == 0) (SdtInvalidChecksum s) (sym checked ∙ h.checked) in
    eqb-true _ _ (rw strict at passes)

names_right : (s : Signature) (h : SdtHeader) → check_names s h ≡ Ok tt → check_signature s h ≡ Ok tt
unfolding check_names
names_right s h e = (bind_ok (check_signature s h) (λ _. check_ids s h) tt e).1

names_left_if : (any_ids : Bool) (k : Kind) (h : SdtHeader) → k.names ≡ check_names k.signature → k.names h ≡ Ok tt
    → (if any_ids then check_signature k.signature else k.names) h ≡ Ok tt
names_left_if true k h names e = names_right k.signature h (subst (λ f. f h ≡ Ok tt) names e)
names_left_if false k h names e = e

checked_right : (any_sum any_ids : Bool) (k : Kind) (b : List ℕ) → k.check b ≡ Ok tt
    → (loosened any_sum any_ids k).check b ≡ Ok tt
checked_right true any_ids k b e = rw e refl
checked_right false true k b e = rw e refl
checked_right false false k b e = e

-- both pass if the whole does, and the other way round
both_pass : (own : Option (List ℕ → Result (Unit {0}) AcpiError)) (b : List ℕ) (checked : Result (Unit {0}) AcpiError)
    → and_own own b checked ≡ Ok tt → (checked ≡ Ok tt) × (own_of own b ≡ Ok tt)
both_pass own b (Ok tt) e = (refl, sym (own_after own b (Ok tt)) ∙ e)
both_pass None b (Err d) e = absurd cc
both_pass (Some own) b (Err d) e = absurd cc

pass_both : (own : Option (List ℕ → Result (Unit {0}) AcpiError)) (b : List ℕ) (checked : Result (Unit {0}) AcpiError)
    → checked ≡ Ok tt → own_of own b ≡ Ok tt → and_own own b checked ≡ Ok tt
pass_both own b checked e f = own_after own b checked ∙ rw (e, f) refl

pub accepts_valid : AcceptsValid
accepts_valid accept m k p table names e =
    let h = passed m k p table e in
    passes m (accepted accept k) p table (record {
      head = h.head;
      front = h.front;
      names = names_left_if (has_bit accept 1) k (header_at h.head) names h.names;
      long = h.long;
      whole = h.whole;
      checked = pass_both k.own table _
          (checked_right (has_bit accept 0) (has_bit accept 1) k table (both_pass k.own table _ h.checked).0)
          (both_pass k.own table _ h.checked).1;
    })

given_up : (any_sum any_ids : Bool) (accept : ℕ) (s : Signature) (b : List ℕ) (checked : Result (Unit {0}) AcpiError)
    → has_bit accept 0 ≡ any_sum → has_bit accept 1 ≡ any_ids → left_of any_sum any_ids s b checked ≡ Ok tt
    → IsGivenUp accept checked
given_up any_sum any_ids accept s b checked sum ids e = grind arith

given_up_if : (any_sum any_ids : Bool) (accept : ℕ) (k : Kind) (b : List ℕ) → has_bit accept 0 ≡ any_sum
    → has_bit accept 1 ≡ any_ids → (loosened any_sum any_ids k).check b ≡ Ok tt → IsGivenUp accept (k.check b)
given_up_if true any_ids accept k b sum ids e = given_up true any_ids accept k.signature b (k.check b) sum ids e
given_up_if false true accept k b sum ids e = given_up false true accept k.signature b (k.check b) sum ids e
given_up_if false false accept k b sum ids e = rw e tt

pub keeps_checks : KeepsChecks
keeps_checks accept m k p table e =
    let both = both_pass k.own table _ (passed m (accepted accept k) p table e).checked in
    (given_up_if (has_bit accept 0) (has_bit accept 1) accept k table refl refl both.0, both.1)
