-- What isn't mapped: of what opening requests and what points to a table, and of the candidates of a search.
use Rattle.std.proofs.Common.{◌≡◌, ℕ, ◌≤◌, List, [], ◌∷◌, ◌++◌, Bool, true, false, Option, Some, None, Result, Ok, Err, arith, refl, sym, ap, subst, ◌∙◌, if◌then◌else◌, ◌+◌, length, ◌^◌, ◌<◌, zero, suc, ◌-◌, ◌*◌, ◌/◌, drop, ◌==◌, ok_or, option_map, bytes_eq, nat_lt}
use Rattle.acpi_base.specs.FromStd.{last_or, cons_option, is_some, is_ok, result_ok}
use Rattle.acpi_base.specs.Words.{accepted, field_of, has_bit, left_of, loosened, own_accepted, own_kind, check_names, check_table, header_at, Memory, at, ◌>>=◌, holds, lent, table_at, plain_kind, letters_of}
use Rattle.acpi.specs.Types.{MapFailed, NoValidRsdp, SdtHeader, Signature, AddressRange}
use Rattle.acpi.specs.Words.{accepted_root_at, bios_areas, accepted_found_rsdp, accepted_in_areas, accepted_length, accepted_root, accepted_rsdp_at, accepted_rsdp_ranges, accepted_search_ranges, found_among, count_in, ebda_area, end_of, first_in, Opened, area_ranges, or_else_ranges, length_ranges, root_of_revision, signature_of, check_first, check_sum, extended_length_of, rsdp_of, first_area, found_in, or_else, room_of, second_area, word_in, area, count_of, walk, or_later}
use Rattle.acpi.specs.Areas.{range}
use Rattle.acpi_c_lib.specs.Words.{member_missing_range, table_missing_range, AcpiError, Refusal, Source, check_policy, ebda_in, opened_in, refused_as, root_pointer_in, rsdp_in, Acpi, UnknownStart, Areas, IsUnmapped, OpeningLacksRange, areas_missing_ranges, candidate_missing_range, candidate_missing_ranges, has_valid, missing_range, last_range, missing_below, missing_in, range_of, root_missing_range, rsdp_missing_range, walk_missing_ranges, Fills, Writes, items_said, put_from, result_map, memory_in}
use Rattle.acpi_c_lib.specs.Missing.{Range, no_areas, pieces, stretches}
use Rattle.acpi_c_lib.proofs.Written.{two_parts, one_part}
use Rattle.acpi_base.proofs.FromStd.{bytes_eq-Decides}
use Rattle.acpi_base.specs.Ranges as ranges
use Rattle.acpi_c_lib.specs.Types.{RootPointer, Rsdp, UnknownPolicy}

-- ---- the checks, which fail with other errors

pub names_not : (s : Signature) (h : SdtHeader) → check_names s h ≡ Err MapFailed → ⊥
unfolding check_names
names_not s h e = grind arith

pub table_not : (s : Signature) (b : List ℕ) → check_table s b ≡ Err MapFailed → ⊥
unfolding check_table
table_not s b e = grind (arith, names_not)

pub sum_not : (b : List ℕ) → check_sum b ≡ Err MapFailed → ⊥
unfolding check_sum
sum_not b e = grind arith

pub rsdp_not : (accept : ℕ) (b : List ℕ) → accepted_length accept b ≡ Err MapFailed → ⊥
unfolding accepted_length check_first
rsdp_not accept b e = grind (arith, sum_not)

pub rsdp_length : (accept : ℕ) (b : List ℕ) (n : ℕ) → accepted_length accept b ≡ Ok (Some n)
    → extended_length_of (rsdp_of b) ≡ Some n
unfolding accepted_length
rsdp_length accept b n e = grind arith

pub rsdp_long : (accept : ℕ) (b : List ℕ) (n : ℕ) → accepted_length accept b ≡ Ok (Some n) → 36 ≤ n
unfolding accepted_length
rsdp_long accept b n e = grind arith

pub ruleset rsdp_refusals = (rsdp_not, rsdp_length, rsdp_long, sum_not)

-- ---- what is accepted

-- of what is left of a check's result, the errors are the check's or that of the sum
left_not : (a b : Bool) (s : Signature) (bytes : List ℕ) (r : Result (Unit {0}) AcpiError)
    → left_of a b s bytes r ≡ Err MapFailed → r ≡ Err MapFailed
left_not a b s bytes r e = grind arith

loosened_unmapped : (a b : Bool) (m : Memory) (s : Signature) (p : ℕ)
    → table_at m (loosened a b (plain_kind s)) p ≡ Err MapFailed
    → IsUnmapped m (table_missing_range m p (Err MapFailed))
unfolding table_at
loosened_unmapped true true m s p e = grind (arith, left_not, table_not)
loosened_unmapped true false m s p e = grind (arith, names_not, left_not, table_not)
loosened_unmapped false true m s p e = grind (arith, left_not, table_not)
loosened_unmapped false false m s p e = grind (arith, names_not, table_not)

pub accepted_unmapped : (accept : ℕ) (m : Memory) (s : Signature) (p : ℕ)
    → table_at m (accepted accept (plain_kind s)) p ≡ Err MapFailed
    → IsUnmapped m (table_missing_range m p (Err MapFailed))
accepted_unmapped accept m s p e = loosened_unmapped (has_bit accept 0) (has_bit accept 1) m s p e

by_header : (accept : ℕ) (m : Memory) (p : ℕ) (r : Result (List ℕ) AcpiError) → lent m p 36 ≡ r
    → (r >>= λ head. table_at m (own_kind accept (header_at head) 36) p) ≡ Err MapFailed
    → IsUnmapped m (table_missing_range m p (Err MapFailed))
by_header accept m p (Ok head) is e = accepted_unmapped accept m (header_at head).signature p e
by_header accept m p (Err d) is e = grind arith

own_refused : (accept : ℕ) (m : Memory) (p : ℕ) → own_accepted accept m p ≡ Err MapFailed
    → IsUnmapped m (table_missing_range m p (Err MapFailed))
unfolding own_accepted
own_refused accept m p e = by_header accept m p (lent m p 36) refl e

pub own_unmapped : (accept : ℕ) (m : Memory) (p : ℕ) → own_accepted accept m p ≡ Err MapFailed
    → IsUnmapped m (member_missing_range accept m p)
own_unmapped accept m p e = rw e (own_refused accept m p e)

-- ---- the last range

-- a definition without ranges has no last one
pub no_missing_range : {A : Type 0} (r : Result A AcpiError) → missing_range r [] ≡ None
no_missing_range r = grind arith

pub last_append : {A : Type 0} (o : Option A) (xs ys : List A) → last_or o (xs ++ ys) ≡ last_or (last_or o xs) ys
last_append o [] ys = refl
last_append o (x ∷ xs) ys = last_append (Some x) xs ys

-- ---- the search

-- where it fails: at the word, or if that is mapped at the first area, or if that is mapped too at the second
abbrev pub refused_by : Bool → ℕ × ℕ → (ℕ → ℕ × ℕ) → Result (List ℕ) AcpiError → ℕ × ℕ
refused_by true first second (Ok b) = second (field_of b 0 2)
refused_by false first second (Ok b) = first
refused_by ok first second (Err e) = (0x40e, 2)

abbrev pub refused_at : Bool → Result (List ℕ) AcpiError → ℕ × ℕ
refused_at ok r = refused_by ok (first_area.start, room_of first_area)
    (λ w. ((second_area w).start, room_of (second_area w))) r

search_by : (accept : ℕ) (m : Memory) (ok : Bool) (s : _) (t : ℕ → _) (r : Result (List ℕ) AcpiError)
    → is_ok (lent m s.start (room_of s)) ≡ ok → lent m 0x40e 2 ≡ r
    → ((r >>= λ b. Ok (field_of b 0 2)) >>= λ word. found_in accept m s >>= λ first.
    or_else first (found_in accept m (t word) >>= λ second. or_else second (Err NoValidRsdp))) ≡ Err MapFailed
    → let at_end = refused_by ok (s.start, room_of s) (λ w. ((t w).start, room_of (t w))) r in
    (last_or (Some (0x40e, 2)) (ranges.◌>>=◌ (r >>= λ b. Ok (field_of b 0 2))
    (λ word. area_ranges accept m s ++ ranges.◌>>=◌ (found_in accept m s) (λ first.
    or_else_ranges first (area_ranges accept m (t word))))) ≡ Some at_end)
    × (at m at_end.0 at_end.1 ≡ None)
unfolding found_in
search_by accept m true s t (Ok b) first is e = rw last_append (grind arith)
search_by accept m false s t (Ok b) first is e = rw last_append (grind arith)
search_by accept m ok s t (Err d) first is e = grind arith

search_last : (accept : ℕ) (m : Memory) (ok : Bool) → is_ok (lent m first_area.start (room_of first_area)) ≡ ok
    → accepted_found_rsdp accept m ≡ Err MapFailed
    → let r = refused_at ok (lent m 0x40e 2) in (last_or None (accepted_search_ranges accept m) ≡ Some r)
    × (at m r.0 r.1 ≡ None)
unfolding accepted_found_rsdp word_in
search_last accept m ok first e = search_by accept m ok first_area second_area (lent m 0x40e 2) first refl e

pub search_refused : (accept : ℕ) (m : Memory) (ok : Bool) (o : Result (List ℕ) AcpiError) (x : _)
    → is_ok (lent m first_area.start (room_of first_area)) ≡ ok → lent m 0x40e 2 ≡ o → x ≡ range_of (refused_at ok o)
    → accepted_found_rsdp accept m ≡ Err MapFailed → last_range (accepted_search_ranges accept m) ≡ Some x
search_refused accept m ok o x first is place e =
    ap (option_map range_of) (search_last accept m ok first e).0 ∙ ap (λ q. Some (range_of (refused_at ok q))) is
    ∙ sym (ap (λ y. Some y) place)

search_unmapped : (accept : ℕ) (m : Memory) → accepted_found_rsdp accept m ≡ Err MapFailed
    → IsUnmapped m (last_range (accepted_search_ranges accept m))
search_unmapped accept m e =
    let last = search_last accept m (is_ok (lent m first_area.start (room_of first_area))) refl e in
    subst (λ o. IsUnmapped m (option_map range_of o)) (sym last.0) last.1

-- ---- opening

rsdp_unmapped : (accept : ℕ) (m : Memory) (a : ℕ) → accepted_rsdp_at accept m a ≡ Err MapFailed
    → IsUnmapped m (last_range (accepted_rsdp_ranges accept m a))
unfolding accepted_rsdp_at
rsdp_unmapped accept m a e = grind (arith, sum_not, rsdp_not)

-- the search in areas has one error, and it is another

nothing_by : (o : Option (ℕ × List ℕ)) → ok_or o NoValidRsdp ≡ Err MapFailed → ⊥
nothing_by (Some found) e = cc
nothing_by None e = cc

areas_not : (accept : ℕ) (m : Memory) (areas : List AddressRange) → accepted_in_areas accept m areas ≡ Err MapFailed → ⊥
unfolding accepted_in_areas
areas_not accept m areas e = nothing_by (found_among accept m areas) e

refused_is : {A : Type 0} (r : Result A AcpiError) → refused_as r ≡ Err (Acpi MapFailed) → r ≡ Err MapFailed
refused_is r e = grind arith

-- by the RSDP that a start is, if it is none of a root table

kept_error : (a : ℕ) (r : Result (List ℕ) AcpiError)
    → result_map {B = ℕ × List ℕ} (λ bytes. (a, bytes)) r ≡ Err MapFailed → r ≡ Err MapFailed
kept_error a (Ok bytes) e = cc
kept_error a (Err d) e = cc

by_rsdp : (m : Memory) (s : Source) (at_address by_search by_areas : Bool)
    → (if at_address then refused_as (result_map (λ bytes. (s.address, bytes)) (accepted_rsdp_at s.accept m s.address))
    else if by_search then refused_as (accepted_found_rsdp s.accept m)
    else if by_areas then refused_as (accepted_in_areas s.accept m (bios_areas (ebda_in m))) else Err UnknownStart)
    ≡ Err (Acpi MapFailed)
    → IsUnmapped m (if at_address then missing_range {A = ℕ} (Err MapFailed) (accepted_rsdp_ranges s.accept m s.address)
    else if by_search then missing_range {A = ℕ} (Err MapFailed) (accepted_search_ranges s.accept m) else None)
by_rsdp m s true by_search by_areas e =
    rsdp_unmapped s.accept m s.address (kept_error s.address (accepted_rsdp_at s.accept m s.address) (refused_is _ e))
by_rsdp m s false true by_areas e = search_unmapped s.accept m (refused_is _ e)
by_rsdp m s false false true e = absurd (areas_not s.accept m (bios_areas (ebda_in m)) (refused_is _ e))
by_rsdp m s false false false e = absurd cc

abbrev root_as : RootPointer → Result (List ℕ) AcpiError → Result Opened Refusal
root_as place r = refused_as (r
    >>= λ root. Ok (record { revision = place.revision; kind = place.kind; address = place.address; root = root }))

abbrev opened_by : Memory → Source → Result RootPointer Refusal → Result Opened Refusal
opened_by m s r = r >>= λ place. root_as place (accepted_root_at s.accept m place.kind place.address)

no_root : (place : RootPointer) (r : Result (List ℕ) AcpiError) → root_as place r ≡ Err (Acpi MapFailed)
    → r ≡ Err MapFailed
no_root place (Ok root) e = cc
no_root place (Err d) e = cc

there : (m : Memory) (s : Source) (place : RootPointer)
    → root_as place (accepted_root_at s.accept m place.kind place.address) ≡ Err (Acpi MapFailed) → IsUnmapped m
    (root_missing_range m s (Ok place))
there m s place e =
    let refused = no_root place (accepted_root_at s.accept m place.kind place.address) e in
    rw refused (accepted_unmapped s.accept m (signature_of place.kind) place.address refused)

by_pointer : (m : Memory) (s : Source) (r : Result (ℕ × List ℕ) Refusal)
    → (r ≡ Err (Acpi MapFailed) → IsUnmapped m (rsdp_missing_range m s MapFailed))
    → opened_by m s (result_map (accepted_root s.accept m) r) ≡ Err (Acpi MapFailed)
    → IsUnmapped m (root_missing_range m s (result_map (accepted_root s.accept m) r))
by_pointer m s (Ok found) none e = there m s (accepted_root s.accept m found) e
by_pointer m s (Err d) none e =
    let is : d ≡ Acpi MapFailed = cc in
    rw is (none (ap (λ x. Err x) is))

by_start : (m : Memory) (s : Source) (rsdt xsdt : Bool) → let r =
    (if rsdt then Ok (root_of_revision 0 s.address) else if xsdt then Ok (root_of_revision 2 s.address)
    else result_map (accepted_root s.accept m) (rsdp_in m s)) in
    opened_by m s r ≡ Err (Acpi MapFailed) → IsUnmapped m (root_missing_range m s r)
by_start m s true xsdt e = there m s (root_of_revision 0 s.address) e
by_start m s false true e = there m s (root_of_revision 2 s.address) e
by_start m s false false e = by_pointer m s (rsdp_in m s) (by_rsdp m s (s.start == 0) (s.start == 3) (s.start == 4)) e

policed : (accepts : Bool) (later : Result Opened Refusal)
    → (holds accepts UnknownPolicy >>= λ _. later) ≡ Err (Acpi MapFailed) → later ≡ Err (Acpi MapFailed)
policed true later e = e
policed false later e = absurd cc

pub opening_unmapped : OpeningLacksRange
opening_unmapped m s e = by_start m s (s.start == 1) (s.start == 2)
    (policed (nat_lt s.accept 32) (opened_by m s (root_pointer_in m s)) e)

-- ---- the ranges of a search's candidates, and then the others

-- only an unknown start fails, and that is no search

root_read : (m : Memory) (s : Source) (place : RootPointer) (r : Result (List ℕ) AcpiError) (e : Refusal)
    → missing_in m s (root_as place r) ≡ Err e → ⊥
root_read m s place (Ok root) e is = cc
root_read m s place (Err d) e is = cc

rsdp_read : (m : Memory) (s : Source) (r : Result (ℕ × List ℕ) AcpiError) (e : Refusal)
    → missing_in m s (opened_by m s (result_map (accepted_root s.accept m) (refused_as r))) ≡ Err e → ⊥
rsdp_read m s (Ok found) e is =
    root_read m s (accepted_root s.accept m found) (accepted_root_at s.accept m (accepted_root s.accept m found).kind
    (accepted_root s.accept m
    found).address) e is
rsdp_read m s (Err d) e is = cc

none_by : (m : Memory) (s : Source) (e : Refusal) (b c d f g : Bool)
    → missing_in m s (opened_by m s (if b then Ok (root_of_revision 0 s.address)
    else if c then Ok (root_of_revision 2 s.address)
    else result_map (accepted_root s.accept m)
    (if d then refused_as (result_map (λ bytes. (s.address, bytes)) (accepted_rsdp_at s.accept m s.address))
    else if f then refused_as (accepted_found_rsdp s.accept m)
    else if g then refused_as (accepted_in_areas s.accept m (bios_areas (ebda_in m))) else Err UnknownStart))) ≡ Err e
    → areas_missing_ranges s.accept m (if f then pieces m (word_in m) else if g then stretches (bios_areas
    (ebda_in m)) else no_areas)
    ≡ []
unfolding has_valid walk_missing_ranges
none_by m s e true c d f g is =
    let place = root_of_revision 0 s.address in
    absurd (root_read m s place (accepted_root_at s.accept m place.kind place.address) e is)
none_by m s e false true d f g is =
    let place = root_of_revision 2 s.address in
    absurd (root_read m s place (accepted_root_at s.accept m place.kind place.address) e is)
none_by m s e false false true f g is =
    absurd (rsdp_read m s (result_map (λ bytes. (s.address, bytes)) (accepted_rsdp_at s.accept m s.address)) e is)
none_by m s e false false false true g is = absurd (rsdp_read m s (accepted_found_rsdp s.accept m) e is)
none_by m s e false false false false true is =
    absurd (rsdp_read m s (accepted_in_areas s.accept m (bios_areas (ebda_in m))) e is)
none_by m s e false false false false false is = refl

no_candidates : (m : Memory) (s : Source) (e : Refusal) → missing_in m s (opened_by m s (root_pointer_in m s)) ≡ Err e
    → candidate_missing_ranges m s ≡ []
unfolding candidate_missing_ranges has_valid walk_missing_ranges
no_candidates m s e is = none_by m s e (s.start == 1) (s.start == 2) (s.start == 0) (s.start == 3) (s.start == 4) is

abbrev both : List Range → Result (List Range) Refusal → Result (List Range) Refusal
both xs others = others >>= λ ys. Ok (xs ++ ys)

by_others : (old mid new xs : List Range) (n : ℕ) (expected : Result ℕ Refusal) (others : Result (List Range) Refusal)
    → ((e : Refusal) → others ≡ Err e → xs ≡ []) → Writes n old mid xs
    → expected ≡ result_map (λ ys. n + length ys) others → new ≡ put_from mid n (items_said others)
    → Fills expected old new (both xs others)
by_others old mid new xs n expected (Ok ys) none first count items =
    let all = two_parts old mid new xs ys n (n + length ys) first.1 (first.0 ∙ omega arith) items refl in
    (count ∙ ap (λ k. Ok k) all.0, all.1)
by_others old mid new xs n expected (Err e) none first count items =
    let empty = none e refl in
    (count, items ∙ first.1 ∙ ap (λ zs. put_from old 0 zs) empty)

pub joined : (s : Source) (m : Memory) (old mid new : List Range) (n : ℕ) (expected : Result ℕ Refusal)
    → memory_in s.regions.now ≡ Ok m → check_policy s ≡ Ok tt → Writes n old mid (candidate_missing_ranges m s)
    → expected ≡ result_map (λ ys. n + length ys) (missing_in m s (opened_in m s))
    → new ≡ put_from mid n (items_said (missing_in m s (opened_in m s))) → Fills expected old new (missing_below s)
joined s m old mid new n expected is checked first count items =
    rw (is, checked) (by_others old mid new (candidate_missing_ranges m s) n expected
    (missing_in m s (opened_by m s (root_pointer_in m s))) (no_candidates m s) first (rw checked at count)
    (rw checked at items))

-- ---- a signature is its four bytes, and a table that is mapped ends below 2^64

abbrev of_letters : List ℕ → Signature
of_letters b = record { 0 = b }

pub signature_is : (s : Signature) (b : List ℕ) → letters_of s ≡ b → s ≡ of_letters b
signature_is s b e = ap of_letters e

-- a signature that compares equal is that signature
pub same_signature : (s k : Signature) → bytes_eq s.0 k.0 ≡ true → s ≡ k
same_signature s k h = signature_is s k.0 ((bytes_eq-Decides s.0 k.0).0 h)

-- ---- one candidate

long_ranges : (accept : ℕ) (m : Memory) (a : ℕ) (b : List ℕ) → lent m a 36 ≡ Ok b
    → accepted_rsdp_at accept m a ≡ Err MapFailed
    → drop 1 (accepted_rsdp_ranges accept m a) ≡ length_ranges a (extended_length_of (rsdp_of b))
unfolding accepted_rsdp_at
long_ranges accept m a b is refused = grind (arith, rsdp_not, rsdp_length, sum_not)

pub length_said : (accept : ℕ) (m : Memory) (a : ℕ) (b : List ℕ) (r : Rsdp) → lent m a 36 ≡ Ok b → r ≡ rsdp_of b
    → accepted_rsdp_at accept m a ≡ Err MapFailed
    → last_range (length_ranges a (extended_length_of r)) ≡ candidate_missing_range accept m a
unfolding candidate_missing_range
length_said accept m a b r is read refused =
    ap (λ q. last_range (length_ranges a (extended_length_of q))) read
    ∙ sym (rw refused (ap last_range (long_ranges accept m a b is refused)))

-- ---- areas that begin at a multiple of 16

pub first_is : (s : AddressRange) → s.address / 16 * 16 ≡ s.address → first_in s ≡ s.address
first_is s e = omega (arith, e)

end_is : (s : AddressRange) → s.address + s.length ≤ 2 ^ 64 → end_of s ≡ s.address + s.length
end_is s h = grind (arith, h)

pub count_is : (s : AddressRange) → s.address / 16 * 16 ≡ s.address → s.address + s.length ≤ 2 ^ 64
    → count_in s ≡ (s.length - 4) / 16
count_is s e h = rw (end_is s h, first_is s e) (omega arith)

-- ---- several candidates

later_found : (r : Result (List ℕ) AcpiError) (a : ℕ) (o : Option (ℕ × List ℕ))
    → is_some (or_later (λ x. Some (a, x)) r o) ≡ (if is_ok r then true else is_some o)
later_found (Ok x) a o = refl
later_found (Err e) a o = refl

later_missing_ranges : (r : Result (List ℕ) AcpiError) (b : Bool) (xs : List Range) → is_ok r ≡ b
    → or_later (λ x. []) r xs ≡ (if b then [] else xs)
later_missing_ranges (Ok x) b xs is = rw (← is) refl
later_missing_ranges (Err e) b xs is = rw (← is) refl

put_missing_range : (old : List Range) (n : ℕ) (o : Option Range) (ys : List Range)
    → put_from (put_from old n (cons_option o [])) (n + length (cons_option o [])) ys
    ≡ put_from old n (cons_option o ys)
put_missing_range old n (Some r) ys = refl
put_missing_range old n None ys = ap (λ i. put_from old i ys) (omega arith)

more_missing_ranges : (n : ℕ) (o : Option Range) (ys : List Range)
    → n + length (cons_option o []) + length ys ≡ n + length (cons_option o ys)
more_missing_ranges n (Some r) ys = omega arith
more_missing_ranges n None ys = omega arith

pub few_missing_ranges : (o : Option Range) → length (cons_option o []) ≤ 1
few_missing_ranges (Some r) = omega arith
few_missing_ranges None = omega arith

-- what is written and what is left are the whole, and those that are left have a valid one if all have
abbrev pub Walked : ℕ → Memory → ℕ → ℕ → List Range → ℕ → List Range → ℕ → Bool → Type 0
Walked accept m left a new next all count valid =
    (put_from new next (walk_missing_ranges accept m left a) ≡ all)
    × (next + length (walk_missing_ranges accept m left a) ≡ count)
    × (has_valid accept m left a ≡ valid)

pub walked_more : (accept : ℕ) (m : Memory) (left a : ℕ) (new : List Range) (next : ℕ) (o : Option Range)
    (all : List Range)
    (count : ℕ) (valid : Bool) → 0 < left → is_ok (accepted_rsdp_at accept m a) ≡ false
    → o ≡ candidate_missing_range accept m a
    → Walked accept m left a new next all count valid
    → Walked accept m (left - 1) (a + 16) (put_from new next (cons_option o [])) (next + length (cons_option o []))
    all count valid
unfolding walk_missing_ranges has_valid
walked_more accept m zero a new next o all count valid some refused is w = absurd (omega (arith, some))
walked_more accept m (suc left) a new next o all count valid some refused is w =
    let less : suc left - 1 ≡ left = omega arith in
    let ys = walk_missing_ranges accept m left (a + 16) in
    let missing_ranges : walk_missing_ranges accept m (suc left) a
    ≡ cons_option o ys = later_missing_ranges (accepted_rsdp_at accept m a) false _ refused
    ∙ ap (λ x. cons_option x ys) (sym is) in
    let found : has_valid accept m (suc left) a ≡ has_valid accept m left (a + 16) =
    later_found (accepted_rsdp_at accept m a) a (walk accept m left (a + 16))
    ∙ ap (λ b. if b then true else has_valid accept m left (a + 16))
    refused in
    rw less (
      put_missing_range new next o ys ∙ (rw missing_ranges at w.0),
      more_missing_ranges next o ys
          ∙ (rw missing_ranges at w.1),
      sym found
          ∙ w.2,
    )

-- a valid one is the last
pub walked_to : (accept : ℕ) (m : Memory) (left a : ℕ) (new : List Range) (next : ℕ) (all : List Range) (count : ℕ)
    (valid : Bool)
    → 0 < left → is_ok (accepted_rsdp_at accept m a) ≡ true → Walked accept m left a new next all count valid
    → (new ≡ all) × (next ≡ count) × (true ≡ valid)
unfolding walk_missing_ranges has_valid
walked_to accept m zero a new next all count valid some is w = absurd (omega (arith, some))
walked_to accept m (suc left) a new next all count valid some is w =
    let missing_ranges : walk_missing_ranges accept m (suc left) a
    ≡ [] = later_missing_ranges (accepted_rsdp_at accept m a) true _ is in
    let found : has_valid accept m (suc left) a ≡ true = later_found (accepted_rsdp_at accept m a) a
    (walk accept m left (a + 16))
    ∙ ap (λ b. if b then true else has_valid accept m left (a + 16)) is in
    (rw missing_ranges at w.0, omega (arith, rw missing_ranges at w.1), sym found ∙ w.2)

pub walked_all : (accept : ℕ) (m : Memory) (left a : ℕ) (new : List Range) (next : ℕ) (all : List Range) (count : ℕ)
    (valid : Bool)
    → left ≤ 0 → Walked accept m left a new next all count valid
    → (new ≡ all) × (next ≡ count) × (false ≡ valid)
unfolding walk_missing_ranges has_valid
walked_all accept m zero a new next all count valid none w = (w.0, omega (arith, w.1), w.2)
walked_all accept m (suc left) a new next all count valid none w = absurd (omega (arith, none))

-- ---- of two areas

module _ (accept : ℕ) (m : Memory) (a : Areas) (old mid : List Range) (n : ℕ) (valid : Bool)
    (written : mid ≡ put_from old 0 (walk_missing_ranges accept m a.first.count a.first.first))
    (counted : n ≡ 0 + length (walk_missing_ranges accept m a.first.count a.first.first))
    (is : valid ≡ has_valid accept m a.first.count a.first.first) where
  pub first_found : valid ≡ true → Writes n old mid (areas_missing_ranges accept m a)
  first_found found = rw (← is, found) (one_part old mid _ n written counted)

  pub both_walked : (new : List Range) (k : ℕ) → valid ≡ false
      → new ≡ put_from mid n (walk_missing_ranges accept m a.second.count a.second.first)
      → k ≡ n + length (walk_missing_ranges accept m a.second.count a.second.first)
      → Writes k old new (areas_missing_ranges accept m a)
  both_walked new k none second all = rw (← is, none) (two_parts old mid new _ _ n k written counted second all)

abbrev IsLow : AddressRange → Type 0
IsLow s = (s.address / 16 * 16 ≡ s.address) × (s.address + s.length ≤ 2 ^ 20)

by_word : (r : Result ℕ AcpiError) → IsLow (ebda_area (option_map (λ word. 16 * word) (result_ok r)))
by_word (Ok word) = grind arith
by_word (Err e) = (refl, omega arith)

pub ebda_fits : (m : Memory) → IsLow (ebda_area (ebda_in m))
ebda_fits m = by_word (word_in m)

pub bios_fits : IsLow (range 0xe0000 0x20000)
bios_fits = (refl, omega arith)

abbrev pub SecondFits : ℕ → Type 0
SecondFits word = let s = second_area word in (s.start + 16 * ((room_of s - 20) / 16) ≤ 2 ^ 20)
    × (count_of s ≡ (room_of s - 20) / 16) × (20 ≤ room_of s) × (room_of s < 2 ^ 32)

by_low : (a : ℕ) (b : Bool) → (b ≡ true → a < 0x9ffff) → let s =
    (if b then area a (a + 1024) else area 0x80000 0xa0000) in
    (s.start + 16 * ((room_of s - 20) / 16) ≤ 2 ^ 20) × (count_of s ≡ (room_of s - 20) / 16) × (20 ≤ room_of s)
    × (room_of s < 2 ^ 32)
by_low a true low =
    let under = low refl in
    (omega (arith, under), omega arith, omega arith, omega arith)
by_low a false low = (omega arith, refl, omega arith, omega arith)

pub second_fits : (word : ℕ) → SecondFits word
second_fits word = by_low (16 * word) _ (λ e. grind (arith, e))
