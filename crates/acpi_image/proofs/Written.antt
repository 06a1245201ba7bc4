-- What is written: how long it is, how numbers are encoded, sums, and the tables, which are found at the start of their
-- regions.
use Rattle.std.proofs.Common.{◌≡◌, ℕ, zero, suc, ◌==◌, ◌+◌, ◌-◌, ◌*◌, ◌/◌, ◌%◌, ◌^◌, ◌<◌, ◌≤◌, true, List, [], ◌∷◌, ◌++◌, length, take, drop, refl, sym, ap, ◌∙◌, arith, w64, get_or, inl, inr, set, sum, subst, append_assoc, Some, Ok, Err, OnErr, Result, lit≤, map, lit<, eq-eqb, flat_map, Contains, bytes_eq}
use Rattle.std.proofs.lemmas.Bool.{cond_both}
use Rattle.std.proofs.lemmas.List.{drop-append-le, take-append-drop, take-append-le}
use Rattle.std.proofs.lemmas.List.Elements.{All-contains_itself}
use Rattle.acpi_image_reader.specs.Words.{record_spelling}
use Rattle.acpi_base.specs.FromStd.{from_le_bytes, to_le_bytes, AllByRecursion, is_utf8}
use Rattle.acpi_base.proofs.FromStd.{drop_at, length-drop, length-take, recursion_from_All, take_at, le_bytes_8, length-append, length-map, length-set, append-nil, take_all, get_or_past, drop-set-add, drop-set-lt, take-set-le, cases_lt, le-leb, and_from, and_parts, eqb-true, leb-true, sum_by-set}
use Rattle.acpi_base.specs.Words.{IsBytes, filled_part, spelling, part, sum_of, field_of, number, Memory, Region, IsMemory, at, check_names, check_table, header_at, lent, own_accepted, own_table_at, plain_kind, table_at}
use Rattle.acpi.specs.Types.{Signature}
use Rattle.acpi_base.proofs.Words.{IsBytes-drop, IsBytes-take, length-spelling, number-spelling, number_filled, lent_is_inside, header_front}
use Rattle.acpi.specs.Words.{signature_of, width_of, valid_tables}
use Rattle.acpi.specs.declared.root.RootKind.{RootKind}
use Rattle.acpi.specs.declared.root.RootKind.TheVariants.{Rsdt, Xsdt}
use Rattle.acpi_image.specs.Words.{HasFront, root_header, root_length, root_to, root_unsummed, rsdp_to, rsdp_unsummed, sum_byte, with_first_sum, with_sum, placed, placed_region, starts_of, summed, spaces, rsdp_record, SumIsSet, is_table, PlacedTable}

pub length-with_sum : (offset : ℕ) (bytes : List ℕ) → length (with_sum offset bytes) ≡ length bytes
unfolding with_sum
length-with_sum offset bytes = length-set bytes offset (sum_byte offset bytes)

pub length-with_first_sum : (bytes : List ℕ) → length (with_first_sum bytes) ≡ length bytes
unfolding with_first_sum
length-with_first_sum bytes = simp (length-append, length-with_sum, length-take, length-drop) (omega arith)

pub length-rsdp_unsummed : (oem_id : List ℕ) (revision rsdt count xsdt : ℕ) → length oem_id ≡ 6
    → length (rsdp_unsummed oem_id revision rsdt count xsdt) ≡ 36
unfolding rsdp_unsummed spelling
length-rsdp_unsummed oem_id revision rsdt count xsdt long = simp length-append (omega (arith, long))

pub length-rsdp_to : (oem_id : List ℕ) (revision root : ℕ) → length oem_id ≡ 6
    → length (rsdp_to oem_id revision root) ≡ 36
unfolding rsdp_to
length-rsdp_to oem_id revision root long =
    cond_both (revision == 0) _ _ (λ (b : List ℕ). length b ≡ 36)
    (λ first. length-with_first_sum _ ∙ length-rsdp_unsummed oem_id revision root 0 0 long)
    (λ later. length-with_sum 32 _ ∙ length-with_first_sum _ ∙ length-rsdp_unsummed oem_id revision 0 36 root long)

length-spelled : (width : ℕ) (ps : List ℕ) → length (flat_map (spelling width) ps) ≡ width * length ps
length-spelled width [] = omega arith
length-spelled width (p ∷ ps) = omega (
  arith,
  length-append (spelling width p) (flat_map (spelling width) ps),
  length-spelling width p,
  length-spelled width ps,
)

pub length-root_header : (kind : RootKind) (count : ℕ) → length (root_header (signature_of kind) count) ≡ 36
unfolding root_header spelling
length-root_header Rsdt count = refl
length-root_header Xsdt count = refl

pub length-root_unsummed : (kind : RootKind) (ps : List ℕ)
    → length (root_unsummed kind ps) ≡ root_length kind (length ps)
length-root_unsummed kind ps =
    length-append (root_header (signature_of kind) (root_length kind (length ps)))
    (flat_map (spelling (width_of kind)) ps)
    ∙ ap (λ n. n + length (flat_map (spelling (width_of kind)) ps))
    (length-root_header kind (root_length kind (length ps)))
    ∙ ap (λ n. 36 + n) (length-spelled (width_of kind) ps)

pub length-root_to : (kind : RootKind) (ps : List ℕ) → length (root_to kind ps) ≡ root_length kind (length ps)
length-root_to kind ps = length-with_sum 9 (root_unsummed kind ps) ∙ length-root_unsummed kind ps

-- that of tables has a pointer for each
pub root_long : (kind : RootKind) (tables : List PlacedTable)
    → length (root_to kind (starts_of (placed tables))) ≡ root_length kind (length tables)
root_long kind tables =
    length-root_to kind (starts_of (placed tables)) ∙ ap (root_length kind)
    (length-map (placed tables) (λ t. t.start) ∙ length-map tables placed_region)

-- what is known of lengths while a root table is put
pub ruleset lengths = (length-root_header, root_long)

-- ---- what is put before an error

pub none_put : (old bytes new : List ℕ) → new ≡ old → HasFront old bytes new
none_put old bytes new same =
    record { front = []; rest = bytes; split = refl; put = same ∙ sym (append-nil old) }

-- an error in the first part
pub in_first : (old xs ys new : List ℕ) → HasFront old xs new → HasFront old (xs ++ ys) new
in_first old xs ys new h =
    let whole = ap (λ z. z ++ ys) h.split ∙ append_assoc h.front h.rest ys in
    record { front = h.front; rest = h.rest ++ ys; split = whole; put = h.put }

-- and after it
pub in_second : (old mid xs ys new : List ℕ) → mid ≡ old ++ xs → HasFront mid ys new → HasFront old (xs ++ ys) new
in_second old mid xs ys new first h =
    let whole = ap (λ z. xs ++ z) h.split ∙ sym (append_assoc xs h.front h.rest) in
    let put = h.put ∙ ap (λ z. z ++ h.front) first ∙ append_assoc old xs h.front in
    record { front = xs ++ h.front; rest = h.rest; split = whole; put = put }

-- an error in a record's start and length
pub in_head : (old s c bytes new : List ℕ) → HasFront old (s ++ c) new → HasFront old (s ++ (c ++ bytes)) new
in_head old s c bytes new h =
    subst (λ z. HasFront old z new) (append_assoc s c bytes) (in_first old (s ++ c) bytes new h)

pub after_head : (old mid s c bytes new : List ℕ) → mid ≡ old ++ (s ++ c) → HasFront mid bytes new
    → HasFront old (s ++ (c ++ bytes)) new
after_head old mid s c bytes new head h =
    subst (λ z. HasFront old z new) (append_assoc s c bytes) (in_second old mid (s ++ c) bytes new head h)

-- in the record of an RSDP
pub in_rsdp_head : (a revision root : ℕ) (old new : List ℕ) → HasFront old (spelling 8 a ++ spelling 8 36) new
    → HasFront old (record_spelling (rsdp_record a revision root)) new
in_rsdp_head a revision root old new h =
    let long = sym (length-rsdp_to (spaces 6) revision root refl) in
    in_head old (spelling 8 a) (spelling 8 (length (rsdp_to (spaces 6) revision root)))
    (rsdp_to (spaces 6) revision root) new (subst (λ n. HasFront old (spelling 8 a ++ spelling 8 n) new) long h)

-- and of a root table whose Checksum isn't set yet
abbrev pub unsummed_record : RootKind → ℕ → List PlacedTable → Region
unsummed_record kind a tables = record { start = a; bytes = root_unsummed kind (starts_of (placed tables)) }

unsummed_long : (kind : RootKind) (tables : List PlacedTable) (n : ℕ) → n ≡ root_length kind (length tables)
    → n ≡ length (root_unsummed kind (starts_of (placed tables)))
unsummed_long kind tables n e =
    e ∙ sym (root_long kind tables) ∙ length-with_sum 9 (root_unsummed kind (starts_of (placed tables)))

pub in_root_head : (kind : RootKind) (tables : List PlacedTable) (a n : ℕ) (old new : List ℕ)
    → n ≡ root_length kind (length tables) → HasFront old (spelling 8 a ++ spelling 8 n) new
    → HasFront old (record_spelling (unsummed_record kind a tables)) new
in_root_head kind tables a n old new e h =
    in_head old (spelling 8 a) _ (root_unsummed kind (starts_of (placed tables))) new
    (subst (λ k. HasFront old (spelling 8 a ++ spelling 8 k) new) (unsummed_long kind tables n e) h)

pub after_root_head : (kind : RootKind) (tables : List PlacedTable) (a n : ℕ) (old mid new : List ℕ)
    → n ≡ root_length kind (length tables) → mid ≡ old ++ (spelling 8 a ++ spelling 8 n)
    → HasFront mid (root_unsummed kind (starts_of (placed tables))) new
    → HasFront old (record_spelling (unsummed_record kind a tables)) new
after_root_head kind tables a n old mid new e head h =
    after_head old mid (spelling 8 a) _ (root_unsummed kind (starts_of (placed tables))) new
    (head ∙ ap (λ k. old ++ (spelling 8 a ++ spelling 8 k)) (unsummed_long kind tables n e)) h

pub after_header : (kind : RootKind) (tables : List PlacedTable) (n : ℕ) (old mid new : List ℕ)
    → n ≡ root_length kind (length tables) → mid ≡ old ++ root_header (signature_of kind) n
    → HasFront mid (flat_map (spelling (width_of kind)) (starts_of (placed tables))) new
    → HasFront old (root_unsummed kind (starts_of (placed tables))) new
after_header kind tables n old mid new e head h =
    let count = e ∙ ap (root_length kind) (sym (length-map (placed tables) (λ t. t.start)
    ∙ length-map tables placed_region)) in
    in_second old mid _ _ new (head ∙ ap (λ k. old ++ root_header (signature_of kind) k) count) h

pub says_err : {T E : Type 0} (r : Result T E) (P : Type 0) → P → OnErr r P
says_err (Ok x) P p = tt
says_err (Err e) P p = p

pub still_err : {T E : Type 0} (r : Result T E) (P Q : Type 0) → (P → Q) → OnErr r P → OnErr r Q
still_err (Ok x) P Q f o = tt
still_err (Err e) P Q f o = f o

-- what is put so far and what is left are all
pub by_whole : (old bytes new rest : List ℕ) → new ++ rest ≡ old ++ bytes → length old ≤ length new
    → HasFront old bytes new
by_whole old bytes new rest whole longer =
    let first = sym (take-append-le (length old) new rest longer) ∙ ap (take (length old)) whole
    ∙ take_at old bytes (length old) refl in
    let after = sym (drop_at old bytes (length old) refl) ∙ sym (ap (drop (length old)) whole)
    ∙ drop-append-le (length old) new rest longer in
    let put = sym (take-append-drop (length old) new) ∙ ap (λ z. z ++ drop (length old) new) first in
    record { front = drop (length old) new; rest = rest; split = after; put = put }

pub ruleset fronts = (none_put, in_first, in_second, in_head, after_head)

-- ---- numbers

pub IsBytes-spelling : (w n : ℕ) → IsBytes (spelling w n)
unfolding spelling
IsBytes-spelling zero n i = omega arith
IsBytes-spelling (suc w) n zero = omega arith
IsBytes-spelling (suc w) n (suc i) = IsBytes-spelling w (n / 256) i

whole_part : (bytes : List ℕ) → length bytes ≡ 8 → filled_part bytes 0 8 ≡ bytes
whole_part bytes e =
    let all : take 8 bytes ≡ bytes = take_all 8 bytes (omega arith) in
    let none : 8 - length bytes ≡ 0 = omega arith in
    rw (all, none) (append-nil bytes)

pub le_bytes : (n : ℕ) → n < 2 ^ 64 → to_le_bytes w64 n ≡ spelling 8 n
le_bytes n small =
    let long = length-spelling 8 n in
    let whole = whole_part (spelling 8 n) long in
    let value : from_le_bytes w64 (spelling 8 n) ≡ n = rw whole at (number_filled (spelling 8 n) (omega arith))
    ∙ number-spelling 8 n (omega arith) in
    le_bytes_8 (spelling 8 n) n long (IsBytes-spelling 8 n) (sym value)

spelling_front : (w v n : ℕ) → w ≤ v → take w (spelling v n) ≡ spelling w n
unfolding spelling
spelling_front zero v n le = refl
spelling_front (suc w) zero n le = absurd (omega arith)
spelling_front (suc w) (suc v) n le = ap (λ bs. n % 256 ∷ bs) (spelling_front w v (n / 256) (omega arith))

-- the low bytes that a number is written as
pub low_bytes : (w n : ℕ) → w ≤ 8 → n < 2 ^ 64 → take w (to_le_bytes w64 n) ≡ spelling w n
low_bytes w n le small = ap (take w) (le_bytes n small) ∙ spelling_front w 8 n le

pub low_four : (n : ℕ) → n < 2 ^ 64 → take 4 (to_le_bytes w64 n) ≡ spelling 4 n
low_four n small = low_bytes 4 n (lit≤ tt) small

-- ---- bytes

-- what fits at each place
pub each_fits : (xs : List ℕ) → ((i d : ℕ) → i < length xs → get_or xs i d < 256) → IsBytes xs
each_fits xs h i =
    elim (cases_lt i (length xs)) [
      | inl lt ↦ h i 0 lt
      | inr le ↦ rw (get_or_past xs i 0 le) (omega arith)
    ]

front_bytes : (xs ys : List ℕ) → IsBytes (xs ++ ys) → IsBytes xs
front_bytes xs ys h = rw (take_at xs ys (length xs) refl) at (IsBytes-take (length xs) (xs ++ ys) h)

rest_bytes : (xs ys : List ℕ) → IsBytes (xs ++ ys) → IsBytes ys
rest_bytes xs ys h = rw (drop_at xs ys (length xs) refl) at (IsBytes-drop (length xs) (xs ++ ys) h)

pub record_bytes : (rs : Memory) → IsBytes (flat_map record_spelling rs) → AllByRecursion (λ r. IsBytes r.bytes) rs
record_bytes [] h = tt
record_bytes (r ∷ rs) h =
    let this = front_bytes (record_spelling r) (flat_map record_spelling rs) h in
    let after_start = rest_bytes (spelling 8 r.start) (spelling 8 (length r.bytes) ++ r.bytes) this in (
      rest_bytes (spelling 8 (length r.bytes)) r.bytes after_start,
      record_bytes rs (rest_bytes (record_spelling r) (flat_map record_spelling rs) h),
    )

-- ---- a byte that is set so that the sum is 0

pub sum_is_set : SumIsSet
unfolding with_sum sum_byte sum_of
sum_is_set offset bytes within =
    let none : sum (set bytes offset 0) + get_or bytes offset 0 ≡ sum bytes + 0 =
    sum_by-set (λ x. x) bytes offset 0 0 within in
    let some = sum_by-set (λ x. x) bytes offset ((256 - sum (set bytes offset 0) % 256) % 256) 0 within in
    omega (arith, none, some)

-- parts before and after the byte stay

pub part_past : (bytes : List ℕ) (k x o n : ℕ) → k < o → part (set bytes k x) o n ≡ part bytes o n
part_past bytes k x o n less = ap (take n) (drop-set-lt o bytes k x less)

pub part_front : (bytes : List ℕ) (k x n : ℕ) → n ≤ k → part (set bytes k x) 0 n ≡ part bytes 0 n
part_front bytes k x n le = take-set-le n bytes k x le

pub part_before : (bytes : List ℕ) (k x o n : ℕ) → o + n ≤ k → part (set bytes k x) o n ≡ part bytes o n
part_before bytes k x o n le =
    let k_is : o + (k - o) ≡ k = omega arith in
    let moved : drop o (set bytes k x) ≡ set (drop o bytes) (k - o) x =
    subst (λ (i : ℕ). drop o (set bytes i x) ≡ set (drop o bytes) (k - o) x) k_is
    (drop-set-add o bytes (k - o) x) in
    ap (take n) moved ∙ take-set-le n (drop o bytes) (k - o) x (omega arith)

-- ---- members of a memory

pub every_in : (m : Memory) → AllByRecursion (Contains m) m
every_in m = recursion_from_All (Contains m) m (All-contains_itself m)

length_is : (bytes : List ℕ) → (header_at bytes).length ≡ field_of bytes 4 4
unfolding header_at
length_is bytes = refl

-- ---- what is lent at a region's start

module _ (m : Memory) (r : Region) (h : IsMemory m) (c : Contains m r) where
  at_start : (n : ℕ) → 0 < n → n ≤ length r.bytes → at m r.start n ≡ Some (take n r.bytes)
  at_start n some fits =
      let none : r.start - r.start ≡ 0 = omega arith in
      (lent_is_inside m r.start n (take n r.bytes) h some).1 (
        r,
        c,
        record { starts = omega arith; ends = omega arith; there = rw none refl },
      )

  pub lent_start : (n : ℕ) → 0 < n → n ≤ length r.bytes → lent m r.start n ≡ Ok (take n r.bytes)
  lent_start n some fits = rw (at_start n some fits) refl

  -- a table that fills the region
  module _ (s : Signature) (names : check_names s (header_at r.bytes) ≡ Ok tt) (long : 36 ≤ length r.bytes)
      (whole : field_of r.bytes 4 4 ≡ length r.bytes) (zero_sum : sum_of r.bytes ≡ 0) where
    checked : check_table s r.bytes ≡ Ok tt
    unfolding check_table
    checked =
        let all : take (field_of r.bytes 4 4) r.bytes ≡ r.bytes = take_all _ r.bytes (omega (arith, whole)) in
        rw (
          names,
          le-leb 36 (field_of r.bytes 4 4) (omega arith),
          le-leb (field_of r.bytes 4 4) (length r.bytes) (omega arith),
          all,
          zero_sum,
        ) refl

    pub table_there : table_at m (plain_kind s) r.start ≡ Ok r.bytes
    unfolding table_at
    table_there =
        let all : take (length r.bytes) r.bytes ≡ r.bytes = take_all _ r.bytes (omega arith) in
        let enough = le-leb 36 (length r.bytes) long in
        rw (
          lent_start 36 (lit≤ tt) long,
          header_front r.bytes,
          names,
          length_is r.bytes,
          whole,
          enough,
          lent_start (length r.bytes) (omega arith) (omega arith),
          all,
          checked,
        ) refl

  pub own_table_there : check_names (header_at r.bytes).signature (header_at r.bytes) ≡ Ok tt → 36 ≤ length r.bytes
      → field_of r.bytes 4 4 ≡ length r.bytes → sum_of r.bytes ≡ 0
      → own_table_at m r.start ≡ Ok r.bytes
  unfolding own_accepted
  own_table_there names long whole zero_sum =
      rw (lent_start 36 (lit≤ tt) long, header_front r.bytes)
      (table_there (header_at r.bytes).signature names long whole zero_sum)

-- ---- tables that are written are valid, and no others are listed

same_bytes : (xs : List ℕ) → bytes_eq xs xs ≡ true
same_bytes [] = refl
same_bytes (x ∷ xs) = and_from _ _ (eq-eqb x x refl) (same_bytes xs)

-- the names of a header lie in parts of the bytes
pub header_names : (b : List ℕ) → is_utf8 (part b 0 4) ≡ true → is_utf8 (part b 10 6) ≡ true
    → is_utf8 (part b 16 8) ≡ true → check_names (header_at b).signature (header_at b) ≡ Ok tt
unfolding header_at check_names
header_names b s o t = rw (same_bytes (part b 0 4), s, o, t) refl

-- what is tested of a table's bytes, apart
pub record IsTable (b : List ℕ) : Type 0 where
  pub long : 36 ≤ length b
  pub whole : field_of b 4 4 ≡ length b
  pub signature : is_utf8 (part b 0 4) ≡ true
  pub id : is_utf8 (part b 10 6) ≡ true
  pub table_id : is_utf8 (part b 16 8) ≡ true

pub table_is : (b : List ℕ) → is_table b ≡ true → IsTable b
unfolding is_table
table_is b e =
    let p = and_parts _ _ e in
    let q = and_parts _ _ p.1 in
    let r = and_parts _ _ q.1 in
    let s = and_parts _ _ r.1 in
    record { long = leb-true _ _ p.0; whole = eqb-true _ _ q.0; signature = r.0; id = s.0; table_id = s.1 }

-- a table stays one if byte 9 is set
pub still : (b : List ℕ) → IsTable b → IsTable (with_sum 9 b)
unfolding with_sum field_of
still b is = record {
  long = omega (arith, is.long, length-with_sum 9 b);
  whole = ap number (part_before b 9 (sum_byte 9 b) 4 4 (lit≤ tt)) ∙ is.whole ∙ sym (length-with_sum 9 b);
  signature = rw (part_front b 9 (sum_byte 9 b) 4 (lit≤ tt)) is.signature;
  id = rw (part_past b 9 (sum_byte 9 b) 10 6 (lit< tt)) is.id;
  table_id = rw (part_past b 9 (sum_byte 9 b) 16 8 (lit< tt)) is.table_id;
}

table_sum : (b : List ℕ) → is_table b ≡ true → sum_of (with_sum 9 b) ≡ 0
table_sum b e = sum_is_set 9 b (omega (arith, (table_is b e).long))

pub sums_are_set : (ts : Memory) → AllByRecursion (λ t. is_table t.bytes ≡ true) ts
    → AllByRecursion (λ table. sum_of table ≡ 0) (map (λ t. with_sum 9 t.bytes) ts)
sums_are_set [] all = tt
sums_are_set (t ∷ ts) all = (table_sum t.bytes all.0, sums_are_set ts all.1)

pub tables_there : (m ts : Memory) → IsMemory m → AllByRecursion (Contains m) (map summed ts)
    → AllByRecursion (λ t. is_table t.bytes ≡ true) ts
    → valid_tables m (starts_of ts) ≡ map (λ t. with_sum 9 t.bytes) ts
tables_there m [] h within all = refl
tables_there m (t ∷ ts) h within all =
    let is = still t.bytes (table_is t.bytes all.0) in
    let this : own_table_at m t.start ≡ Ok (with_sum 9 t.bytes) =
    own_table_there m (summed t) h within.0 (header_names (with_sum 9 t.bytes) is.signature is.id is.table_id) is.long
    is.whole (table_sum t.bytes all.0) in
    rw (this, tables_there m ts h within.1 all.1) refl
