-- What a reader finds of tables that are laid one after the other, and in an image that has one.
use Rattle.std.proofs.Common.{◌≡◌, ℕ, ◌+◌, ◌-◌, ◌≤◌, Bool, true, false, List, [], ◌∷◌, ◌++◌, length, take, drop, Some, None, Result, Ok, Err, refl, sym, ap, ◌∙◌, arith, if◌then◌else◌, length-append, Option, lit≤, map, ◌&&◌, ◌==◌, nat_le, replicate, bytes_eq}
use Rattle.acpi_base.proofs.FromStd.{eqb-true, le-leb, drop_at, drop-drop, drop-take, take_all, take_at, set-set}
use Rattle.acpi_base.proofs.Words.{at-front, lent_inside, lent_is_inside, good_rest, header_front, own_table, own_table_is, passes, served, serves, bind_ok, holds_ok}
use Rattle.acpi.proofs.First.{here}
use Rattle.acpi_image.proofs.Written.{header_names, table_is, length-with_sum, part_front}
use Rattle.acpi_writer.specs.Words.{result_ok, AllByRecursion, spelling, field_of, part, sum_of, check_names, check_table, header_at, Memory, HoldsRange, IsMemory, Region, at, rest_from, holds, lent, ◌>>=◌, own_table_at, plain_kind, sdt_kind, table_at, kind, letters_of, Model, AcpiError, SdtInvalidChecksum, SdtInvalidLength, Signature, PowerProfile, or_later, fadt_kind, lookup, model_in, platform_of, bytes_found, timer_of, is_named, HasFirst, HasPlatform, HpetInImage, MadtInImage, McfgInImage, PlatformInImage, gap, laid, padded, LaidAreFound, IsValid, IsTableOf, table_bytes, unsummed, hpet_fields, madt_fields, model_read, TableIds, MadtContents, fadt_at, profile_of, PlatformInfo, PmTimer, Plan, records_of, with_sum, sum_byte}
use Rattle.acpi_image.specs.Words.{pointers_of}
use Rattle.acpi_table_writer.proofs.Bits.{was_true}
use Rattle.acpi_table_writer.proofs.ShortTables.{hpet_read, mcfg_read}
use Rattle.acpi_table_writer.proofs.MadtRead.{madt_read}
use Rattle.acpi.proofs.Moved.{first_of, lookup_is}
use Rattle.acpi_image.proofs.WrittenLaws.{written_is_read}
use Rattle.acpi_table_writer.proofs.Tables as table

-- ---- the front and the rest of what is mapped

pub front_lent : (m : Memory) (a : ℕ) (xs ys : List ℕ) → at m a (length (xs ++ ys)) ≡ Some (xs ++ ys)
    → at m a (length xs) ≡ Some xs
front_lent m a xs ys e = at-front m a (length xs) (xs ++ ys) e (omega (arith, length-append xs ys))
    ∙ ap (λ (b : List ℕ). Some b) (take_at xs ys (length xs) refl)

nothing_lent : (m : Memory) (a : ℕ) → at m a 0 ≡ Some []
unfolding at
nothing_lent m a = rw (le-leb 0 (length (rest_from m a)) (omega arith)) refl

holds_rest : (r : Region) (a : ℕ) (xs ys : List ℕ) → HoldsRange r a (length (xs ++ ys)) (xs ++ ys)
    → HoldsRange r (a + length xs) (length ys) ys
holds_rest r a xs ys h =
    let long = length-append xs ys in
    let from : drop (length xs) (drop (a - r.start) r.bytes) ≡ drop (a + length xs - r.start) r.bytes =
    drop-drop (length xs) (a - r.start) r.bytes ∙ ap (λ n. drop n r.bytes) (omega (arith, h.starts)) in
    record {
      starts = omega (arith, h.starts);
      ends = omega (arith, h.ends, long);
      there = sym (drop_at xs ys (length xs) refl) ∙ ap (drop (length xs))
          (h.there ∙ ap (λ n. take n (drop (a - r.start) r.bytes)) long)
          ∙ drop-take (length xs) (length ys) (drop (a - r.start) r.bytes) ∙ ap (take (length ys)) from;
    }

pub rest_lent : (m : Memory) (a : ℕ) (xs ys : List ℕ) → IsMemory m → at m a (length (xs ++ ys)) ≡ Some (xs ++ ys)
    → at m (a + length xs) (length ys) ≡ Some ys
rest_lent m a xs [] h e = nothing_lent m (a + length xs)
rest_lent m a xs (y ∷ ys) h e =
    let f = lent_inside m a (length (xs ++ y ∷ ys)) (xs ++ y ∷ ys) (omega (arith, length-append xs (y ∷ ys))) e in
    (lent_is_inside m (a + length xs) (length (y ∷ ys)) (y ∷ ys) h (omega arith)).1
    (f.0, f.1, holds_rest f.0 a xs (y ∷ ys) f.2)

-- ---- a valid table that is mapped

summed : (s : Signature) (t : List ℕ) → field_of t 4 4 ≡ length t → check_table s t ≡ Ok tt → sum_of t ≡ 0
unfolding check_table
summed s t whole e =
    let names = bind_ok (check_names s (header_at t)) _ tt e in
    let long = holds_ok (nat_le 36 (field_of t 4 4) && nat_le (field_of t 4 4) (length t)) (SdtInvalidLength s)
    (λ _. holds (sum_of (take (field_of t 4 4) t) == 0) (SdtInvalidChecksum s)) tt names.2 in
    let all : take (field_of t 4 4) t ≡ t = ap (λ n. take n t) whole ∙ take_all (length t) t (omega arith) in
    ap sum_of (sym all) ∙ eqb-true (sum_of (take (field_of t 4 4) t)) 0
    (was_true (sum_of (take (field_of t 4 4) t) == 0) (SdtInvalidChecksum s) long.1)

header_length : (t : List ℕ) → (header_at t).length ≡ field_of t 4 4
unfolding header_at
header_length t = refl

same_letters : (t : List ℕ) → letters_of (header_at t).signature ≡ part (take 36 t) 0 4
unfolding header_at
same_letters t = ap (λ h. letters_of h.signature) (sym (header_front t))

module _ (m : Memory) (p : ℕ) (s : Signature) (t : List ℕ) (valid : IsValid s t) (e : at m p (length t) ≡ Some t) where
  pub own_there : own_table_at m p ≡ Ok t
  own_there =
      let is = table_is t valid.taken in
      let own = (header_at t).signature in
      let front : lent m p 36 ≡ Ok (take 36 t) = rw (at-front m p 36 t e is.long) refl in
      let names = header_names t is.signature is.id is.table_id in
      let long = header_length t ∙ is.whole in
      own_table m own p (take 36 t) front (same_letters t)
      ∙ passes m (plain_kind own) p t (record {
        head = take 36 t;
        front = front;
        names = rw (header_front t) names;
        long = rw (header_front t, long) (le-leb 36 (length t) is.long);
        whole = rw (header_front t, long, e) refl;
        checked = good_rest own t is.long names long (summed s t is.whole valid.checked);
      })

  -- a lookup's step there
  pub there : (of : Signature) (least : ℕ) → 36 ≤ least
      → result_ok (table_at m (sdt_kind of least) p) ≡ (if is_named of t && nat_le least (length t) then Some t
      else None)
  unfolding header_at
  there of least enough = own_table_is m of least p enough ∙ ap (λ r. served of least (result_ok r)) own_there

-- ---- tables one after the other

step : (b : Bool) (p : ℕ) (t : List ℕ) (r : Result (List ℕ) AcpiError) (later others : Result (ℕ × List ℕ) AcpiError)
    → result_ok r ≡ (if b then Some t else None) → later ≡ others
    → or_later (here p) r later ≡ (if b then Ok (p, t) else others)
step true p t (Ok found) later others e f = cc
step true p t (Err d) later others e f = absurd cc
step false p t (Ok found) later others e f = absurd cc
step false p t (Err d) later others e f = f

pub laid_found : LaidAreFound
laid_found m a [] h valid e s least enough = refl
laid_found m a (t ∷ ts) h valid e s least enough =
    let filled = replicate (gap (length t)) 0 in
    let first : at m a (length t) ≡ Some t = front_lent m a t filled (front_lent m a (padded t) (laid ts) e) in
    step (is_named s t && nat_le least (length t)) a t (table_at m (sdt_kind s least) a) _ _
    (there m a valid.0.0 t valid.0.1 first s least enough)
    (laid_found m (a + length (padded t)) ts h valid.1 (rest_lent m a (padded t) (laid ts) h e) s least enough)

-- ---- a table whose Checksum is set

pub with_sum_again : (offset : ℕ) (bytes : List ℕ) → with_sum offset (with_sum offset bytes) ≡ with_sum offset bytes
unfolding with_sum sum_byte
with_sum_again offset bytes = rw (set-set, set-set) refl

serves_named : (s : Signature) (least : ℕ) (table : List ℕ)
    → serves s least (with_sum 9 table) ≡ (is_named s table && nat_le least (length table))
unfolding header_at with_sum
serves_named s least table =
    ap (λ p. bytes_eq p s.0 && nat_le least (length (with_sum 9 table)))
    (part_front table 9 (sum_byte 9 table) 4 (lit≤ tt)) ∙ ap (λ n. is_named s table && nat_le least n)
    (length-with_sum 9 table)

abbrev summed_bytes : Region → List ℕ
summed_bytes t = with_sum 9 t.bytes

first_after : (s : Signature) (least a : ℕ) (table : List ℕ) (before after : Memory)
    → AllByRecursion (λ t. is_named s t.bytes ≡ false) before → is_named s table ≡ true → least ≤ length table
    → first_of s least (map summed_bytes (before ++ record { start = a; bytes = table } ∷ after))
    ≡ Ok (with_sum 9 table)
unfolding first_of
first_after s least a table [] after others named long =
    rw (serves_named s least table, named, le-leb least (length table) long) refl
first_after s least a table (t ∷ before) after others named long =
    rw (serves_named s least t.bytes, others.0) (first_after s least a table before after others.1 named long)

-- ---- the first table of its signature in an image

again : (s : Signature) (revision : ℕ) (ids : TableIds) (body t : List ℕ) → IsTableOf s revision ids body t
    → with_sum 9 t ≡ t
unfolding table_bytes
again s revision ids body t is = ap (with_sum 9) is.bytes ∙ with_sum_again 9 (unsummed s revision ids body)
    ∙ sym is.bytes

abbrev fine : List ℕ → Result (List ℕ) AcpiError
fine x = Ok x

abbrev platform : {A : Type 0} → PlatformInfo A → Result (PlatformInfo A) AcpiError
platform x = Ok x

abbrev place_in : Result (ℕ × List ℕ) AcpiError → ℕ
place_in (Ok found) = found.0
place_in (Err e) = 0

abbrev found_at : ℕ → List ℕ → Result (ℕ × List ℕ) AcpiError
found_at p t = Ok (p, t)

found_by : (r : Result (ℕ × List ℕ) AcpiError) (t : List ℕ) → bytes_found r ≡ Ok t → r ≡ Ok (place_in r, t)
found_by (Ok found) t e =
    let same : found.1 ≡ t = cc in
    ap (λ b. found_at found.0 b) same
found_by (Err d) t e = absurd cc

-- it is found as it was written
module _ {s : Signature} {revision : ℕ} {ids : TableIds} {body t : List ℕ} (letters : length (letters_of s) ≡ 4)
    (least : ℕ) (p : Plan) (is : IsTableOf s revision ids body t) (first : HasFirst s p t) where
  found_first : 36 ≤ least → least ≤ 36 + length body → let found = lookup (records_of p)
      (kind s least (check_table s)) (pointers_of p) in found ≡ Ok (place_in found, t)
  found_first enough long =
      let within : least ≤ length t = omega (arith, long, table.long letters is) in
      found_by (lookup (records_of p) (kind s least (check_table s)) (pointers_of p)) t
      (lookup_is (records_of p) s least (pointers_of p) enough ∙ ap (first_of s least)
      ((written_is_read p first.file first.bytes first.is_written).tables ∙ ap (map summed_bytes) first.tables)
      ∙ first_after s least first.address t first.before first.after first.others (table.named letters is) within
      ∙ ap fine (again s revision ids body t is))

pub madt_in_image : {A : Type 0} → MadtInImage A
unfolding madt_fields spelling
madt_in_image {A = A} p t ids c is first =
    rw (found_first refl 44 p is.written first (lit≤ tt) (omega arith)) (madt_read {A = A} ids c t is)

pub mcfg_in_image : McfgInImage
mcfg_in_image p t ids es is first =
    rw (found_first refl 44 p is.written first (lit≤ tt) (omega arith), mcfg_read ids es t is) refl

pub hpet_in_image : HpetInImage
unfolding hpet_fields spelling
hpet_in_image p t ids i is first =
    rw (found_first refl 56 p is.written first (lit≤ tt) (omega arith)) (hpet_read ids i t is)

-- ---- where the interrupt model is found, the platform has it

timed : {A : Type 0} (c : MadtContents) (profile : PowerProfile) (q : PlatformInfo A)
    (read_model : Result (Model A) AcpiError) (timer : Result (Option PmTimer) AcpiError) → read_model
    ≡ Ok (model_read c)
    → (read_model >>= λ s. timer >>= λ found. platform (record {
      power_profile = profile;
      interrupt_model = s.0;
      processor_info =
          s.1;
      pm_timer = found;
    })) ≡ Ok q → HasPlatform c q
timed c profile q (Err e) timer same is = absurd cc
timed c profile q (Ok s) (Err e) same is = absurd cc
timed c profile q (Ok s) (Ok found) same is = record { interrupt_model = cc; processor_info = cc }

pub platform_has : {A : Type 0} (m : Memory) (ps : List ℕ) (c : MadtContents) (q : PlatformInfo A)
    → model_in {A = A} m ps ≡ Ok (model_read c) → platform_of m ps ≡ Ok q → HasPlatform c q
platform_has m ps c q model answered =
    let parts = bind_ok (lookup m fadt_kind ps) _ q answered in
    timed c (profile_of (fadt_at parts.0.1)) q (model_in m ps) (timer_of (fadt_at parts.0.1)) model parts.2

pub platform_in_image : {A : Type 0} → PlatformInImage A
platform_in_image {A = A} p t ids c q is first answered =
    platform_has (records_of p) (pointers_of p) c q (madt_in_image p t ids c is first) answered
