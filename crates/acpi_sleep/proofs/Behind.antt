-- What is read of bytes is also read of them if more bytes follow: blocks, names and arguments.
use Rattle.std.proofs.Common.{◌≡◌, ℕ, zero, suc, ◌+◌, ◌-◌, ◌*◌, ◌/◌, ◌%◌, ◌<◌, ◌≤◌, Bool, true, false, cond, List, [], ◌∷◌, ◌++◌, length, take, drop, Option, Some, None, Result, Ok, Err, refl, sym, ap, ◌∙◌, arith, eqb, ok_or}
use Rattle.std.specs.Prelude.{◌==◌, ◌&&◌, nat_le, nat_lt, slice_get, slice_index, not}
use Rattle.std.specs.List.{position, prefix_len, take_while}
use Rattle.std.proofs.Math.ListN.{get_or-append}
use Rattle.std.proofs.lemmas.Bool.{and_parts, le-leb, leb-true, lt-ltb, ltb-true}
use Rattle.std.proofs.lemmas.List.{drop-append-le, take-append-le, length-append, length-drop}
use Rattle.std.proofs.lemmas.List.Folds.{length-prefix_len}
use Rattle.std.proofs.lemmas.Option.{slice_get_within}
use Rattle.acpi_base.proofs.Words.{bind_ok, holds_ok, same_ok}
use Rattle.acpi_base.specs.Words.{field_of, number, ◌>>=◌}
use Rattle.acpi_sleep.specs.Words.{no_operand, AmlError, Block, Name, PastEnd, argument_end, arguments_end, begins_name, block_at, block_end, byte_at, bytes_end, carets, integer_width, is_lead, is_letter, is_operator, is_single, many_at, name_at, name_end, name_of, operand_end, other_end, package_size, path_at, segment_end, segments_end, text_end}

-- ---- choices

some_of : {A : Type 0} (o : Option A) (d : AmlError) (x : A) → ok_or o d ≡ Ok x → o ≡ Some x
some_of None d x e = absurd cc
some_of (Some y) d x e = cc

-- each way that is taken stays
pub stays_if : {A : Type 0} (b : Bool) (r s t u : Result A AmlError) (y : A) → (r ≡ Ok y → t ≡ Ok y) → (s ≡ Ok y
    → u ≡ Ok y) → cond b r s ≡ Ok y → cond b t u ≡ Ok y
stays_if true r s t u y one other e = one e
stays_if false r s t u y one other e = other e

-- ---- bytes

get_stays : (xs ys : List ℕ) (i b : ℕ) → slice_get xs i ≡ Some b → slice_get (xs ++ ys) i ≡ Some b
get_stays [] ys i b e = absurd cc
get_stays (x ∷ xs) ys zero b e = e
get_stays (x ∷ xs) ys (suc i) b e = get_stays xs ys i b e

pub byte_stays : (xs ys : List ℕ) (i b : ℕ) → byte_at xs i ≡ Ok b → byte_at (xs ++ ys) i ≡ Ok b
byte_stays xs ys i b e = ap (λ o. ok_or o (PastEnd i)) (get_stays xs ys i b (some_of (slice_get xs i) (PastEnd i) b e))

pub byte_within : (xs : List ℕ) (i b : ℕ) → byte_at xs i ≡ Ok b → i < length xs
byte_within xs i b e = slice_get_within xs i b (some_of (slice_get xs i) (PastEnd i) b e)

le_stays : (xs ys : List ℕ) (n : ℕ) → nat_le n (length xs) ≡ true → nat_le n (length (xs ++ ys)) ≡ true
le_stays xs ys n e = le-leb n (length (xs ++ ys)) (omega (arith, leb-true n (length xs) e, length-append xs ys))

pub bytes_stay : (xs ys : List ℕ) (at n end : ℕ) → bytes_end xs at n ≡ Ok end → bytes_end (xs ++ ys) at n ≡ Ok end
bytes_stay xs ys at n end e =
    let fits = holds_ok (nat_le (at + n) (length xs)) _ _ end e in
    rw (le_stays xs ys (at + n) fits.0) fits.1

pub field_stays : (xs ys : List ℕ) (at n : ℕ) → at + n ≤ length xs → field_of (xs ++ ys) at n ≡ field_of xs at n
unfolding field_of
field_stays xs ys at n fits =
    ap (λ l. number (take n l)) (drop-append-le at xs ys (omega (arith, fits))) ∙ ap number
    (take-append-le n (drop at xs) ys (omega (arith, fits, length-drop at xs)))

size_stays : (xs ys : List ℕ) (at lead : ℕ) → at + 1 + lead / 64 ≤ length xs
    → package_size (xs ++ ys) at lead ≡ package_size xs at lead
size_stays xs ys at lead fits =
    ap (λ n. cond (nat_lt lead 64) lead (lead % 16 + 16 * n)) (field_stays xs ys (at + 1) (lead / 64) fits)

pub record BlockOf (xs : List ℕ) (at : ℕ) (b : Block) : Type 0 where
  pub lead : ℕ
  pub read : byte_at xs at ≡ Ok lead
  pub ordered : nat_le (at + 1 + lead / 64) (at + package_size xs at lead) ≡ true
  pub fits : nat_le (at + package_size xs at lead) (length xs) ≡ true
  pub same : b ≡ record { start = at + 1 + lead / 64; end = at + package_size xs at lead }

pub block_of : (xs : List ℕ) (at : ℕ) (b : Block) → block_at xs at ≡ Ok b → BlockOf xs at b
unfolding block_at
block_of xs at b e =
    let lead = bind_ok (byte_at xs at) _ b e in
    let fits = holds_ok (nat_le (at + 1 + lead.0 / 64) (at + package_size xs at lead.0) && nat_le
    (at + package_size xs at lead.0) (length xs)) _ _ b lead.2 in
    let both = and_parts _ _ fits.0 in
    record { lead = lead.0; read = lead.1; ordered = both.0; fits = both.1; same = cc }

pub block_stays : (xs ys : List ℕ) (at : ℕ) (b : Block) → block_at xs at ≡ Ok b → block_at (xs ++ ys) at ≡ Ok b
unfolding block_at
block_stays xs ys at b e =
    let h = block_of xs at b e in
    let size = size_stays xs ys at h.lead (omega (arith, leb-true _ _ h.ordered, leb-true _ _ h.fits)) in
    rw (byte_stays xs ys at h.lead h.read, size, h.ordered, le_stays xs ys _ h.fits) (ap Ok (sym h.same))

pub block_within : (xs : List ℕ) (at : ℕ) (b : Block) → block_at xs at ≡ Ok b → b.end ≤ length xs
block_within xs at b e =
    let h = block_of xs at b e in
    omega (arith, leb-true _ _ h.fits, ap (λ (b : Block). b.end) h.same)

-- ---- names

segment_stays : (xs ys : List ℕ) (at end : ℕ) → segment_end xs at ≡ Ok end → segment_end (xs ++ ys) at ≡ Ok end
unfolding segment_end
segment_stays xs ys at end e =
    let long = holds_ok (nat_le (at + 4) (length xs)) _ _ end e in
    let fits : at + 4 ≤ length xs = leb-true (at + 4) (length xs) long.0 in
    rw (
      le_stays xs ys (at + 4) long.0,
      get_or-append xs ys 0 at (omega (arith, fits)),
      get_or-append xs ys 0
          (at + 1) (omega (arith, fits)),
      get_or-append xs ys 0 (at + 2) (omega (arith, fits)),
      get_or-append xs ys 0
          (at + 3) (omega (arith, fits)),
    ) long.1

pub segment_within : (xs : List ℕ) (at end : ℕ) → segment_end xs at ≡ Ok end → (end ≡ at + 4) × (at + 4 ≤ length xs)
unfolding segment_end
segment_within xs at end e =
    let long = holds_ok (nat_le (at + 4) (length xs)) _ _ end e in
    let chars = holds_ok (is_lead (slice_index xs at) && is_letter (slice_index xs (at + 1)) && is_letter
    (slice_index xs (at + 2)) && is_letter (slice_index xs (at + 3))) _ _ end long.1 in
    (sym (same_ok (at + 4) end chars.1), leb-true (at + 4) (length xs) long.0)

segments_stay : (n : ℕ) (xs ys : List ℕ) (at end : ℕ) → segments_end n xs at ≡ Ok end
    → segments_end n (xs ++ ys) at ≡ Ok end
segments_stay zero xs ys at end e = e
segments_stay (suc n) xs ys at end e =
    let first = bind_ok (segment_end xs at) _ end e in
    rw (segment_stays xs ys at first.0 first.1) (segments_stay n xs ys first.0 end first.2)

-- a single segment lies within the bytes
abbrev pub Single : List ℕ → Name → Type 0
Single xs name = name.segments ≡ 1 → name.first + 4 ≤ length xs

single_of : (xs : List ℕ) (ups segments first : ℕ) (name : Name) → name_of xs ups segments first ≡ Ok name
    → Single xs name
single_of xs ups segments first name e one =
    let end = bind_ok (segments_end segments xs first) _ name e in
    let same = same_ok (record { ups = ups; first = first; segments = segments; end = end.0 }) name end.2 in
    let n : segments ≡ 1 = ap (λ (n : Name). n.segments) same ∙ one in
    let head = bind_ok (segment_end xs first) _ end.0 (sym (ap (λ k. segments_end k xs first) n) ∙ end.1) in
    let at : first ≡ name.first = ap (λ (n : Name). n.first) same in
    omega (arith, at, (segment_within xs first head.0 head.1).1)

name_of_stays : (xs ys : List ℕ) (ups segments first : ℕ) (name : Name) → name_of xs ups segments first ≡ Ok name
    → name_of (xs ++ ys) ups segments first ≡ Ok name
name_of_stays xs ys ups segments first name e =
    let end = bind_ok (segments_end segments xs first) _ name e in
    rw (segments_stay segments xs ys first end.0 end.1) end.2

many_stays : (xs ys : List ℕ) (ups path : ℕ) (name : Name) → many_at xs ups path ≡ Ok name
    → many_at (xs ++ ys) ups path ≡ Ok name
many_stays xs ys ups path name e =
    let count = bind_ok (byte_at xs (path + 1)) _ name e in
    let some = holds_ok (nat_lt 0 count.0) _ _ name count.2 in
    rw (byte_stays xs ys (path + 1) count.0 count.1, some.0) (name_of_stays xs ys ups count.0 (path + 2) name some.1)

path_stays : (xs ys : List ℕ) (ups path : ℕ) (name : Name) → path_at xs ups path ≡ Ok name
    → path_at (xs ++ ys) ups path ≡ Ok name
path_stays xs ys ups path name e =
    let lead = bind_ok (byte_at xs path) _ name e in
    let one = stays_if (lead.0 == 0x2F) _ _ _ _ name (many_stays xs ys ups path name)
    (name_of_stays xs ys ups 1 path name) in
    let two = stays_if (lead.0 == 0x2E) _ _ _ _ name (name_of_stays xs ys ups 2 (path + 1) name) one in
    rw (byte_stays xs ys path lead.0 lead.1) (stays_if (lead.0 == 0x00) _ _ _ _ name
    (name_of_stays xs ys ups 0 (path + 1) name) two lead.2)

-- what holds whichever way is taken
pub either_way : {A : Type 0} (P : Type 0) (b : Bool) (r s : Result A AmlError) (y : A) → (r ≡ Ok y → P) → (s ≡ Ok y
    → P) → cond b r s ≡ Ok y → P
either_way P true r s y one other e = one e
either_way P false r s y one other e = other e

single_many : (xs : List ℕ) (ups path : ℕ) (name : Name) → many_at xs ups path ≡ Ok name → Single xs name
single_many xs ups path name e =
    let count = bind_ok (byte_at xs (path + 1)) _ name e in
    let some = holds_ok (nat_lt 0 count.0) _ _ name count.2 in
    single_of xs ups count.0 (path + 2) name some.1

single_path : (xs : List ℕ) (ups path : ℕ) (name : Name) → path_at xs ups path ≡ Ok name → Single xs name
single_path xs ups path name e =
    let lead = bind_ok (byte_at xs path) _ name e in
    let one = either_way (Single xs name) (lead.0 == 0x2F) _ _ name (single_many xs ups path name)
    (single_of xs ups 1 path name) in
    let two = either_way (Single xs name) (lead.0 == 0x2E) _ _ name (single_of xs ups 2 (path + 1) name) one in
    either_way (Single xs name) (lead.0 == 0x00) _ _ name (single_of xs ups 0 (path + 1) name) two lead.2

pub single_name : (xs : List ℕ) (at : ℕ) (name : Name) → name_at xs at ≡ Ok name → Single xs name
unfolding name_at
single_name xs at name e =
    let first = bind_ok (byte_at xs at) _ name e in
    single_path xs (carets xs at) (at + carets xs at + cond (first.0 == 92) 1 0) name first.2

-- a front of elements that pass ends where it did, if it ends before the list
front_next : (p : ℕ → Bool) (x : ℕ) (xs ys : List ℕ) (b : Bool) → p x ≡ b → (prefix_len p xs < length xs
    → prefix_len p (xs ++ ys) ≡ prefix_len p xs) → prefix_len p (x ∷ xs) < length (x ∷ xs)
    → prefix_len p (x ∷ (xs ++ ys)) ≡ prefix_len p (x ∷ xs)
front_next p x xs ys false e rest less = rw e refl
front_next p x xs ys true e rest less =
    let n : prefix_len p (x ∷ xs) ≡ 1 + prefix_len p xs = ap (λ b. cond b (1 + prefix_len p xs) 0) e in
    ap (λ b. cond b (1 + prefix_len p (xs ++ ys)) 0) e ∙ ap (λ n. 1 + n) (rest (omega (arith, less, n))) ∙ sym n

front_stays : (p : ℕ → Bool) (xs ys : List ℕ) → prefix_len p xs < length xs → prefix_len p (xs ++ ys) ≡ prefix_len p xs
front_stays p [] ys less = absurd (omega arith)
front_stays p (x ∷ xs) ys less = front_next p x xs ys (p x) refl (front_stays p xs ys) less

carets_stay : (xs ys : List ℕ) (at : ℕ) → at + carets xs at < length xs → carets (xs ++ ys) at ≡ carets xs at
carets_stay xs ys at less =
    let n = length-prefix_len (λ (c : ℕ). c == 94) (drop at xs) in
    ap (λ l. length (take_while (λ (c : ℕ). c == 94) l)) (drop-append-le at xs ys (omega (arith, less))) ∙
    length-prefix_len (λ (c : ℕ). c == 94) (drop at xs ++ ys) ∙ front_stays (λ (c : ℕ). c == 94) (drop at xs) ys
    (omega (arith, less, n, length-drop at xs)) ∙ sym n

pub name_stays : (xs ys : List ℕ) (at : ℕ) (name : Name) → name_at xs at ≡ Ok name → name_at (xs ++ ys) at ≡ Ok name
unfolding name_at
name_stays xs ys at name e =
    let first = bind_ok (byte_at xs at) _ name e in
    let path = at + carets xs at + cond (first.0 == 92) 1 0 in
    let lead = bind_ok (byte_at xs path) _ name first.2 in
    let less : at + carets xs at < length xs = omega (arith, byte_within xs path lead.0 lead.1) in
    rw (byte_stays xs ys at first.0 first.1, carets_stay xs ys at less)
    (path_stays xs ys (carets xs at) path name first.2)

-- ---- arguments

some_left : (p : ℕ → Bool) (xs : List ℕ) (n : ℕ) → position p xs ≡ Some n → 0 < length xs
some_left p [] n e = absurd cc
some_left p (x ∷ xs) n e = omega arith

position_if : (p : ℕ → Bool) (xs ys : List ℕ) (n : ℕ) (b : Bool)
    → nat_lt (prefix_len (λ x. not (p x)) xs) (length xs) ≡ b
    → cond b (Some (prefix_len (λ x. not (p x)) xs)) None ≡ Some n → position p (xs ++ ys) ≡ Some n
position_if p xs ys n false h e = absurd cc
position_if p xs ys n true h e =
    let less = ltb-true (prefix_len (λ x. not (p x)) xs) (length xs) h in
    rw (
      front_stays (λ x. not (p x)) xs ys less,
      lt-ltb (prefix_len (λ x. not (p x)) xs) (length (xs ++ ys))
          (omega (arith, less, length-append xs ys)),
    ) e

position_stays : (p : ℕ → Bool) (xs ys : List ℕ) (n : ℕ) → position p xs ≡ Some n → position p (xs ++ ys) ≡ Some n
position_stays p xs ys n e = position_if p xs ys n (nat_lt (prefix_len (λ x. not (p x)) xs) (length xs)) refl e

text_stays : (xs ys : List ℕ) (at end : ℕ) → text_end xs at ≡ Ok end → text_end (xs ++ ys) at ≡ Ok end
text_stays xs ys at end e =
    let n = bind_ok (ok_or (position (λ (b : ℕ). b == 0) (drop at xs)) (PastEnd at)) _ end e in
    let found = some_of (position (λ (b : ℕ). b == 0) (drop at xs)) (PastEnd at) n.0 n.1 in
    let within : at ≤ length xs = omega (
      arith,
      some_left (λ (b : ℕ). b == 0) (drop at xs) n.0 found,
      length-drop at
          xs,
    ) in
    rw (drop-append-le at xs ys within, position_stays (λ (b : ℕ). b == 0) (drop at xs) ys n.0 found) n.2

pub block_end_stays : (xs ys : List ℕ) (at end : ℕ) → block_end xs at ≡ Ok end → block_end (xs ++ ys) at ≡ Ok end
block_end_stays xs ys at end e =
    let block = bind_ok (block_at xs at) _ end e in
    rw (block_stays xs ys at block.0 block.1) block.2

pub name_end_stays : (xs ys : List ℕ) (at end : ℕ) → name_end xs at ≡ Ok end → name_end (xs ++ ys) at ≡ Ok end
name_end_stays xs ys at end e =
    let name = bind_ok (name_at xs at) _ end e in
    rw (name_stays xs ys at name.0 name.1) name.2

other_stays : (xs ys : List ℕ) (at lead end : ℕ) → other_end xs at lead ≡ Ok end → other_end (xs ++ ys) at lead ≡ Ok end
other_stays xs ys at lead end e =
    let name = stays_if (begins_name lead) _ _ _ _ end (name_end_stays xs ys at end)
    (λ (e : Err (no_operand xs at) ≡ Ok end). absurd cc) in
    let block = stays_if (nat_le 0x11 lead && nat_le lead 0x13) _ _ _ _ end (block_end_stays xs ys (at + 1) end) name in
    let text = stays_if (lead == 0x0D) _ _ _ _ end (text_stays xs ys (at + 1) end) block in
    stays_if (is_single lead) (Ok (at + 1)) _ (Ok (at + 1)) _ end (λ e. e) text e

pub stays_option : {A : Type 0} (o : Option ℕ) (f g : ℕ → Result A AmlError) (r s : Result A AmlError) (y : A)
    → ((n : ℕ) → f n ≡ Ok y → g n ≡ Ok y) → (r ≡ Ok y → s ≡ Ok y)
    → ◌≡◌ {A = Result A AmlError} (elim o [ Some n ↦ f n | None ↦ r ]) (Ok y)
    → ◌≡◌ {A = Result A AmlError} (elim o [ Some n ↦ g n | None ↦ s ]) (Ok y)
stays_option None f g r s y one other e = other e
stays_option (Some n) f g r s y one other e = one n e

pub operand_stays : (xs ys : List ℕ) (at end : ℕ) → operand_end xs at ≡ Ok end → operand_end (xs ++ ys) at ≡ Ok end
unfolding operand_end
operand_stays xs ys at end e =
    let lead = bind_ok (byte_at xs at) _ end e in
    rw (byte_stays xs ys at lead.0 lead.1) (stays_option (integer_width lead.0) (λ w. bytes_end xs (at + 1) w)
    (λ w. bytes_end (xs ++ ys) (at + 1) w) (other_end xs at lead.0) (other_end (xs ++ ys) at lead.0) end
    (λ w. bytes_stay xs ys (at + 1) w end) (other_stays xs ys at lead.0 end) lead.2)

none_are_left : (m left : ℕ) (ys : List ℕ) (at end : ℕ) (b : Bool) → eqb left 0 ≡ b
    → cond b (Ok at) (Err (PastEnd at)) ≡ Ok end → arguments_end m left ys at ≡ Ok end
none_are_left zero left ys at end true h e = rw h e
none_are_left (suc m) left ys at end true h e = rw h e
none_are_left m left ys at end false h e = absurd cc

argument_next : (n m left : ℕ) (xs ys : List ℕ) (at end lead : ℕ) → ((left at : ℕ)
    → arguments_end n left xs at ≡ Ok end → arguments_end m left (xs ++ ys) at ≡ Ok end)
    → cond (is_operator lead) (arguments_end n (left + 2) xs (at + 1))
    (operand_end xs at >>= (λ next. arguments_end n (left - 1) xs next)) ≡ Ok end
    → cond (is_operator lead) (arguments_end m (left + 2) (xs ++ ys) (at + 1))
    (operand_end (xs ++ ys) at >>= (λ next. arguments_end m (left - 1) (xs ++ ys) next)) ≡ Ok end
argument_next n m left xs ys at end lead rest e = stays_if (is_operator lead) _ _ _ _ end (rest (left + 2) (at + 1))
    (λ e.
    let next = bind_ok (operand_end xs at) _ end e in
    rw (operand_stays xs ys at next.0 next.1) (rest (left - 1) next.0 next.2)) e

arguments_stay : (n m left : ℕ) (xs ys : List ℕ) (at end : ℕ) → n ≤ m → arguments_end n left xs at ≡ Ok end
    → arguments_end m left (xs ++ ys) at ≡ Ok end
arguments_stay zero m left xs ys at end le e = none_are_left m left (xs ++ ys) at end (eqb left 0) refl e
arguments_stay (suc n) zero left xs ys at end le e = absurd (omega (arith, le))
arguments_stay (suc n) (suc m) left xs ys at end le e = stays_if (left == 0) _ _ _ _ end (λ (e : Ok at ≡ Ok end). e)
    (λ e.
    let lead = bind_ok (byte_at xs at) (λ lead. cond (is_operator lead) (arguments_end n (left + 2) xs (at + 1))
    (operand_end xs at >>= (λ next. arguments_end n (left - 1) xs next))) end e in
    let less : n ≤ m = omega (arith, le) in
    rw (byte_stays xs ys at lead.0 lead.1) (argument_next n m left xs ys at end lead.0
    (λ left at e. arguments_stay n m left xs ys at end less e) lead.2)) e

pub argument_stays : (xs ys : List ℕ) (at end : ℕ) → argument_end xs at ≡ Ok end → argument_end (xs ++ ys) at ≡ Ok end
unfolding argument_end
argument_stays xs ys at end e = arguments_stay (length xs + 1) (length (xs ++ ys) + 1) 1 xs ys at end
    (omega (arith, length-append xs ys)) e
