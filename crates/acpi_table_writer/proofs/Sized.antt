-- How many bytes a table and the things in it have, and that the room for it changes only whether it fits.
use Rattle.std.proofs.Common.{◌≡◌, ℕ, ◌+◌, ◌^◌, ◌<◌, ◌≤◌, true, List, [], length, Result, Ok, Err, refl, sym, ap, ◌∙◌, arith, length-append, ◌-◌, ◌∷◌, ◌++◌, take, get_or, map, subst, length-drop, Some, nat_le, nat_lt, flat_map, All}
use Rattle.acpi_base.proofs.FromStd.{leb-true, ltb-true, All-more, take-put_mid, length-map, append-nil, length-take-le, flat_map-append, take_at_read, length-flat_map-take}
use Rattle.std.proofs.lemmas.List.{get_or-map}
use Rattle.acpi_base.proofs.Words.{holds_ok, same_ok}
use Rattle.acpi_table_writer.specs.Words.{◌>>=◌, Signature, most, or_none, sized, is_empty, are_texts, table_bytes, table_written, checked_written, WriterError, TableIds, SratContents, GicContents, MadtContents, gic_meant, madt_meant, srat_meant, Measures}
use borrow.Rule.Slice.PartMut.{put_mid}

-- ---- more room, and less

-- what is written in some room
pub record Wrote (room : ℕ) (s : Signature) (revision : ℕ) (ids : TableIds) (body t : List ℕ) : Type 0 where
  pub texts : are_texts ids ≡ true
  pub within : 36 + length body ≤ room
  pub short : 36 + length body < 2 ^ 32
  pub bytes : t ≡ table_bytes s revision ids body

abbrev done : List ℕ → Result (List ℕ) WriterError
done x = Ok x

pub wrote : (room : ℕ) (s : Signature) (revision : ℕ) (ids : TableIds) (body t : List ℕ)
    → table_written room s revision ids body ≡ Ok t → Wrote room s revision ids body t
unfolding table_written
wrote room s revision ids body t e =
    let texts = holds_ok (are_texts ids) _ _ t e in
    let within = holds_ok (nat_le (36 + length body) room) _ _ t texts.1 in
    let short = holds_ok (nat_lt (36 + length body) (2 ^ 32)) _ _ t within.1 in
    record {
      texts = texts.0;
      within = leb-true (36 + length body) room within.0;
      short = ltb-true (36 + length body) (2 ^ 32) short.0;
      bytes = sym (same_ok {E = WriterError} (table_bytes s revision ids body) t short.1);
    }

-- ---- a table that is as long as its size has it

-- what is written, if it has a size
pub written_of : (w : Result (List ℕ) WriterError) (n : ℕ) → sized w ≡ Ok n
    → w ≡ Ok (or_none w) × (length (or_none w) ≡ n)
written_of (Ok t) n e = (refl, cc)
written_of (Err d) n e = absurd cc

past : (r : Result (Unit {0}) WriterError) (w : Result (List ℕ) WriterError) (t : List ℕ)
    → (r >>= λ _. w) ≡ Ok t → w ≡ Ok t
past (Ok passed) w t e = e
past (Err d) w t e = absurd cc

pub said_long : {X : Type 0} (checked : X → Result (Unit {0}) WriterError) (head : X → Signature × ℕ)
    (body : X → List ℕ) (ids : TableIds) (c : X) (n : ℕ) → sized (checked_written checked head body most ids c) ≡ Ok n
    → (n ≡ length (table_bytes (head c).0 (head c).1 ids (body c))) × (36 + length (body c) < 2 ^ 32)
    × (or_none (checked_written checked head body most ids c) ≡ table_bytes (head c).0 (head c).1 ids (body c))
said_long checked head body ids c n e =
    let all = checked_written checked head body most ids c in
    let is = written_of all n e in
    let w = wrote most (head c).0 (head c).1 ids (body c) (or_none all)
    (past (checked c) (table_written most (head c).0 (head c).1 ids (body c)) (or_none all) is.0) in
    (sym is.1 ∙ ap length w.bytes, w.short, w.bytes)

-- ---- the things in a list

-- a part of a list in place of as long a one
pub put_long : {X : Type 0} (a k : ℕ) (xs ys : List X) → a + k ≤ length xs → length ys ≡ k
    → length (put_mid a k xs ys) ≡ length xs
put_long a k xs ys within long =
    simp (length-append, length-drop) (omega (arith, length-take-le a xs (omega (arith, within)), long))

spelled_more : {X : Type 0} (f : X → List ℕ) (xs : List X) (i : ℕ) (d : X) → i < length xs
    → flat_map f (take (i + 1) xs) ≡ flat_map f (take i xs) ++ f (get_or xs i d)
spelled_more f xs i d less =
    ap (flat_map f) (take_at_read xs i d less).1 ∙ flat_map-append f (take i xs) (get_or xs i d ∷ [])
    ∙ ap (λ z. flat_map f (take i xs) ++ z) (append-nil (f (get_or xs i d)))

-- one more is measured
pub measured_more : {X : Type 0} (f : X → List ℕ) (P : X → Type 0) (xs : List X) (i size more room : ℕ) (x : X)
    → x ≡ get_or xs i x → i < length xs
    → Measures (Some size) room (flat_map f (take i xs)) (All P (take i xs))
    → Measures (Some more) (room - size) (f x) (P x)
    → Measures (Some (size + more)) room (flat_map f (take (i + 1) xs)) (All P (take (i + 1) xs))
measured_more f P xs i size more room x is less before this = (
  omega (
    arith,
    before.0,
    this.0,
    ap (λ y. length (f y)) is,
    ap length (spelled_more f xs i x less),
    length-append (flat_map f (take i xs)) (f (get_or xs i x)),
  ),
  omega (arith, before.1, this.1),
  All-more P xs i x less before.2 (subst P is this.2),
)

-- one more doesn't fit
pub not_whole : {X : Type 0} (f : X → List ℕ) (xs : List X) (i size room : ℕ) (x : X) → x ≡ get_or xs i x
    → i < length xs → size ≡ length (flat_map f (take i xs)) → size ≤ room → room - size < length (f x)
    → room < length (flat_map f xs)
not_whole f xs i size room x is less before within this =
    omega (arith, before, within, this, ap (λ y. length (f y)) is, length-flat_map-take f xs i x less)

-- one more is put
pub put_more : {X : Type 0} (f : X → List ℕ) (xs : List X) (i at size total : ℕ) (x : X) (out new : List ℕ)
    → x ≡ get_or xs i x → i < length xs → new ≡ f x → (size ≡ length (f x)) × (size ≤ length out - at)
    → total ≡ length (flat_map f xs)
    → (take at out ≡ flat_map f (take i xs)) × (at ≡ length (flat_map f (take i xs))) × (length out ≡ total)
    → (take (at + size) (put_mid at (at + size - at) out new) ≡ flat_map f (take (i + 1) xs))
    × (at + size ≡ length (flat_map f (take (i + 1) xs)))
    × (length (put_mid at (at + size - at) out new) ≡ total)
put_more f xs i at size total x out new is less put this whole before =
    let more = spelled_more f xs i x less in
    let one : f (get_or xs i x) ≡ f x = ap f (sym is) in
    let there = length-flat_map-take f xs i x less in
    let within : at + size ≤ length out =
    omega (arith, there, whole, before.1, before.2, this.0, ap length one) in
    let long : length new ≡ size = ap length put ∙ sym this.0 in (
      take-put_mid at (at + size - at) out new (at + size) (omega (arith, long)) (omega (arith, within))
          ∙ ap (λ z. z ++ new) before.0 ∙ ap (λ z. flat_map f (take i xs) ++ z) (put ∙ sym one) ∙ sym more,
      omega (
        arith,
        this.0,
        before.1,
        ap length more,
        length-append (flat_map f (take i xs)) (f (get_or xs i x)),
        ap length one,
      ),
      put_long at (at + size - at) out new (omega (arith, within)) (omega (arith, long)) ∙ before.2,
    )

-- what is at a place of a list means what is there in the list of items
pub meant_at : {X Y : Type 0} (f : X → Y) (xs : List X) (i : ℕ) (x : X) (y : Y) → y ≡ f x → x ≡ get_or xs i x
    → i < length xs → (y ≡ get_or (map f xs) i y) × (i < length (map f xs))
meant_at f xs i x y item is less = (
  item ∙ ap f is ∙ sym (get_or-map f xs i x y less),
  omega (arith, less, length-map xs f),
)

-- what means itself
pub map_same : {X : Type 0} (xs : List X) → map (λ x. x) xs ≡ xs
map_same [] = refl
map_same (x ∷ xs) = ap (λ l. x ∷ l) (map_same xs)

-- and there is one if there is an item
pub some_meant : {R T : Type 0} (f : R → T) (things : List R) → is_empty (map f things) ≡ is_empty things
some_meant f [] = refl
some_meant f (x ∷ xs) = refl

-- contents of items themselves

pub madt_itself : (c : MadtContents) → madt_meant (λ x. x) (λ x. x) (λ x. x) (λ x. x) (λ x. x) c ≡ c
madt_itself c = simp map_same

pub gic_itself : (c : GicContents) → gic_meant (λ x. x) (λ x. x) (λ x. x) (λ x. x) c ≡ c
gic_itself c = simp map_same

pub srat_itself : (c : SratContents) → srat_meant (λ x. x) c ≡ c
srat_itself c = simp map_same

pub ruleset itself = (madt_itself, gic_itself, srat_itself, map_same)
