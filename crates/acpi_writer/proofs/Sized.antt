-- How many bytes tables have that are laid out.
use Rattle.std.proofs.Common.{◌≡◌, ℕ, ◌+◌, ◌^◌, ◌<◌, ◌≤◌, List, [], length, Result, Ok, Err, refl, sym, ap, ◌∙◌, arith, length-append, ◌-◌, ◌∷◌, ◌++◌, take, drop, get_or, map, subst, append_assoc, length-drop, replicate, ◌*◌, flat_map, All}
use Rattle.acpi_base.proofs.FromStd.{All-more, take-put_mid, drop-drop, drop_more, length-map, length-replicate, length-take-le, take_at}
use Rattle.acpi_base.proofs.Words.{length-spelling}
use Rattle.acpi_writer.specs.Words.{◌>>=◌, spelling, XSDT, Xsdt, or_none, Written, bytes_by, placed_by, sized, gap, padded, addresses, laid, rounded, AreIds, WriterError, TableIds, MachineOf, after_dsdt, check_each, dsdt_address, dsdt_end, dsdt_of, facs_laid, listed_by, rest_bytes, size_by, tables_address, tree_by, xsdt_by, xsdt_from, xsdt_length, root_body}
use Rattle.acpi_table_writer.proofs.Sized.{put_long}
use Rattle.acpi_table_writer.proofs.Tables.{table_length}
use Rattle.acpi_table_writer.proofs.FieldsRead.{each_long}
use borrow.Rule.Slice.PartMut.{post_of, put_mid}
use Rattle.acpi_writer.proofs.Headless.{laid_long}

-- ---- filled up

pub padded_long : (t : List ℕ) → length (padded t) ≡ rounded (length t)
padded_long t = simp (length-append, length-replicate) (omega arith)

-- ---- what is put

abbrev pub count : ℕ → Result ℕ WriterError
count n = Ok n

-- what `put` leaves: the table, filled up, and what stood after it
pub put_bytes : (old new out t : List ℕ) (size : ℕ) → size ≤ length old → drop size new ≡ drop size old
    → length new ≡ length old → t ≡ take size new
    → out ≡ take size new ++ (replicate (gap size) 0 ++ drop (rounded size) new)
    → out ≡ padded t ++ drop (length (padded t)) old
put_bytes old new out t size within rest same is filled =
    let long : length t ≡ size = ap length is ∙ length-take-le size new (omega (arith, within, same)) in
    let after : drop (rounded size) new ≡ drop (rounded size) old =
    sym (drop-drop (gap size) size new) ∙ ap (drop (gap size)) rest ∙ drop-drop (gap size) size old in
    let whole : length (padded t) ≡ rounded size = padded_long t ∙ ap rounded long in
    filled ∙ ap (λ z. z ++ (replicate (gap size) 0 ++ drop (rounded size) new)) (sym is)
    ∙ ap (λ z. t ++ (replicate (gap size) 0 ++ z)) after
    ∙ sym (append_assoc t (replicate (gap size) 0) (drop (rounded size) old))
    ∙ ap (λ n. (t ++ replicate (gap n) 0) ++ drop (rounded size) old) (sym long)
    ∙ ap (λ n. padded t ++ drop n old) (sym whole)

pub put_none : (old new t : List ℕ) → t ≡ [] → new ≡ old → new ≡ padded t ++ drop (length (padded t)) old
put_none old new t none same = rw none same

-- ---- the listed tables

abbrev pub listed_after : {A : Type 0} → Written A → ℕ → TableIds → List A → Result ℕ WriterError
listed_after w size ids cs = check_each w ids cs >>= λ _. count (size + length (laid (map (bytes_by w ids) cs)))

after_one : (w : Result (List ℕ) WriterError) (size more : ℕ) (rest : Result (Unit {0}) WriterError) (others : List ℕ)
    → sized w ≡ Ok more
    → ((w >>= λ _. rest) >>= λ _. count (size + length (padded (or_none w) ++ others)))
    ≡ (rest >>= λ _. count (size + rounded more + length others))
after_one (Ok t) size more rest others e =
    let same : length t ≡ more = cc in
    let long : length (padded t) ≡ rounded more = padded_long t ∙ ap rounded same in
    ap (λ n. rest >>= λ _. count n) (omega (arith, length-append (padded t) others, long))
after_one (Err d) size more rest others e = absurd cc

after_error : (w : Result (List ℕ) WriterError) (size : ℕ) (e : WriterError) (rest : Result (Unit {0}) WriterError)
    (others : List ℕ) → sized w ≡ Err e
    → ((w >>= λ _. rest) >>= λ _. count (size + length (padded (or_none w) ++ others))) ≡ Err e
after_error (Ok t) size e rest others same = absurd cc
after_error (Err d) size e rest others same = cc

-- a list from one thing on
opens : {A : Type 0} (cs : List A) (i : ℕ) (x : A) → x ≡ get_or cs i x → i < length cs → drop i cs ≡ x ∷ drop (i + 1) cs
opens cs i x is less = drop_more cs i x less ∙ ap (λ y. y ∷ drop (i + 1) cs) (sym is)

pub listed_error : {A : Type 0} (w : Written A) (ids : TableIds) (cs : List A) (i size : ℕ) (x : A) (e : WriterError)
    → x ≡ get_or cs i x → i < length cs → sized (w ids x) ≡ Err e
    → listed_after w size ids (drop i cs) ≡ Err e
listed_error w ids cs i size x e is less same =
    ap (listed_after w size ids) (opens cs i x is less) ∙ after_error (w ids x) size e
    (check_each w ids (drop (i + 1) cs)) (laid (map (bytes_by w ids) (drop (i + 1) cs))) same

pub listed_step : {A : Type 0} (w : Written A) (Fits : A → Type 0) (ids : TableIds) (cs : List A) (i size more r : ℕ)
    (total : Result ℕ WriterError) (x : A) → x ≡ get_or cs i x → i < length cs → sized (w ids x) ≡ Ok more
    → Fits x → more < 2 ^ 32 → r ≡ rounded more
    → (listed_after w size ids (drop i cs) ≡ total) × (size ≤ i * 2 ^ 32) × All Fits (take i cs)
    → (listed_after w (size + r) ids (drop (i + 1) cs) ≡ total) × (size + r ≤ (i + 1) * 2 ^ 32)
    × All Fits (take (i + 1) cs)
listed_step w Fits ids cs i size more r total x is less e fit short same before =
    let rest = drop (i + 1) cs in
    let one = after_one (w ids x) size more (check_each w ids rest) (laid (map (bytes_by w ids) rest)) e in (
      ap (λ n. listed_after w (size + n) ids rest) same ∙ sym one
          ∙ sym (ap (listed_after w size ids) (opens cs i x is less)) ∙ before.0,
      omega (arith, before.1, short, same),
      All-more Fits cs i x less before.2 (subst Fits is fit),
    )

-- ---- what is put

pub addresses_step : {A : Type 0} (w : Written A) (ids : TableIds) (cs : List A) (i place at p long sum : ℕ)
    (out new total : List ℕ) (x : A) → x ≡ get_or cs i x → i < length cs → long ≡ 8 * length cs
    → p ≡ length (placed_by w ids x)
    → new ≡ spelling 8 place
    → (take at out ++ flat_map (spelling 8) (addresses place (map (bytes_by w ids) (drop i cs))) ≡ total) × (at ≡ 8 * i)
    × (length out ≡ long) × (place + length (laid (map (bytes_by w ids) (drop i cs))) ≡ sum)
    → (take (at + 8) (put_mid at (at + 8 - at) out new) ++ flat_map (spelling 8)
    (addresses (place + p) (map (bytes_by w ids) (drop (i + 1) cs))) ≡ total)
    × (at + 8 ≡ 8 * (i + 1)) × (length (put_mid at (at + 8 - at) out new) ≡ long)
    × (place + p + length (laid (map (bytes_by w ids) (drop (i + 1) cs))) ≡ sum)
addresses_step w ids cs i place at p long sum out new total x here_is less whole size is before =
    let rest = map (bytes_by w ids) (drop (i + 1) cs) in
    let here = map (bytes_by w ids) (drop i cs) in
    let opened : here ≡ bytes_by w ids x ∷ rest = ap (map (bytes_by w ids)) (opens cs i x here_is less) in
    let eight : length new ≡ 8 = ap length is ∙ length-spelling 8 place in
    let put = take-put_mid at (at + 8 - at) out new (at + 8) (omega (arith, eight))
    (omega (arith, before.1, before.2, whole, less)) in
    let next : List ℕ = flat_map (spelling 8) (addresses (place + p) rest) in
    let all : spelling 8 place ++ next ≡ flat_map (spelling 8) (addresses place here) =
    ap (λ n. spelling 8 place ++ flat_map (spelling 8) (addresses (place + n) rest)) size
    ∙ sym (ap (λ ts. flat_map (spelling 8) (addresses place ts)) opened) in (
      ap (λ z. z ++ next) put ∙ append_assoc (take at out) new next ∙ ap (λ z. take at out ++ (z ++ next)) is
          ∙ ap (λ z. take at out ++ z) all ∙ before.0,
      omega (arith, before.1),
      put_long at (at + 8 - at) out new (omega (arith, before.1, before.2, whole, less)) (omega (arith, eight))
          ∙ before.2,
      omega (arith, before.3, size, ap (λ ts. length (laid ts)) opened, length-append (placed_by w ids x) (laid rest)),
    )

pub put_step : {A : Type 0} (w : Written A) (ids : TableIds) (cs : List A) (i at p long : ℕ) (out new total : List ℕ)
    (x : A) → x ≡ get_or cs i x → i < length cs → p ≡ length (placed_by w ids x)
    → new ≡ placed_by w ids x ++ drop (length (placed_by w ids x)) (take (length out - at) (drop at out))
    → (take at out ++ laid (map (bytes_by w ids) (drop i cs)) ≡ total)
    × (at + length (laid (map (bytes_by w ids) (drop i cs))) ≡ length out) × (length out ≡ long)
    → (take (at + p) (put_mid at (length out - at) out new) ++ laid (map (bytes_by w ids) (drop (i + 1) cs)) ≡ total)
    × (at + p + length (laid (map (bytes_by w ids) (drop (i + 1) cs))) ≡ length (put_mid at (length out - at) out new))
    × (length (put_mid at (length out - at) out new) ≡ long)
put_step w ids cs i at p long out new total x here_is less size is before =
    let part : List ℕ = take (length out - at) (drop at out) in
    let rest = map (bytes_by w ids) (drop (i + 1) cs) in
    let this = placed_by w ids x in
    let opened : map (bytes_by w ids) (drop i cs) ≡ bytes_by w ids x ∷ rest =
    ap (map (bytes_by w ids)) (opens cs i x here_is less) in
    let within : length part ≡ length out - at =
    length-take-le (length out - at) (drop at out) (omega (arith, length-drop at out)) in
    let fills : length new ≡ length out - at =
    omega (
      arith,
      ap length is,
      length-append this (drop (length this) part),
      length-drop (length this) part,
      within,
      before.1,
      ap (λ ts. length (laid ts)) opened,
      length-append this (laid rest),
    ) in
    let same : length (put_mid at (length out - at) out new) ≡ length out =
    put_long at (length out - at) out new (omega (arith, before.1)) fills in
    let split : put_mid at (length out - at) out new ≡ (take at out ++ this)
    ++ (drop (length this) part ++ post_of at (length out - at) out) =
    ap (λ z. take at out ++ (z ++ post_of at (length out - at) out)) is
    ∙ ap (λ z. take at out ++ z) (append_assoc this (drop (length this) part) (post_of at (length out - at) out))
    ∙ sym (append_assoc (take at out) this (drop (length this) part ++ post_of at (length out - at) out)) in
    let front : take (at + p) (put_mid at (length out - at) out new) ≡ take at out ++ this =
    ap (take (at + p)) split ∙ take_at (take at out ++ this) (drop (length this) part
    ++ post_of at (length out - at) out) (at + p)
    (omega (arith, size, length-append (take at out) this, length-take-le at out (omega (arith, before.1)))) in (
      ap (λ z. z ++ laid rest) front ∙ append_assoc (take at out) this (laid rest)
          ∙ ap (λ z. take at out ++ z) (sym (ap laid opened)) ∙ before.0,
      omega (arith, same, before.1, size, ap (λ ts. length (laid ts)) opened, length-append this (laid rest)),
      same ∙ before.2,
    )

-- ---- the whole machine

pub addresses_long : (a : ℕ) (ts : List (List ℕ)) → length (addresses a ts) ≡ length ts
addresses_long a [] = refl
addresses_long a (t ∷ ts) = omega (arith, addresses_long (a + length (padded t)) ts)

-- the XSDT's body
pub root_long : {A : Type 0} (w : Written A) (start : ℕ) (ids : TableIds) (cs : List A)
    → 36 + length (flat_map (spelling 8) (addresses start (map (bytes_by w ids) cs))) ≡ 36 + 8 * length cs
root_long w start ids cs =
    omega (
      arith,
      each_long (spelling 8) 8 (length-spelling 8) (addresses start (map (bytes_by w ids) cs)),
      addresses_long start (map (bytes_by w ids) cs),
      length-map cs (bytes_by w ids),
    )

pub xsdt_long : {A : Type 0} (w : Written A) (start : ℕ) (x : MachineOf A) → AreIds x.ids
    → length (xsdt_from w start x) ≡ xsdt_length x
xsdt_long w start x are = table_length XSDT 1 x.ids (root_body Xsdt (addresses start (listed_by w x))) refl are
    ∙ root_long w start x.ids x.tables.now

pub tree_size_is : {A : Type 0} (w : Written A) (a : ℕ) (x : MachineOf A) → AreIds x.ids
    → length (tree_by w a x) ≡ size_by w x
unfolding tree_by size_by
tree_size_is w a x are =
    let xsdt = xsdt_by w a x in
    let first : length (padded xsdt) ≡ rounded (xsdt_length x) = padded_long xsdt
    ∙ ap rounded (xsdt_long w (tables_address a x) x are) in
    let facs = facs_laid (dsdt_end a x) x.facs in
    omega (
      arith,
      first,
      laid_long (dsdt_end a x) x.facs,
      length-append (padded xsdt) (rest_bytes w (dsdt_address a x) x),
      length-append (padded (dsdt_of x)) (after_dsdt w (dsdt_end a x) x),
      length-append facs (laid (listed_by w x)),
    )
