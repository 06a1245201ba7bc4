-- A lookup answers a table exactly if that is the first valid one. Members that aren't valid change nothing, and lists
-- over members are no longer than the members.
use Rattle.std.proofs.Common.{◌≡◌, ℕ, List, [], ◌∷◌, ◌++◌, Result, Ok, Err, refl, ap, ◌∙◌, ◌+◌, ◌≤◌, length, Option, Some, None, arith, zero, suc, ◌^◌, ◌<◌, drop, length-drop, IsErr, IfOk, filter_map}
use Rattle.acpi_base.specs.Words.{Memory, Gives, Kind, table_at}
use Rattle.acpi.specs.Types.{AcpiError, TableMissing, Signature}
use Rattle.acpi.specs.Words.{LookupIsFirst, SkipsInvalid, ValidEndsFaults, or_later, IsFirstValid, NoneValid, lookup, faults_of, unless_valid, with_fault, pieces, pointers, TableFault}
use Rattle.acpi_base.specs.FromStd.{cons_option}
use Rattle.acpi_bytes.specs.declared.error.AcpiError.TheVariants as refusal
use Rattle.acpi.proofs.Asked.{valid_last}

abbrev done : ℕ × List ℕ → Result (ℕ × List ℕ) AcpiError
done x = Ok x

abbrev pub here : ℕ → List ℕ → Result (ℕ × List ℕ) AcpiError
here p table = Ok (p, table)

same_ok : (x y : ℕ × List ℕ) → done x ≡ done y → x ≡ y
same_ok x y e = cc

found_here : (m : Memory) (k : Kind) (p q : ℕ) (ps table found : List ℕ) → table_at m k p ≡ Ok table
    → here p table ≡ Ok (q, found) → IsFirstValid m k (p ∷ ps) q found
found_here m k p q ps table found valid e =
    let both : (p, table) ≡ (q, found) = same_ok (p, table) (q, found) e in
    let place : p ≡ q = ap (λ (x : ℕ × List ℕ). x.0) both in
    let same : table ≡ found = ap (λ (x : ℕ × List ℕ). x.1) both in
    record {
      before = [];
      after = ps;
      listed = ap (λ x. x ∷ ps) place;
      none_before = tt;
      valid =
          rw (← place, ← same) valid;
    }

found_later : (m : Memory) (k : Kind) (p q : ℕ) (ps found : List ℕ) (e : AcpiError) → table_at m k p ≡ Err e
    → IsFirstValid m k ps q found → IsFirstValid m k (p ∷ ps) q found
found_later m k p q ps found e refused f = record {
  before = p ∷ f.before;
  after = f.after;
  listed = ap (λ x. p ∷ x) f.listed;
  none_before = (rw refused refl, f.none_before);
  valid = f.valid;
}

cases_found : (m : Memory) (k : Kind) (p q : ℕ) (ps found : List ℕ) (r : Result (List ℕ) AcpiError) → table_at m k p ≡ r
    → or_later (here p) r (lookup m k ps) ≡ Ok (q, found)
    → (lookup m k ps ≡ Ok (q, found) → IsFirstValid m k ps q found) → IsFirstValid m k (p ∷ ps) q found
cases_found m k p q ps found (Ok table) here e more = found_here m k p q ps table found here e
cases_found m k p q ps found (Err refusal) here e more = found_later m k p q ps found refusal here (more e)

pub is_first : (m : Memory) (k : Kind) (ps : List ℕ) (q : ℕ) (found : List ℕ) → lookup m k ps ≡ Ok (q, found)
    → IsFirstValid m k ps q found
is_first m k [] q found e = absurd cc
is_first m k (p ∷ ps) q found e = cases_found m k p q ps found (table_at m k p) refl e (is_first m k ps q found)

pub passed : {A B E : Type 0} (found : A → B) (r : Result A E) (later : B) → IsErr r → or_later found r later ≡ later
passed found (Ok table) later h = absurd cc
passed found (Err e) later h = refl

looked_up : (m : Memory) (k : Kind) (before after : List ℕ) (q : ℕ) (found : List ℕ) → NoneValid m k before
    → table_at m k q ≡ Ok found → lookup m k (before ++ q ∷ after) ≡ Ok (q, found)
looked_up m k [] after q found none valid = rw valid refl
looked_up m k (p ∷ before) after q found none valid =
    passed (here p) (table_at m k p) (lookup m k (before ++ q ∷ after)) none.0
    ∙ looked_up m k before after q found none.1 valid

pub lookup_is_first : LookupIsFirst
lookup_is_first m k ps p table = (
  is_first m k ps p table,
  λ f. ap (lookup m k) f.listed ∙ looked_up m k f.before f.after p table f.none_before
      f.valid,
)

-- ---- if none is found

cases_missing : (m : Memory) (k : Kind) (p : ℕ) (ps : List ℕ) (e : AcpiError) (r : Result (List ℕ) AcpiError)
    → table_at m k p ≡ r → or_later (here p) r (lookup m k ps) ≡ Err e
    → (lookup m k ps ≡ Err e → (e ≡ TableMissing k.signature) × NoneValid m k ps)
    → (e ≡ TableMissing k.signature) × NoneValid m k (p ∷ ps)
cases_missing m k p ps e (Ok table) here given more = absurd cc
cases_missing m k p ps e (Err refusal) here given more =
    let later = more given in
    (later.0, (rw here refl, later.1))

pub none_valid : (m : Memory) (k : Kind) (ps : List ℕ) (e : AcpiError) → lookup m k ps ≡ Err e
    → (e ≡ TableMissing k.signature) × NoneValid m k ps
none_valid m k [] e given = (cc, tt)
none_valid m k (p ∷ ps) e given = cases_missing m k p ps e (table_at m k p) refl given (none_valid m k ps e)

none_found : (m : Memory) (k : Kind) (ps : List ℕ) → NoneValid m k ps → lookup m k ps ≡ Err (TableMissing k.signature)
none_found m k [] none = refl
none_found m k (p ∷ ps) none = passed (here p) (table_at m k p) (lookup m k ps) none.0 ∙ none_found m k ps none.1

-- ---- calls

pub gives_first : {X : Type 0} (m : Memory) (k : Kind) (ps : List ℕ) (place : X → ℕ) (bytes : X
    → List ℕ) (r : Result X AcpiError) → Gives (λ x. (place x, bytes x)) r (lookup m k ps)
    → IfOk r (λ x. IsFirstValid m k ps (place x) (bytes x))
gives_first m k ps place bytes (Ok x) given = is_first m k ps (place x) (bytes x) given
gives_first m k ps place bytes (Err e) given = tt

refused_as : {X : Type 0} (view : X → ℕ × List ℕ) (r : Result X AcpiError) (e : AcpiError)
    (given : Result (ℕ × List ℕ) AcpiError) → given ≡ Err e → Gives view r given → r ≡ Err e
refused_as view (Ok x) e given none gives = absurd cc
refused_as view (Err d) e given none gives = let same : d ≡ e = cc in rw same refl

pub gives_absent : {X : Type 0} (m : Memory) (k : Kind) (ps : List ℕ) (view : X
    → ℕ × List ℕ) (r : Result X AcpiError) (s : Signature) → k.signature ≡ s → Gives view r (lookup m k ps)
    → NoneValid m k ps → r ≡ Err (TableMissing s)
gives_absent m k ps view r s same gives none =
    rw (← same) (refused_as view r (TableMissing k.signature) (lookup m k ps) (none_found m k ps none) gives)

-- ---- members that aren't valid

pub skips_invalid : SkipsInvalid
skips_invalid m k p [] after h = passed (here p) (table_at m k p) (lookup m k after) h
skips_invalid m k p (q ∷ before) after h = ap (or_later (here q) (table_at m k q)) (skips_invalid m k p before after h)

pub gives_skipping : {X : Type 0} (m : Memory) (k : Kind) (ps : List ℕ) (view : X → ℕ × List ℕ) (r : Result X AcpiError)
    → Gives view r (lookup m k ps) → (before after : List ℕ) (p : ℕ) → ps ≡ before ++ after → IsErr (table_at m k p)
    → Gives view r (lookup m k (before ++ p ∷ after))
gives_skipping m k ps view r given before after p listed h = rw (skips_invalid m k p before after h, ← listed) given

pub one_more : {Y : Type 0} (o : Option Y) (ys : List Y) (n : ℕ) → length ys ≤ n → length (cons_option o ys) ≤ n + 1
one_more None ys n h = omega arith
one_more (Some y) ys n h = omega arith

pub filter_map_few : {X Y : Type 0} (f : X → Option Y) (xs : List X) → length (filter_map f xs) ≤ length xs
filter_map_few f [] = omega arith
filter_map_few f (x ∷ xs) = omega (arith, one_more (f x) (filter_map f xs) (length xs) (filter_map_few f xs))

fault_more : (p : ℕ) (e : AcpiError) (faults : List TableFault) → length (with_fault p e faults) ≤ length faults + 1
fault_more p (refusal.SdtInvalidSignature s) faults = omega arith
fault_more p e faults = omega arith

faults_more : (p : ℕ) (r : Result (List ℕ) AcpiError) (faults : List TableFault)
    → length (unless_valid p r faults) ≤ length faults + 1
faults_more p (Ok table) faults = omega arith
faults_more p (Err e) faults = fault_more p e faults

pub faults_few : (m : Memory) (k : Kind) (ps : List ℕ) → length (faults_of m k ps) ≤ length ps
faults_few m k [] = omega arith
faults_few m k (p ∷ ps) = omega (arith, faults_more p (table_at m k p) (faults_of m k ps), faults_few m k ps)

-- ---- a list over the pointers of a short root has few items

pieces_few : (n w : ℕ) (b : List ℕ) → length (pieces n w b) ≤ n
pieces_few zero w b = omega arith
pieces_few (suc n) w [] = omega arith
pieces_few (suc n) w (x ∷ b) = omega (arith, pieces_few n w (drop w (x ∷ b)))

pub pointers_few : (w : ℕ) (b : List ℕ) → length (pointers w b) ≤ length b
unfolding pointers
pointers_few w b = pieces_few (length b) w b

pub pointers_short : (w : ℕ) (root : List ℕ) → length root < 2 ^ 32 → length (pointers w (drop 36 root)) < 2 ^ 32
pointers_short w root short = omega (arith, pointers_few w (drop 36 root), length-drop 36 root, short)

pub fits_root : (n w : ℕ) (root : List ℕ) → length root < 2 ^ 32 → n ≤ length (pointers w (drop 36 root)) → n < 2 ^ 32
fits_root n w root short few = omega (arith, pointers_few w (drop 36 root), length-drop 36 root, short, few)

pub valid_ends_faults : ValidEndsFaults
valid_ends_faults m k p [] after ok = valid_last p (table_at m k p) (faults_of m k after) ok
valid_ends_faults m k p (q ∷ before) after ok =
    ap (unless_valid q (table_at m k q)) (valid_ends_faults m k p before after ok)
