-- What was to be saved grows by tables of one folder.
use Rattle.std.proofs.Common.{◌≡◌, ◌∙◌, ℕ, zero, suc, ◌+◌, ◌<◌, ◌≤◌, length, Bool, true, false, List, [], ◌∷◌, ◌++◌, Result, Ok, Err, ap, inl, inr, refl, subst, sym, arith, take}
use Rattle.std.specs.Prelude.{All, Contains, map, slice_index_or}
use Rattle.std.proofs.lemmas.List.Elements.{All-append, All-contains, All-cons, All-nil, All-weaker, Contains-append_left, Contains-append_right}
use Rattle.acpi_base.proofs.FromStd.{append_assoc, append-nil, get_or_default}
use Rattle.acpi_dump_input.proofs.Lists.{has_mapped, map_take_more}
use Rattle.acpi_dump_input.specs.Extract.{IsNamed, IsSaved, IsTable, SavesFile, SavesTables, SavesWanted, file_of}
use Rattle.acpi_dump_input.specs.declared.entries.Entry.{Entry}
use Rattle.acpi_cli.specs.Saves.{FileSaved}
use Rattle.acpi_cli.specs.declared.save.SaveError.{SaveError}

-- two Booleans that can't be
distinct : true ≡ false → ⊥
distinct same = cc

differ : {A : Type 0} (b : Bool) → b ≡ true → b ≡ false → A
differ b is isnt = absurd (distinct (sym is ∙ isnt))

-- a table that is saved if it has a byte
abbrev Wanted : List FileSaved → List ℕ → Type 0
Wanted added t = 0 < length t → IsSaved added t

-- ---- by none

-- while something is left out
pub no_table : (inputs : List (List ℕ)) (folder : List ℕ) (tables wanted : List (List ℕ)) (is_partial : Bool)
    (before after : List FileSaved) → is_partial ≡ true → after ≡ before
    → SavesWanted inputs folder tables wanted is_partial before after
no_table inputs folder tables wanted is_partial before after partial e = record {
  added = [];
  grown = e ∙ sym (append-nil before);
  fit = All-nil (IsTable inputs folder tables);
  whole = λ off. differ is_partial partial off;
}

-- while none is wanted
pub none_wanted : (inputs : List (List ℕ)) (folder : List ℕ) (tables : List (List ℕ)) (is_partial : Bool)
    (before after : List FileSaved) → after ≡ before → SavesWanted inputs folder tables [] is_partial before after
none_wanted inputs folder tables is_partial before after e = record {
  added = [];
  grown = e ∙ sym (append-nil before);
  fit = All-nil (IsTable inputs folder tables);
  whole = λ off. All-nil (Wanted []);
}

-- ---- by one

-- whether it is saved or not
grown_table : (inputs : List (List ℕ)) (folder name path bytes : List ℕ) (is_partial : Bool)
    (before after : List FileSaved) (answer : Result (Unit {0}) SaveError)
    → (is_partial ≡ false → answer ≡ Ok tt) → IsNamed folder name path
    → after ≡ before ++ file_of inputs path bytes answer ∷ []
    → SavesTables inputs folder (bytes ∷ []) is_partial before after
grown_table inputs folder name path bytes is_partial before after answer ok named grown =
    let file = file_of inputs path bytes answer in
    let fits : IsTable inputs folder (bytes ∷ []) file =
    record { name = name; named = named; sources = refl; bytes = (0, omega arith, refl) } in
    record {
      added = file ∷ [];
      grown = grown;
      fit = All-cons (IsTable inputs folder (bytes ∷ [])) _ [] fits (All-nil (IsTable inputs folder (bytes ∷ [])));
      whole = λ off. All-cons (Wanted (file ∷ [])) bytes []
          (λ some. record { file = file; there = (0, omega arith, refl); same = refl; saved = ok off })
          (All-nil (Wanted (file ∷ [])));
    }

pub one_table : (inputs : List (List ℕ)) (folder name path bytes : List ℕ) (before after : List FileSaved)
    (is_partial is_saved : Bool) → IsNamed folder name path
    → SavesFile inputs path bytes is_partial before after is_saved
    → SavesTables inputs folder (bytes ∷ []) is_partial before after
one_table inputs folder name path bytes before after is_partial true named saves =
    grown_table inputs folder name path bytes is_partial before after (Ok tt) (λ off. refl) named saves
one_table inputs folder name path bytes before after is_partial false named (reported, inl none) =
    no_table inputs folder (bytes ∷ []) (bytes ∷ []) is_partial before after reported none
one_table inputs folder name path bytes before after is_partial false named (reported, inr failed) =
    grown_table inputs folder name path bytes is_partial before after (Err failed.0)
    (λ off. differ is_partial reported off) named failed.1

-- ---- by some, and then by one more

one_of : (inputs : List (List ℕ)) (folder bytes : List ℕ) (tables : List (List ℕ)) → Contains tables bytes
    → (f : FileSaved) → IsTable inputs folder (bytes ∷ []) f → IsTable inputs folder tables f
one_of inputs folder bytes tables has f is = record {
  name = is.name;
  named = is.named;
  sources = is.sources;
  bytes = All-contains (Contains tables) (bytes ∷ []) f.bytes (All-cons (Contains tables) bytes [] has
      (All-nil (Contains tables))) is.bytes;
}

saved_left : (xs ys : List FileSaved) (t : List ℕ) → Wanted xs t → Wanted (xs ++ ys) t
saved_left xs ys t is some = let it = is some in
    record { file = it.file; there = Contains-append_left xs ys it.file it.there; same = it.same; saved = it.saved }

saved_right : (xs ys : List FileSaved) (t : List ℕ) → Wanted ys t → Wanted (xs ++ ys) t
saved_right xs ys t is some = let it = is some in
    record { file = it.file; there = Contains-append_right xs ys it.file it.there; same = it.same; saved = it.saved }

-- the wanted ones of both
more_wanted : (inputs : List (List ℕ)) (folder bytes : List ℕ) (tables some_wanted wanted : List (List ℕ))
    (p q r : Bool) (before between after : List FileSaved) → Contains tables bytes
    → (r ≡ false → (p ≡ false) × (q ≡ false) × (wanted ≡ some_wanted ++ bytes ∷ []))
    → SavesWanted inputs folder tables some_wanted p before between
    → SavesTables inputs folder (bytes ∷ []) q between after
    → SavesWanted inputs folder tables wanted r before after
more_wanted inputs folder bytes tables some_wanted wanted p q r before between after has when some more = record {
  added = some.added ++ more.added;
  grown = more.grown ∙ ap (λ fs. fs ++ more.added) some.grown ∙ append_assoc before some.added more.added;
  fit = All-append (IsTable inputs folder tables) some.added more.added some.fit
      (λ k d below. one_of inputs folder bytes tables has _ (more.fit k d below));
  whole = λ off.
      let now = when off in
      let both = All-append (Wanted (some.added ++ more.added)) some_wanted (bytes ∷ [])
      (All-weaker (Wanted some.added) (Wanted (some.added ++ more.added)) (saved_left some.added more.added)
      some_wanted (some.whole now.0))
      (All-weaker (Wanted more.added) (Wanted (some.added ++ more.added)) (saved_right some.added more.added)
      (bytes ∷ []) (more.whole now.1)) in
      subst (λ w. All (Wanted (some.added ++ more.added)) w) (sym now.2) both;
}

-- what was marked is still marked
before_that : (p q : Bool) → (p ≡ true → q ≡ true) → q ≡ false → p ≡ false
before_that true q keeps off = differ q (keeps refl) off
before_that false q keeps off = refl

abbrev bytes_of : Entry → List ℕ
bytes_of e = e.bytes.now

-- the next one of the entries
pub next_table : (inputs : List (List ℕ)) (folder : List ℕ) (entries : List Entry) (i : ℕ) (d : Entry) (p q r : Bool)
    (before between after : List FileSaved) → i < length entries → (p ≡ true → r ≡ true) → q ≡ r
    → SavesWanted inputs folder (map (λ (e : Entry). e.bytes.now) entries)
    (map (λ (e : Entry). e.bytes.now) (take i entries)) p before between
    → SavesTables inputs folder ((slice_index_or entries i d).bytes.now ∷ []) q between after
    → SavesWanted inputs folder (map (λ (e : Entry). e.bytes.now) entries)
    (map (λ (e : Entry). e.bytes.now) (take (i + 1) entries)) r before after
next_table inputs folder entries i d p q r before between after less keeps same some more =
    let entry = slice_index_or entries i d in
    let is = get_or_default entries i entry d less in
    more_wanted inputs folder entry.bytes.now (map bytes_of entries) (map bytes_of (take i entries))
    (map bytes_of (take (i + 1) entries)) p q r before between after (has_mapped bytes_of entries entry i less (sym is))
    (λ off. (before_that p r keeps off, same ∙ off, map_take_more bytes_of entries entry i less (sym is))) some more

-- one that fails, after which there are no more
pub last_table : (inputs : List (List ℕ)) (folder : List ℕ) (entries : List Entry) (i : ℕ) (d : Entry) (p q r : Bool)
    (before between after : List FileSaved) → i < length entries → r ≡ true
    → SavesWanted inputs folder (map (λ (e : Entry). e.bytes.now) entries)
    (map (λ (e : Entry). e.bytes.now) (take i entries)) p before between
    → SavesTables inputs folder ((slice_index_or entries i d).bytes.now ∷ []) q between after
    → SavesTables inputs folder (map (λ (e : Entry). e.bytes.now) entries) r before after
last_table inputs folder entries i d p q r before between after less partial some more =
    let entry = slice_index_or entries i d in
    let is = get_or_default entries i entry d less in
    more_wanted inputs folder entry.bytes.now (map bytes_of entries) (map bytes_of (take i entries))
    (map bytes_of entries) p q r before between after (has_mapped bytes_of entries entry i less (sym is))
    (λ off. differ r partial off) some more

-- ---- by no more

-- the next one has no byte
pub empty_table : (inputs : List (List ℕ)) (folder : List ℕ) (entries : List Entry) (i : ℕ) (d : Entry) (p : Bool)
    (before after : List FileSaved) → i < length entries → length (slice_index_or entries i d).bytes.now ≡ 0
    → SavesWanted inputs folder (map (λ (e : Entry). e.bytes.now) entries)
    (map (λ (e : Entry). e.bytes.now) (take i entries)) p before after
    → SavesWanted inputs folder (map (λ (e : Entry). e.bytes.now) entries)
    (map (λ (e : Entry). e.bytes.now) (take (i + 1) entries)) p before after
empty_table inputs folder entries i d p before after less none some =
    let entry = slice_index_or entries i d in
    let is = get_or_default entries i entry d less in
    record {
      added = some.added;
      grown = some.grown;
      fit = some.fit;
      whole = λ off. subst (λ w. All (Wanted some.added) w) (sym (map_take_more bytes_of entries entry i less (sym is)))
          (All-append (Wanted some.added) (map bytes_of (take i entries)) (entry.bytes.now ∷ []) (some.whole off)
          (All-cons (Wanted some.added) entry.bytes.now [] (λ more. absurd (omega (arith, none, more)))
          (All-nil (Wanted some.added))));
    }

-- it fails before it comes to the others
pub stopped : (inputs : List (List ℕ)) (folder : List ℕ) (tables some all : List (List ℕ)) (p : Bool)
    (before after : List FileSaved) → SavesWanted inputs folder tables some p before after
    → SavesWanted inputs folder tables all true before after
stopped inputs folder tables some all p before after saves = record {
  added = saves.added;
  grown = saves.grown;
  fit = saves.fit;
  whole = λ off. differ true refl off;
}

take_all : {A : Type 0} (xs : List A) (i : ℕ) → length xs ≤ i → take i xs ≡ xs
take_all [] zero h = refl
take_all [] (suc i) h = refl
take_all (x ∷ xs) zero h = absurd (omega (arith, h))
take_all (x ∷ xs) (suc i) h = ap (λ zs. x ∷ zs) (take_all xs i (omega (arith, h)))

-- there are no others
pub all_tables : (inputs : List (List ℕ)) (folder : List ℕ) (entries : List Entry) (i : ℕ) (p : Bool)
    (before after : List FileSaved) → length entries ≤ i
    → SavesWanted inputs folder (map (λ (e : Entry). e.bytes.now) entries)
    (map (λ (e : Entry). e.bytes.now) (take i entries)) p before after
    → SavesTables inputs folder (map (λ (e : Entry). e.bytes.now) entries) p before after
all_tables inputs folder entries i p before after over saves =
    subst (λ es. SavesWanted inputs folder (map bytes_of entries) (map bytes_of es) p before after)
    (take_all entries i over) saves
