-- What was read grows by tables of inputs.
use Rattle.std.proofs.Common.{◌≡◌, ◌∙◌, ℕ, ◌<◌, ◌≤◌, length, List, [], ◌∷◌, ◌++◌, ap, codes, inl, inr, refl, subst, sym, arith}
use Rattle.std.specs.Borrow.{Bor}
use Rattle.std.specs.Prelude.{◌⊎◌, All, Contains, map, slice_index_or}
use Rattle.std.proofs.lemmas.List.Elements.{All-append, All-cons, All-contains, All-nil, All-weaker}
use Rattle.acpi_base.proofs.FromStd.{append_assoc, append-nil, length-append, length-map}
use Rattle.acpi_dump_input.specs.Given.{GiveTable, GivesTable, GivesTableAt, Grows, HasTable, IsFileOf, IsReadAt, inputs_read, own_tables}
use Rattle.acpi_dump_input.specs.Inputs.{AreOf, IsImageOf, IsInput, IsMemory, tables_in}
use Rattle.acpi_dump_input.specs.declared.gather.Input.{Input}
use Rattle.acpi_dump_input.specs.declared.gather.Input.TheVariants as input
use Rattle.acpi_dump_input.specs.declared.tables.TableFile.{TableFile}

-- by none
pub grows_none : (P : List ℕ → Type 0) (before after : List (List ℕ)) → after ≡ before → Grows P before after
grows_none P before after e = record { added = []; grown = e ∙ sym (append-nil before); fit = All-nil P }

-- by one
pub grows_one : (P : List ℕ → Type 0) (before after : List (List ℕ)) (table : List ℕ) → P table
    → after ≡ before ++ table ∷ [] → Grows P before after
grows_one P before after table is e =
    record { added = table ∷ []; grown = e; fit = All-cons P table [] is (All-nil P) }

-- by some, and then by more
pub grows_more : (P : List ℕ → Type 0) (before between after : List (List ℕ)) → Grows P before between
    → Grows P between after → Grows P before after
grows_more P before between after some more = record {
  added = some.added ++ more.added;
  grown = more.grown ∙ ap (λ ts. ts ++ more.added) some.grown ∙ append_assoc before some.added more.added;
  fit = All-append P some.added more.added some.fit more.fit;
}

-- by what is also such a one
pub grows_weaker : (P Q : List ℕ → Type 0) (before after : List (List ℕ)) → ((t : List ℕ) → P t → Q t)
    → Grows P before after → Grows Q before after
grows_weaker P Q before after f some =
    record { added = some.added; grown = some.grown; fit = All-weaker P Q f some.added some.fit }

-- by the bytes of a file themselves
pub grows_whole : (bytes : List ℕ) (before after : List (List ℕ)) → Grows (λ t. t ≡ bytes) before after
    → Grows (HasTable bytes) before after
grows_whole bytes before after some = grows_weaker (λ t. t ≡ bytes) (HasTable bytes) before after (λ t is. inl is) some

-- as a list of files
pub longer : (P : List ℕ → Type 0) (before after : List TableFile) → Grows P (tables_in before) (tables_in after)
    → length before ≤ length after
longer P before after some =
    let whole : length (tables_in after) ≡ length (tables_in before ++ some.added) = ap length some.grown in
    omega (
      arith,
      whole,
      length-append (tables_in before) some.added,
      length-map before (λ (f : TableFile). f.bytes.items),
      length-map after (λ (f : TableFile). f.bytes.items),
    )

-- ---- a file

-- by tables of what is read of a path
pub grows_at : (gives : List ℕ → List ℕ → Type 0) (path bytes : List ℕ) (before after : List (List ℕ))
    → IsReadAt gives path bytes → Grows (HasTable bytes) before after → Grows (GivesTableAt gives path) before after
grows_at gives path bytes before after read some =
    grows_weaker (HasTable bytes) (GivesTableAt gives path) before after
    (λ t has. record { bytes = bytes; read = read; has = has }) some

of_file : (gives : List ℕ → List ℕ → Type 0) (input path table : List ℕ) → IsFileOf input path
    → GivesTableAt gives path table → GivesTable gives input table
of_file gives input path table file is =
    record { bytes = is.bytes; read = record { path = path; file = file; at = is.read }; has = is.has }

-- by tables of what is read of an input itself
pub grows_file : (gives : List ℕ → List ℕ → Type 0) (path bytes : List ℕ) (before after : List (List ℕ))
    → IsReadAt gives path bytes → Grows (HasTable bytes) before after → Grows (GivesTable gives path) before after
grows_file gives path bytes before after read some =
    grows_weaker (GivesTableAt gives path) (GivesTable gives path) before after
    (λ t is. of_file gives path path t (inl refl) is) (grows_at gives path bytes before after read some)

-- and by those of one more file of a folder
pub grows_within : (gives : List ℕ → List ℕ → Type 0) (input folder name path : List ℕ)
    (before between after : List (List ℕ)) → ((input ≡ folder) ⊎ (input ≡ folder ++ codes "/"))
    → path ≡ folder ++ codes "/" ++ name → Grows (GivesTable gives input) before between
    → Grows (GivesTableAt gives path) between after → Grows (GivesTable gives input) before after
grows_within gives input folder name path before between after is named some more =
    grows_more (GivesTable gives input) before between after some
    (grows_weaker (GivesTableAt gives path) (GivesTable gives input) between after
    (λ t has. of_file gives input path t (inr (folder, name, is, named)) has) more)

-- ---- what is read of inputs

pub image_is_input : (gives : List ℕ → List ℕ → Type 0) (name : List ℕ) (i : Input)
    → IsMemory (λ image. gives name image) i → IsInput gives (name ∷ []) i
image_is_input gives name (input.Memory image) gave = (
  name,
  (0, omega arith, refl),
  image.items,
  record {
    path = name;
    file = inl refl;
    at = record { given = image.items; gave = gave; read = inl refl };
  },
  inl refl,
)
image_is_input gives name (input.Tables files) gave = absurd gave

pub memory_is_input : (gives : List ℕ → List ℕ → Type 0) (name bytes : List ℕ) (i : Input)
    → IsReadAt gives name bytes → IsMemory (IsImageOf bytes) i → IsInput gives (name ∷ []) i
memory_is_input gives name bytes (input.Memory image) read is =
    (name, (0, omega arith, refl), bytes, record { path = name; file = inl refl; at = read }, is)
memory_is_input gives name bytes (input.Tables files) read is = absurd is

-- tables of inputs
pub words_are_input : (gives : List ℕ → List ℕ → Type 0) (names : List (List ℕ)) (before after : List TableFile)
    (i : Input) → AreOf (tables_in after) i → before ≡ [] → 0 < length after
    → Grows (GiveTable gives names) (tables_in before) (tables_in after) → IsInput gives names i
words_are_input gives names before after (input.Memory image) are none some grows = absurd are
words_are_input gives names before after (input.Tables files) are none some grows =
    let tables = tables_in after in
    let grown : tables ≡ [] ++ grows.added = subst (λ b. tables ≡ tables_in b ++ grows.added) none grows.grown in
    let all : All (GiveTable gives names) tables = subst (All (GiveTable gives names)) (sym grown) grows.fit in (
      are.1 (omega (arith, some, length-map after (λ (f : TableFile). f.bytes.items))),
      All-weaker (Contains tables) (GiveTable gives names)
          (λ t has. All-contains (GiveTable gives names) tables t all has) (tables_in files.items) are.0,
    )

-- tables of one input are of inputs that it is among
pub grows_among : (gives : List ℕ → List ℕ → Type 0) (names : List (List ℕ)) (name : List ℕ)
    (before between after : List (List ℕ)) → Contains names name → Grows (GiveTable gives names) before between
    → Grows (GivesTable gives name) between after → Grows (GiveTable gives names) before after
grows_among gives names name before between after has some more =
    grows_more (GiveTable gives names) before between after some
    (grows_weaker (GivesTable gives name) (GiveTable gives names) between after (λ t is. (name, has, is)) more)

pub file_is_input : (gives : List ℕ → List ℕ → Type 0) (name bytes : List ℕ) (before after : List TableFile) (i : Input)
    → IsReadAt gives name bytes → before ≡ [] → Grows (HasTable bytes) (tables_in before) (tables_in after)
    → length before < length after → AreOf (tables_in after) i → IsInput gives (name ∷ []) i
file_is_input gives name bytes before after i read none grows more are =
    words_are_input gives (name ∷ []) before after i are none (omega (arith, more))
    (grows_among gives (name ∷ []) name (tables_in before) (tables_in before) (tables_in after) (0, omega arith, refl)
    (grows_none (GiveTable gives (name ∷ [])) (tables_in before) (tables_in before) refl)
    (grows_file gives name bytes (tables_in before) (tables_in after) read grows))

-- ---- which inputs are read

pub none_named : (names : List (Bor (List ℕ))) → length names ≡ 0
    → inputs_read (map (λ (n : Bor (List ℕ)). n.now) names) ≡ own_tables ∷ []
none_named [] none = refl
none_named (n ∷ names) none = absurd (omega (arith, none))

pub one_named : (names : List (Bor (List ℕ))) (d : Bor (List ℕ)) → 1 ≤ length names → length names < 2
    → inputs_read (map (λ (n : Bor (List ℕ)). n.now) names) ≡ (slice_index_or names 0 d).now ∷ []
one_named [] d some few = absurd (omega (arith, some))
one_named (n ∷ []) d some few = refl
one_named (n ∷ m ∷ names) d some few = absurd (omega (arith, few))

pub some_named : (names : List (Bor (List ℕ))) → 0 < length names
    → inputs_read (map (λ (n : Bor (List ℕ)). n.now) names) ≡ map (λ (n : Bor (List ℕ)). n.now) names
some_named [] some = absurd (omega (arith, some))
some_named (n ∷ names) some = refl
