-- The entries of a MADT and of an MCFG: what their bytes say, and how many there are.
use Rattle.std.proofs.Common.{◌≡◌, ℕ, List, [], ◌∷◌, Option, Some, None, option_and_then, Result, refl, ap, ◌≤◌, ◌++◌, get_or, ◌∙◌, arith, append_assoc, suc, ◌*◌, ◌-◌, length, length-drop, drop, Err, sym, length-append, zero, ◌/◌, true, false, slice_get, filter_map, option_map}
use Rattle.acpi_base.specs.FromStd.{cons_option, concat, AllByRecursion, result_err, result_ok}
use Rattle.acpi_base.specs.Words.{item_of, entry_of, madt_grammar, madt_layout, cut_of, entries_of, fault_in, item_in, fault_of, first_fault, processor_in, processors_of, item_of_entry, item_or_fault_of, model_counts, items_or_faults_in, MadtError, MadtEntry, MadtItem, Processor, ProcessorInfo, IsEntry, after_one, cut, with_entry, BeginsDefined, InvalidEntryLength, InvalidMadt, mcfg_entries_in, mcfg_entries_of, whole_mcfg_entries}
use Rattle.acpi_base.specs.declared.model.item.MadtItem.TheVariants as item
use Rattle.acpi_base.proofs.FromStd.{get_or_append_left}
use Rattle.acpi_bytes.proofs.Cuts.{cut_is_cut}

one_fault : (o : Option MadtEntry) (xs : List (Result MadtItem MadtError)) (ys : List MadtEntry)
    → filter_map result_err xs ≡ filter_map fault_in ys
    → filter_map result_err (cons_option (option_map item_of o) xs) ≡ filter_map fault_in (cons_option o ys)
one_fault None xs ys same = same
one_fault (Some e) xs ys same = ap (cons_option (result_err (item_of e))) same

pub said_faults : (es : List (List ℕ)) → filter_map result_err (filter_map item_or_fault_of es)
    ≡ filter_map fault_in (filter_map entry_of es)
unfolding item_or_fault_of
said_faults [] = refl
said_faults (e ∷ es) = one_fault (entry_of e) _ _ (said_faults es)

one_item : (o : Option MadtEntry) (xs : List (Result MadtItem MadtError)) (ys : List MadtEntry)
    → filter_map result_ok xs ≡ filter_map item_in ys
    → filter_map result_ok (cons_option (option_map item_of o) xs) ≡ filter_map item_in (cons_option o ys)
one_item None xs ys same = same
one_item (Some e) xs ys same = ap (cons_option (result_ok (item_of e))) same

pub said_items : (es : List (List ℕ)) → filter_map result_ok (filter_map item_or_fault_of es)
    ≡ filter_map item_in (filter_map entry_of es)
unfolding item_or_fault_of
said_items [] = refl
said_items (e ∷ es) = one_item (entry_of e) _ _ (said_items es)

-- what one more entry says comes before what the others say
more_said : (o : Option (Result MadtItem MadtError)) (xs : List (Result MadtItem MadtError))
    → filter_map result_ok (cons_option o xs) ≡ cons_option (option_and_then result_ok o) (filter_map result_ok xs)
more_said None xs = refl
more_said (Some r) xs = refl

pub said_more : (e : List ℕ) (es : List (List ℕ))
    → filter_map result_ok (filter_map item_or_fault_of (e ∷ es)) ≡ cons_option (item_of_entry e)
    (filter_map result_ok (filter_map item_or_fault_of es))
said_more e es = more_said (item_or_fault_of e) _

abbrev pub info : {A : Type 0} → Processor → List Processor → ProcessorInfo A
info boot others = record { boot_processor = boot; application_processors = others }

-- the processors by the lists of them, each as the boot processor and as an application processor
pub processors_are : {A : Type 0} (items : List MadtItem)
    → processors_of {A = A} items ≡ option_map (λ boot. info {A =
    A} boot (drop 1 (filter_map (processor_in true) items))) (slice_get (filter_map (processor_in false) items) 0)
processors_are [] = refl
processors_are (item.Processor uid id is_enabled ∷ items) = refl
processors_are (item.IoApic x ∷ items) = processors_are items
processors_are (item.Override x ∷ items) = processors_are items
processors_are (item.NmiSource x ∷ items) = processors_are items
processors_are (item.NmiLine x ∷ items) = processors_are items
processors_are (item.LocalApicAddress x ∷ items) = processors_are items
processors_are (item.Wakeup ∷ items) = processors_are items

-- none of them come before these
pub none_first : {A : Type 0} (items : List MadtItem)
    → option_map (λ (info : ProcessorInfo A). record info {
      application_processors =
          [] ++ info.application_processors;
    }) (processors_of items) ≡ processors_of items
none_first {A} items = of_none (processors_of items) where
  of_none : (o : Option (ProcessorInfo A))
      → option_map (λ (info : ProcessorInfo A). record info {
        application_processors =
            [] ++ info.application_processors;
      }) o ≡ o
  of_none None = refl
  of_none (Some info) = refl

-- ---- the type of the entry that bytes begin with

-- it is the first entry's
first_type : (bytes e : List ℕ) (es : List (List ℕ)) (rest : List ℕ) → bytes ≡ concat (e ∷ es) ++ rest
    → IsEntry madt_layout e → (get_or bytes 0 0 ≡ get_or e 0 0) × (2 ≤ length bytes)
first_type bytes e es rest whole is =
    let split : bytes ≡ e ++ (concat es ++ rest) = whole ∙ append_assoc e (concat es) rest in (
      ap (λ b. get_or b 0 0) split ∙ get_or_append_left e (concat es ++ rest) 0 0 (omega (arith, is.entry_type)),
      omega (arith, ap length split, length-append e (concat es ++ rest), is.header),
    )

of_first : (bytes : List ℕ) (es : List (List ℕ)) (rest : List ℕ) → bytes ≡ concat es ++ rest
    → AllByRecursion (IsEntry madt_layout) es → get_or bytes 0 0 ≤ 16 → BeginsDefined es
of_first bytes [] rest whole are low = tt
of_first bytes (e ∷ es) rest whole are low =
    omega (arith, (first_type bytes e es rest whole are.0).0, low)

of_none : (bytes : List ℕ) (es : List (List ℕ)) (rest : List ℕ) → bytes ≡ concat es ++ rest
    → AllByRecursion (IsEntry madt_layout) es → BeginsDefined es
    → (2 ≤ length bytes → get_or bytes 0 0 ≤ 16 → ⊥)
    → let cut_here : List (List ℕ) × List ℕ = (es, rest) in cut_here ≡ ([], bytes)
of_none bytes [] rest whole are first other = rw whole refl
of_none bytes (e ∷ es) rest whole are first other =
    let f = first_type bytes e es rest whole are.0 in
    absurd (other f.1 (omega (arith, f.0, first)))

pub defined_first : (bytes e more : List ℕ) → cut madt_grammar bytes ≡ with_entry e (cut (after_one madt_grammar) more)
    → BeginsDefined (cut madt_grammar bytes).0 → get_or e 0 0 ≤ 16
defined_first bytes e more same first = rw same at first

pub begins_defined : (bytes : List ℕ) → get_or bytes 0 0 ≤ 16 → BeginsDefined (cut madt_grammar bytes).0
begins_defined bytes low =
    let c = cut_is_cut 17 madt_grammar bytes in
    of_first bytes (cut madt_grammar bytes).0 (cut madt_grammar bytes).1 c.whole c.entries low

-- where no defined type begins, nothing is cut, if the first entry could only be of one
pub begins_none : (bytes : List ℕ) → BeginsDefined (cut madt_grammar bytes).0
    → (2 ≤ length bytes → get_or bytes 0 0 ≤ 16 → ⊥) → cut madt_grammar bytes ≡ ([], bytes)
begins_none bytes first other =
    let c = cut_is_cut 17 madt_grammar bytes in
    of_none bytes (cut madt_grammar bytes).0 (cut madt_grammar bytes).1 c.whole c.entries first other

-- ---- how many entries there are at most

two_each : (es : List (List ℕ)) → AllByRecursion (IsEntry madt_layout) es → 2 * length es ≤ length (concat es)
two_each [] a = omega arith
two_each (e ∷ es) a = omega (arith, two_each es a.1, a.0.header, length-append e (concat es))

-- no more than half as many as there are bytes
pub cut_few : (bytes : List ℕ) → 2 * length (cut madt_grammar bytes).0 ≤ length bytes
cut_few bytes =
    let c = cut_is_cut 17 madt_grammar bytes in
    let long : length bytes ≡ length (concat (cut madt_grammar bytes).0 ++ (cut madt_grammar bytes).1) =
    ap length c.whole in
    omega (
      arith,
      two_each (cut madt_grammar bytes).0 c.entries,
      long,
      length-append (concat (cut madt_grammar bytes).0) (cut madt_grammar bytes).1,
    )

length-cons_option : {X : Type 0} (o : Option X) (xs : List X) → length (cons_option o xs) ≤ suc (length xs)
length-cons_option None xs = omega arith
length-cons_option (Some x) xs = omega arith

length-filter_map : {X Y : Type 0} (f : X → Option Y) (xs : List X) → length (filter_map f xs) ≤ length xs
length-filter_map f [] = omega arith
length-filter_map f (x ∷ xs) = omega (arith, length-filter_map f xs, length-cons_option (f x) (filter_map f xs))

pub cut_of_few : (table : List ℕ) → 2 * length (cut_of table).0 ≤ length table - 44
cut_of_few table = omega (arith, cut_few (drop 44 table), length-drop 44 table)

pub entries_few : (table : List ℕ) → 2 * length (entries_of table) ≤ length table - 44
entries_few table = omega (
  arith,
  length-filter_map entry_of (cut madt_grammar (drop 44 table)).0,
  cut_few (drop 44 table),
  length-drop 44 table,
)

pub said_few : (table : List ℕ) → 2 * length (filter_map item_or_fault_of (cut_of table).0) ≤ length table - 44
said_few table = omega (
  arith,
  length-filter_map item_or_fault_of (cut madt_grammar (drop 44 table)).0,
  cut_few (drop 44 table),
  length-drop 44 table,
)

fault_at_rest : (faults : List MadtError) (rest : List ℕ) → faults ≡ [] → 1 ≤ length rest
    → first_fault faults rest ≡ Some InvalidEntryLength
fault_at_rest faults [] none some = absurd (omega (arith, some))
fault_at_rest faults (b ∷ rest) none some = rw none refl

-- a walk that refused no entry, and ends with bytes left
pub counted_short : (table rest : List ℕ) → cut madt_grammar rest ≡ ([], rest) → 1 ≤ length rest
    → filter_map result_err (items_or_faults_in rest) ≡ filter_map fault_in (entries_of table)
    → (cut madt_grammar rest).1 ≡ (cut_of table).1 → Err (InvalidMadt InvalidEntryLength) ≡ model_counts table
counted_short table rest stuck some passed same =
    let faults_are : filter_map result_err (items_or_faults_in rest) ≡ [] = rw stuck refl in
    let left : rest ≡ (cut_of table).1 = ap (λ x. x.1) (sym stuck) ∙ same in
    let fault : fault_of table ≡ Some InvalidEntryLength = fault_at_rest _ _ (sym passed
    ∙ faults_are) (rw left at some) in
    rw (fault, model_counts) refl

pub items_few : (table : List ℕ)
    → 2 * length (filter_map result_ok (items_or_faults_in (drop 44 table))) ≤ length table - 44
items_few table = omega (arith, length-filter_map result_ok (items_or_faults_in (drop 44 table)), said_few table)

-- ---- how many regions an MCFG has

length-mcfg_entries_in : (n : ℕ) (bytes : List ℕ) → length (mcfg_entries_in n bytes) ≡ n
length-mcfg_entries_in zero bytes = refl
length-mcfg_entries_in (suc n) bytes = ap suc (length-mcfg_entries_in n (drop 16 bytes))

-- as many as there are whole ones
pub length_whole_entries : (bytes : List ℕ) → length (whole_mcfg_entries bytes) ≡ length bytes / 16
length_whole_entries bytes = length-mcfg_entries_in (length bytes / 16) bytes

pub length_entries_of : (table : List ℕ) → length (mcfg_entries_of table) ≡ (length table - 44) / 16
length_entries_of table = rw (length_whole_entries (drop 44 table), length-drop 44 table) refl
