-- What each entry of a MADT that is written contains, which mailbox it has, and what a reader finds in them all.
use Rattle.std.proofs.Common.{◌≡◌, ℕ, List, [], ◌∷◌, map, drop, Option, Some, None, Result, Ok, Err, refl, sym, ap, ◌∙◌, ◌^◌, ◌<◌, Bool, true, false, arith, lit≤, nat_eq, option_and_then, nat_lt, if◌then◌else◌, filter_map, All, lit<}
use Rattle.acpi_base.proofs.FromStd.{ltb-true, ne_eqb}
use Rattle.acpi_base.proofs.Words.{said_faults, said_items, number-spelling}
use Rattle.acpi_base.specs.Words.{item_or_fault_of, cut_of, entries_of, entry_of, all_apics, madt_at, madt_grammar, madt_layout, mailbox_in, Model, fault_in, fault_of, first_fault, items_of, model_from, model_of, field_of, spelling, item_of, line_code, polarity_of, trigger_mode_of}
use Rattle.acpi.specs.Types.{AcpiError, InvalidMadt, MadtError, Madt, MadtEntry, MadtItem, InterruptSourceOverride, IoApic, LocalInterruptLine, Lint0, Lint1, NmiProcessor, NmiSource, Polarity, TriggerMode}
use Rattle.acpi_table_writer.proofs.Rows.{Speaks, in_map, in_none, in_same, in_some, speaks_nothing, speaks_row, spoken, spoken_cut}
use Rattle.acpi_table_writer.specs.Words.{Fits, MadtNmiLine, MadtProcessor, inti_flags, line_read, io_apic_fields, nmi_source_fields, override_fields, address_entries, apic_nmi_fields, io_apic_entry, is_small, local_apic_fields, local_x2apic_fields, names_one, nmi_fields, nmi_line_entry, nmi_source_entry, override_address_fields, override_entry, processor_entry, wakeup_entries, wakeup_fields, x2apic_nmi_fields, FitsField, fields_bytes, cons_option, result_ok, result_err}
use Rattle.acpi_table_writer.specs.MadtBytes.{address_fields, mailbox_fields, processor_fields}
use Rattle.acpi_table_writer.proofs.FieldsRead.{read_at}
use Rattle.acpi_table_writer.proofs.Bits.{one, two_bits}
use Rattle.acpi_base.specs.declared.model.item.MadtItem.TheVariants as item
use Rattle.acpi_base.specs.declared.model.interrupt.NmiProcessor.TheVariants as nmi
use Rattle.acpi_base.specs.declared.model.interrupt.Polarity.TheVariants as polarity
use Rattle.acpi_base.specs.declared.model.interrupt.TriggerMode.TheVariants as trigger

abbrev pub fine : MadtItem → Result MadtItem MadtError
fine x = Ok x

-- the mailbox of an entry's bytes, if it has one
abbrev pub box_of : List ℕ → Option ℕ
box_of e = option_and_then mailbox_in (entry_of e)

-- and of an item in a table with this mailbox
abbrev pub box_in : Option ℕ → MadtItem → Option ℕ
box_in o item.Wakeup = o
box_in o _ = None

-- an entry contains an item, and has its mailbox
abbrev pub Tells : Option ℕ → List ℕ → MadtItem → Type 0
Tells o e x = (item_or_fault_of e ≡ Some (fine x)) × (box_of e ≡ box_in o x)

abbrev pub Says : Option ℕ → List ℕ → List MadtItem → Type 0
Says o bytes items = Speaks madt_layout (Tells o) bytes items

-- ---- what a reader finds in them

boxes_by : (o : Option MadtEntry) (es : List (List ℕ))
    → filter_map box_of es ≡ filter_map mailbox_in (filter_map entry_of es)
    → cons_option (option_and_then mailbox_in o) (filter_map box_of es)
    ≡ filter_map mailbox_in (cons_option o (filter_map entry_of es))
boxes_by None es e = e
boxes_by (Some x) es e = ap (cons_option (mailbox_in x)) e

boxes_twice : (es : List (List ℕ)) → filter_map box_of es ≡ filter_map mailbox_in (filter_map entry_of es)
boxes_twice [] = refl
boxes_twice (e ∷ es) = boxes_by (entry_of e) es (boxes_twice es)

model_by : {A : Type 0} (o : Option MadtError) (madt : Madt) (xs items : List MadtItem) → o ≡ None → xs ≡ items
    → elim o as (λ f. Result (Model A) AcpiError) [
      | Some fault ↦ Err (InvalidMadt fault)
      | None ↦ Ok (model_from madt xs)
    ] ≡ Ok (model_from madt items)
model_by (Some fault) madt xs items none same = absurd cc
model_by None madt xs items none same = rw same refl

module _ (table : List ℕ) (items : List MadtItem) (o : Option ℕ) (s : Says o (drop 44 table) items) where
  items_or_faults_are : filter_map item_or_fault_of (cut_of table).0 ≡ map fine items
  items_or_faults_are = spoken madt_grammar s (λ bound same. cc) item_or_fault_of (λ x. Some (fine x))
      (λ e x tells. tells.0)
      ∙ in_some fine items

  spoken_items : items_of table ≡ items
  spoken_items = sym (said_items (cut_of table).0) ∙ ap (filter_map result_ok) items_or_faults_are
      ∙ in_map result_ok fine items ∙ in_same items

  no_faults : filter_map fault_in (entries_of table) ≡ []
  no_faults = sym (said_faults (cut_of table).0) ∙ ap (filter_map result_err) items_or_faults_are
      ∙ in_map result_err fine items ∙ in_none items

  pub spoken_rest : (cut_of table).1 ≡ []
  spoken_rest = (spoken_cut madt_grammar s (λ bound same. cc)).1

  no_fault : fault_of table ≡ None
  no_fault = ap (λ fs. first_fault fs (cut_of table).1) no_faults ∙ ap (first_fault []) spoken_rest

  pub spoken_model : {A : Type 0} → model_of {A = A} table ≡ Ok (model_from (madt_at table) items)
  spoken_model = model_by (fault_of table) (madt_at table) (items_of table) items no_fault spoken_items

  pub boxes_are : filter_map mailbox_in (entries_of table) ≡ filter_map (box_in o) items
  boxes_are = sym (boxes_twice (cut_of table).0)
      ∙ spoken madt_grammar s (λ bound same. cc) box_of (box_in o) (λ e x tells. tells.1)

-- ---- items

-- a processor as the item of an entry
abbrev pub processor_item : MadtProcessor → MadtItem
processor_item p = item.Processor p.processor_uid p.local_apic_id p.is_enabled

-- and an NMI line
abbrev pub nmi_line_item : MadtNmiLine → MadtItem
nmi_line_item x = item.NmiLine (line_read x)

abbrev pub address_items : ℕ → List MadtItem
address_items a = if nat_lt a (2 ^ 32) then [] else item.LocalApicAddress a ∷ []

abbrev pub boxes_read : Option ℕ → List ℕ
boxes_read (Some a) = a ∷ []
boxes_read None = []

abbrev pub wakeup_items : Option ℕ → List MadtItem
wakeup_items o = map (λ a. item.Wakeup) (boxes_read o)

-- ---- the entries

inti_read : (p : Polarity) (t : TriggerMode) → (polarity_of (inti_flags p t) ≡ Ok p)
    × (trigger_mode_of (inti_flags p t) ≡ Ok t)
inti_read polarity.SameAsBus trigger.SameAsBus = (refl, refl)
inti_read polarity.SameAsBus _ = (refl, refl)
inti_read polarity.ActiveHigh trigger.SameAsBus = (refl, refl)
inti_read polarity.ActiveHigh _ = (refl, refl)
inti_read polarity.ActiveLow trigger.SameAsBus = (refl, refl)
inti_read polarity.ActiveLow _ = (refl, refl)

module _ (o : Option ℕ) where
  processor_by : (small : Bool) (p : MadtProcessor) → let fs =
      if small then local_apic_fields p else local_x2apic_fields p in
      All FitsField fs → Says o (fields_bytes fs) (processor_item p ∷ [])
  unfolding local_apic_fields local_x2apic_fields item_or_fault_of item_of spelling
  processor_by true p f =
      let r = λ (i : ℕ) (h : i < 6). read_at (local_apic_fields p) f i h in
      let bits = two_bits p.is_enabled p.is_online_capable in
      speaks_row (lit≤ tt) (lit≤ tt) refl (lit≤ tt)
      (rw (r 2 (lit< tt), r 3 (lit< tt), r 4 (lit< tt), bits.0) refl, refl)
  processor_by false p f =
      let r = λ (i : ℕ) (h : i < 6). read_at (local_x2apic_fields p) f i h in
      let bits = two_bits p.is_enabled p.is_online_capable in
      speaks_row (lit≤ tt) (lit≤ tt) refl (lit≤ tt)
      (rw (r 3 (lit< tt), r 4 (lit< tt), r 5 (lit< tt), bits.0) refl, refl)

  pub processor_says : (p : MadtProcessor) → Fits processor_fields p
      → Says o (processor_entry p) (processor_item p ∷ [])
  processor_says p f = processor_by (is_small p) p f

  address_by : (small : Bool) (a : ℕ) → let fs = if small then [] else override_address_fields a in
      All FitsField fs → Says o (fields_bytes fs) (if small then [] else item.LocalApicAddress a ∷ [])
  unfolding override_address_fields item_or_fault_of item_of spelling
  address_by true a f = speaks_nothing
  address_by false a f =
      speaks_row (lit≤ tt) (lit≤ tt) refl (lit≤ tt)
      (rw (read_at (override_address_fields a) f 3 (lit< tt)) refl, refl)

  pub address_says : (a : ℕ) → Fits address_fields a → Says o (address_entries a) (address_items a)
  address_says a f = address_by (nat_lt a (2 ^ 32)) a f

  pub io_apic_says : (x : IoApic) → Fits io_apic_fields x → Says o (io_apic_entry x) (item.IoApic x ∷ [])
  unfolding io_apic_fields item_or_fault_of item_of spelling
  io_apic_says x f =
      let r = λ (i : ℕ) (h : i < 6). read_at (io_apic_fields x) f i h in
      speaks_row (lit≤ tt) (lit≤ tt) refl (lit≤ tt) (rw (r 2 (lit< tt), r 4 (lit< tt), r 5 (lit< tt)) refl, refl)

  pub override_says : (x : InterruptSourceOverride) → Fits override_fields x
      → Says o (override_entry x) (item.Override x ∷ [])
  unfolding override_fields item_or_fault_of item_of spelling
  override_says x f =
      let r = λ (i : ℕ) (h : i < 6). read_at (override_fields x) f i h in
      let flags = inti_read x.polarity x.trigger_mode in
      speaks_row (lit≤ tt) (lit≤ tt) refl (lit≤ tt)
      (rw (r 2 (lit< tt), r 3 (lit< tt), r 4 (lit< tt), r 5 (lit< tt), flags.0, flags.1) refl, refl)

  pub nmi_source_says : (x : NmiSource) → Fits nmi_source_fields x → Says o (nmi_source_entry x) (item.NmiSource x ∷ [])
  unfolding nmi_source_fields item_or_fault_of item_of spelling
  nmi_source_says x f =
      let r = λ (i : ℕ) (h : i < 4). read_at (nmi_source_fields x) f i h in
      let flags = inti_read x.polarity x.trigger_mode in
      speaks_row (lit≤ tt) (lit≤ tt) refl (lit≤ tt) (rw (r 2 (lit< tt), r 3 (lit< tt), flags.0, flags.1) refl, refl)

-- ---- the mailbox

pub wakeup_says : (o : Option ℕ) → Fits mailbox_fields o → Says o (wakeup_entries o) (wakeup_items o)
unfolding wakeup_fields item_or_fault_of item_of spelling
wakeup_says (Some a) f =
    speaks_row (lit≤ tt) (lit≤ tt) refl (lit≤ tt)
    (refl, rw (read_at (wakeup_fields a) f 4 (lit< tt)) refl)
wakeup_says None f = speaks_nothing

-- ---- NMI lines

abbrev tell : MadtItem → Option (Result MadtItem MadtError)
tell x = Some (fine x)

abbrev line_item : NmiProcessor → LocalInterruptLine → MadtItem
line_item p l = item.NmiLine (record { processor = p; line = l })

for_other : (all n uid : ℕ) (l : LocalInterruptLine) → n ≡ uid → uid < all
    → tell (line_item (if nat_eq n all then nmi.All else nmi.ProcessorUid n) l)
    ≡ tell (line_item (nmi.ProcessorUid uid) l)
for_other all n uid l e less =
    let other : nat_eq uid all ≡ false = ne_eqb uid all (λ s. omega (arith, s, less)) in
    rw (e, other) refl

apic_nmi_all : (o : Option ℕ) (flags : ℕ) (l : LocalInterruptLine)
    → Says o (fields_bytes (apic_nmi_fields all_apics flags (line_code l))) (line_item nmi.All l ∷ [])
unfolding apic_nmi_fields item_or_fault_of item_of field_of spelling
apic_nmi_all o flags Lint0 = speaks_row (lit≤ tt) (lit≤ tt) refl (lit≤ tt) (refl, refl)
apic_nmi_all o flags Lint1 = speaks_row (lit≤ tt) (lit≤ tt) refl (lit≤ tt) (refl, refl)

apic_nmi_one : (o : Option ℕ) (uid flags : ℕ) (l : LocalInterruptLine) → uid < all_apics
    → Says o (fields_bytes (apic_nmi_fields uid flags (line_code l))) (line_item (nmi.ProcessorUid uid) l ∷ [])
unfolding apic_nmi_fields item_or_fault_of item_of field_of spelling
apic_nmi_one o uid flags Lint0 h = speaks_row (lit≤ tt) (lit≤ tt) refl (lit≤ tt)
    (for_other all_apics _ uid Lint0 (one uid) h, refl)
apic_nmi_one o uid flags Lint1 h = speaks_row (lit≤ tt) (lit≤ tt) refl (lit≤ tt)
    (for_other all_apics _ uid Lint1 (one uid) h, refl)

x2apic_nmi_one : (o : Option ℕ) (uid flags : ℕ) (l : LocalInterruptLine) → uid < 0xffffffff
    → Says o (fields_bytes (x2apic_nmi_fields uid flags (line_code l))) (line_item (nmi.ProcessorUid uid) l ∷ [])
unfolding x2apic_nmi_fields item_or_fault_of item_of field_of spelling
x2apic_nmi_one o uid flags Lint0 h = speaks_row (lit≤ tt) (lit≤ tt) refl (lit≤ tt)
    (for_other 0xffffffff _ uid Lint0 (number-spelling 4 uid (omega (arith, h))) h, refl)
x2apic_nmi_one o uid flags Lint1 h = speaks_row (lit≤ tt) (lit≤ tt) refl (lit≤ tt)
    (for_other 0xffffffff _ uid Lint1 (number-spelling 4 uid (omega (arith, h))) h, refl)

one_line_says : (o : Option ℕ) (small : Bool) (uid flags : ℕ) (l : LocalInterruptLine) → uid < 0xffffffff
    → nat_lt uid all_apics ≡ small → Says o (fields_bytes (if small then apic_nmi_fields uid flags (line_code l)
    else x2apic_nmi_fields uid flags (line_code l))) (line_item (nmi.ProcessorUid uid) l ∷ [])
one_line_says o true uid flags l h e = apic_nmi_one o uid flags l (ltb-true uid all_apics e)
one_line_says o false uid flags l h e = x2apic_nmi_one o uid flags l h

line_by : (o : Option ℕ) (p : NmiProcessor) (flags : ℕ) (l : LocalInterruptLine) → names_one p ≡ true
    → Says o (fields_bytes (nmi_fields p flags (line_code l))) (line_item p l ∷ [])
line_by o nmi.All flags l f = apic_nmi_all o flags l
line_by o (nmi.ProcessorUid uid) flags l f =
    one_line_says o (nat_lt uid all_apics) uid flags l (ltb-true uid 0xffffffff f) refl

pub nmi_line_says : (o : Option ℕ) (x : MadtNmiLine) → names_one x.processor ≡ true
    → Says o (nmi_line_entry x) (nmi_line_item x ∷ [])
nmi_line_says o x f = line_by o x.processor (inti_flags x.polarity x.trigger_mode) x.line f
