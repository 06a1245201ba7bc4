-- What a reader finds in a MADT that is written, and when one is.
use Rattle.std.proofs.Common.{◌≡◌, ℕ, ◌^◌, Bool, true, false, List, [], ◌∷◌, ◌++◌, map, drop, Option, Some, None, Ok, refl, sym, ap, ◌∙◌, arith, not, if◌then◌else◌, nat_lt, slice_get, filter_map, ok_or}
use Rattle.acpi_base.proofs.FromStd.{and_parts, ltb-true, drop-drop, recursion_from_All}
use Rattle.acpi_base.proofs.EntryLists.{processors_are as by_lists}
use Rattle.acpi_base.proofs.Words.{number-spelling, holds_ok}
use Rattle.acpi_base.specs.Words.{has_bit, field_of, number, spelling, madt_at, no_mailbox}
use Rattle.acpi.specs.Types.{InvalidMadt, UnexpectedEntry, MadtItem, MADT}
use Rattle.acpi_table_writer.specs.Words.{Fits, bit_of, IsTableOf, TableIds, MadtContents, MadtNmiLine, MadtProcessor, io_apic_entry, is_empty, is_single, madt_body, madt_checked, madt_entries, madt_fields, names_one, nmi_line_entry, nmi_source_entry, override_entry, processor_entry, AreFit, IsMadt, MadtIsRead, MailboxIsRead, apic_read, line_read, processor_read, processors_read, IdOfAll, NoProcessor, list_all, list_any, AllByRecursion}
use Rattle.acpi_table_writer.specs.MadtBytes.{io_apic_fields, nmi_source_fields, override_fields, processor_fields}
use Rattle.acpi_table_writer.proofs.Bits.{is_off, was_true}
use Rattle.acpi_table_writer.proofs.Rows.{in_same, in_some, missing, sorts, speaks_all, speaks_both}
use Rattle.acpi_table_writer.proofs.MadtEntries.{Says, address_items, address_says, box_in, boxes_are, boxes_read, io_apic_says, nmi_line_item, nmi_line_says, nmi_source_says, override_says, processor_item, processor_says, spoken_model, spoken_rest, wakeup_items, wakeup_says}
use Rattle.acpi_base.specs.Model as read
use Rattle.acpi_base.specs.declared.model.item.MadtItem.TheVariants as item
use Rattle.acpi_table_writer.proofs.Tables as table

-- all items, sort by sort
abbrev madt_items : MadtContents → List MadtItem
madt_items c =
    map processor_item c.processors.now
    ++ (address_items c.local_apic_address
    ++ (map item.IoApic c.io_apics.now
    ++ (map item.Override c.interrupt_source_overrides.now
    ++ (map item.NmiSource c.nmi_sources.now
    ++ (map nmi_line_item c.local_apic_nmi_lines.now
    ++ wakeup_items c.wakeup_mailbox)))))

module _ (c : MadtContents) where
  io_apics_are : filter_map read.io_apic_in (madt_items c) ≡ c.io_apics.now
  io_apics_are = simp (sorts, missing, in_same)

  overrides_are : filter_map read.override_in (madt_items c) ≡ c.interrupt_source_overrides.now
  overrides_are = simp (sorts, missing, in_same)

  sources_are : filter_map read.nmi_source_in (madt_items c) ≡ c.nmi_sources.now
  sources_are = simp (sorts, missing, in_same)

  lines_are : filter_map read.nmi_line_in (madt_items c) ≡ map line_read c.local_apic_nmi_lines.now
  lines_are = simp (sorts, missing) (in_some line_read c.local_apic_nmi_lines.now)

  processors_are : (is_ap : Bool) → filter_map (read.processor_in is_ap) (madt_items c)
      ≡ map (processor_read is_ap) c.processors.now
  processors_are is_ap = simp (sorts, missing) (in_some (processor_read is_ap) c.processors.now)

  addresses_are : filter_map read.local_apic_address_in (madt_items c)
      ≡ filter_map read.local_apic_address_in (address_items c.local_apic_address)
  addresses_are = simp sorts

-- ---- the table

all_lines : (xs : List MadtNmiLine) → list_all (λ x. names_one x.processor) xs ≡ true
    → AllByRecursion (λ x. names_one x.processor ≡ true) xs
all_lines [] e = tt
all_lines (x ∷ xs) e =
    let p = and_parts _ _ e in
    (p.0, all_lines xs p.1)

module _ (c : MadtContents) (f : AreFit c) (lines : list_all (λ x. names_one x.processor) c.local_apic_nmi_lines.now
    ≡ true) where
  entries_speak : Says c.wakeup_mailbox (madt_entries c) (madt_items c)
  entries_speak =
      let o = c.wakeup_mailbox in
      speaks_both (speaks_all (Fits processor_fields) processor_entry processor_item (processor_says o) c.processors.now
      (recursion_from_All (Fits processor_fields) c.processors.now f.processors))
      (speaks_both (address_says o c.local_apic_address f.local_apic_address)
      (speaks_both (speaks_all (Fits io_apic_fields) io_apic_entry item.IoApic (io_apic_says o) c.io_apics.now
      (recursion_from_All (Fits io_apic_fields) c.io_apics.now f.io_apics))
      (speaks_both (speaks_all (Fits override_fields) override_entry item.Override (override_says o)
      c.interrupt_source_overrides.now
      (recursion_from_All (Fits override_fields) c.interrupt_source_overrides.now f.overrides))
      (speaks_both (speaks_all (Fits nmi_source_fields) nmi_source_entry item.NmiSource (nmi_source_says o)
      c.nmi_sources.now (recursion_from_All (Fits nmi_source_fields) c.nmi_sources.now f.nmi_sources))
      (speaks_both (speaks_all (λ x. names_one x.processor ≡ true) nmi_line_entry nmi_line_item (nmi_line_says o)
      c.local_apic_nmi_lines.now (all_lines c.local_apic_nmi_lines.now lines))
      (wakeup_says o f.wakeup))))))

abbrev address_field : ℕ → ℕ
address_field a = if nat_lt a (2 ^ 32) then a else 0

bool_bit : (b : Bool) → has_bit (number (spelling 4 (bit_of b))) 0 ≡ b
unfolding spelling
bool_bit true = refl
bool_bit false = refl

-- an address that has no place in the table's own field has an entry
last_by : (small : Bool) (a n : ℕ) → nat_lt a (2 ^ 32) ≡ small → n ≡ number (spelling 4 (if small then a else 0))
    → read.last_address n (filter_map read.local_apic_address_in (if small then [] else item.LocalApicAddress a ∷ []))
    ≡ a
last_by true a n e h = h ∙ number-spelling 4 a (omega (arith, ltb-true a (2 ^ 32) e))
last_by false a n e h = refl

module _ (ids : TableIds) (c : MadtContents) (t : List ℕ) (is : IsMadt ids c t) where
  after_fixed : drop 44 t ≡ madt_entries c
  unfolding madt_fields spelling
  after_fixed = sym (drop-drop 8 36 t) ∙ ap (drop 8) (table.rest refl is.written)

  address_is : (madt_at t).local_apic_address ≡ number (spelling 4 (address_field c.local_apic_address))
  unfolding madt_at field_of madt_fields spelling
  address_is = table.field refl is.written 0 4

  legacy_is : has_bit (madt_at t).flags 0 ≡ c.also_has_legacy_pics
  unfolding madt_at field_of madt_fields spelling
  legacy_is = ap (λ n. has_bit n 0) (table.field refl is.written 4 4) ∙ bool_bit c.also_has_legacy_pics

  speaks : Says c.wakeup_mailbox (drop 44 t) (madt_items c)
  speaks = rw after_fixed (entries_speak c is.fit is.lines)

-- ---- the model

apic_is : {A : Type 0} (ids : TableIds) (c : MadtContents) (t : List ℕ) → IsMadt ids c t
    → read.apic_of {A = A} (madt_at t) (madt_items c) ≡ apic_read c
apic_is ids c t is =
    let at = (madt_at t).local_apic_address in
    let address = last_by (nat_lt c.local_apic_address (2 ^ 32)) c.local_apic_address at refl (address_is ids c t is) in
    rw (addresses_are c, io_apics_are c, lines_are c, overrides_are c, sources_are c, legacy_is ids c t is)
    (rw (address) refl)

-- with a first processor
processors_of_are : {A : Type 0} (items : List MadtItem) (ps : List MadtProcessor)
    → ((is_ap : Bool) → filter_map (read.processor_in is_ap) items ≡ map (processor_read is_ap) ps)
    → read.processors_of {A = A} items ≡ processors_read ps
processors_of_are {A = A} items [] each = rw (by_lists {A = A} items, each false) refl
processors_of_are {A = A} items (p ∷ ps) each = rw (by_lists {A = A} items, each false, each true) refl

some_apic : (c : MadtContents) (ps : List MadtProcessor) → c.processors.now ≡ ps → is_empty ps ≡ false
    → list_any read.is_of_apic (madt_items c) ≡ true
some_apic c [] same some = absurd cc
some_apic c (p ∷ ps) same some = rw same refl

pub madt_read : {A : Type 0} → MadtIsRead A
madt_read {A = A} ids c t is =
    spoken_model t (madt_items c) c.wakeup_mailbox (speaks ids c t is) {A = A}
    ∙ rw (some_apic c c.processors.now refl is.some, apic_is {A = A} ids c t is)
    (rw (processors_of_are {A = A} (madt_items c) c.processors.now (processors_are c)) refl)

boxed : (o : Option ℕ) → filter_map (λ (a : ℕ). o) (boxes_read o) ≡ boxes_read o
boxed (Some a) = refl
boxed None = refl

one_boxed : (o : Option ℕ) → ok_or (slice_get (boxes_read o) 0) (InvalidMadt (no_mailbox []))
    ≡ ok_or o (InvalidMadt UnexpectedEntry)
one_boxed (Some a) = refl
one_boxed None = refl

pub mailbox_read : MailboxIsRead
mailbox_read ids c t is =
    let o = c.wakeup_mailbox in
    let s = speaks ids c t is in
    let boxes : filter_map (box_in o) (madt_items c) ≡ boxes_read o = simp (sorts, missing) (boxed o) in
    rw (boxes_are t (madt_items c) o s, boxes, spoken_rest t (madt_items c) o s) (one_boxed o)

-- ---- whether it is written

pub madt_is : (ids : TableIds) (c : MadtContents) (t : List ℕ) → IsTableOf MADT 5 ids (madt_body c) t → AreFit c
    → madt_checked c ≡ Ok tt → IsMadt ids c t
madt_is ids c t written fit good =
    let one = holds_ok (not (is_empty c.processors.now)) NoProcessor _ tt good in
    let two = holds_ok (list_all is_single c.processors.now) IdOfAll _ tt one.1 in
    record { written = written; fit = fit; some = is_off _ one.0; lines = was_true _ _ two.1 }
