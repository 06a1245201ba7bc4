-- What a reader finds in a SRAT that is written, and when one is.
use Rattle.std.proofs.Common.{◌≡◌, ℕ, ◌+◌, ◌*◌, ◌/◌, ◌%◌, ◌<◌, lit<, Bool, true, false, List, [], ◌∷◌, ◌++◌, map, drop, Some, None, Ok, refl, sym, ap, ◌∙◌, arith, lit≤, ◌==◌, if◌then◌else◌, nat_lt, All, filter_map}
use Rattle.acpi_base.proofs.FromStd.{and_parts, drop-drop, recursion_from_All}
use Rattle.acpi_numa.specs.Words.{cut_of, entries_of, entry_of}
use Rattle.acpi_numa.specs.declared.srat.entry.SratEntry.TheVariants as kinds
use Rattle.acpi_table_writer.specs.Words.{last_or, list_all, field_of, spelling, header_at, SRAT, affinities_of, ends_below, range_in, ranges_of, apic_domain, processor_domain, revision_of, srat_grammar, srat_layout, MemoryRange, SratEntry, Fits, SratContents, apic_entry, is_one_apic, is_one_gicc, is_range, memory_entry, memory_fields, range_flags, srat_body, srat_checked, srat_entries, IsSrat, SaysDomains, SratIsRead, IsTableOf, bit_of, IdOfAll, TableIds, ApicDomain, GiccDomain, FitsField, fields_bytes, Zeros, apic_fields}
use Rattle.acpi_table_writer.specs.Srat.{gicc_entry, gicc_fields, is_small, local_apic_fields, local_x2apic_fields, AreFit}
use Rattle.acpi_base.proofs.Words.{holds_ok}
use Rattle.acpi_table_writer.proofs.FieldsRead.{read_at}
use Rattle.acpi_table_writer.proofs.Bits.{was_true}
use Rattle.acpi_table_writer.proofs.Rows.{Speaks, in_none, in_same, same_of, sorts, speaks_all, speaks_both, speaks_row, spoken, spoken_cut}
use Rattle.acpi_table_writer.proofs.Tables as table

-- the entries of a table of revision 3
abbrev Tells : List ℕ → SratEntry → Type 0
Tells e x = entry_of 3 e ≡ Some x

-- ---- what each entry contains

abbrev local_apic : ℕ → ℕ → SratEntry
local_apic d id = kinds.LocalApic (record { domain = d; apic_id = id; flags = 1; sapic_eid = 0; clock_domain = 0 })

abbrev local_x2apic : ℕ → ℕ → SratEntry
local_x2apic d id = kinds.LocalX2Apic (record { domain = d; x2apic_id = id; flags = 1; clock_domain = 0 })

abbrev gicc : ℕ → ℕ → SratEntry
gicc d uid = kinds.Gicc (record { domain = d; processor_uid = uid; flags = 1; clock_domain = 0 })

abbrev memory : ℕ → ℕ → ℕ → ℕ → SratEntry
memory d b n f = kinds.Memory (record { domain = d; base = b; length = n; flags = f })

abbrev apic_item : ApicDomain → SratEntry
apic_item p = if is_small p then local_apic p.domain p.local_apic_id else local_x2apic p.domain p.local_apic_id

abbrev gicc_item : GiccDomain → SratEntry
gicc_item p = gicc p.domain p.processor_uid

abbrev memory_item : MemoryRange → SratEntry
memory_item r = memory r.domain r.base r.length (range_flags r)

-- Proximity Domain [31:8]
upper_domain : (p : ApicDomain) → All FitsField (local_apic_fields p)
    → field_of (fields_bytes (local_apic_fields p)) 9 3 ≡ p.domain / 256
unfolding local_apic_fields spelling field_of
upper_domain p fits = omega (arith, fits 7 (Zeros 0) (lit< tt))

apic_by : (small : Bool) (p : ApicDomain) → let fs = if small then local_apic_fields p else local_x2apic_fields p in
    let x = if small then local_apic p.domain p.local_apic_id else local_x2apic p.domain p.local_apic_id in
    All FitsField fs → Speaks srat_layout Tells (fields_bytes fs) (x ∷ [])
unfolding local_apic_fields local_x2apic_fields spelling
apic_by true p fits =
    let field = λ (i : ℕ) (less : i < 9). read_at (local_apic_fields p) fits i less in
    let whole : p.domain % 256 + 256 * (p.domain / 256) ≡ p.domain = omega arith in
    speaks_row (lit≤ tt) (lit≤ tt) refl (lit≤ tt)
    (rw (field 2 (lit< tt), field 3 (lit< tt), field 4 (lit< tt), field 5 (lit< tt), field 8 (lit< tt))
    (rw (upper_domain p fits, whole) refl))
apic_by false p fits =
    let field = λ (i : ℕ) (less : i < 9). read_at (local_x2apic_fields p) fits i less in
    speaks_row (lit≤ tt) (lit≤ tt) refl (lit≤ tt)
    (rw (field 3 (lit< tt), field 4 (lit< tt), field 5 (lit< tt), field 6 (lit< tt)) refl)

apic_says : (p : ApicDomain) → Fits apic_fields p → Speaks srat_layout Tells (apic_entry p) (apic_item p ∷ [])
apic_says p fits = apic_by (is_small p) p fits

gicc_says : (p : GiccDomain) → Fits gicc_fields p → Speaks srat_layout Tells (gicc_entry p) (gicc_item p ∷ [])
unfolding gicc_fields spelling
gicc_says p fits =
    let field = λ (i : ℕ) (less : i < 6). read_at (gicc_fields p) fits i less in
    speaks_row (lit≤ tt) (lit≤ tt) refl (lit≤ tt)
    (rw (field 2 (lit< tt), field 3 (lit< tt), field 4 (lit< tt), field 5 (lit< tt)) refl)

memory_says : (r : MemoryRange) → Fits memory_fields r → Speaks srat_layout Tells (memory_entry r) (memory_item r ∷ [])
unfolding memory_fields spelling
memory_says r fits =
    let field = λ (i : ℕ) (less : i < 9). read_at (memory_fields r) fits i less in
    speaks_row (lit≤ tt) (lit≤ tt) refl (lit≤ tt)
    (rw (field 2 (lit< tt), field 4 (lit< tt), field 5 (lit< tt), field 7 (lit< tt)) refl)

-- ---- what is found in the entries

abbrev items : SratContents → List SratEntry
items c = map apic_item c.apics.now ++ (map gicc_item c.giccs.now ++ map memory_item c.ranges.now)

apic_in_by : (small : Bool) (id : ℕ) (p : ApicDomain)
    → apic_domain id (if small then local_apic p.domain p.local_apic_id else local_x2apic p.domain p.local_apic_id)
    ≡ (if p.local_apic_id == id then Some p.domain else None)
apic_in_by true id p = refl
apic_in_by false id p = refl

no_uid_by : (small : Bool) (uid : ℕ) (p : ApicDomain)
    → processor_domain uid (if small then local_apic p.domain p.local_apic_id
    else local_x2apic p.domain p.local_apic_id) ≡ None
no_uid_by true uid p = refl
no_uid_by false uid p = refl

no_range_by : (small : Bool) (p : ApicDomain)
    → range_in (if small then local_apic p.domain p.local_apic_id else local_x2apic p.domain p.local_apic_id) ≡ None
no_range_by true p = refl
no_range_by false p = refl

range_by : (d b n : ℕ) (hot non_volatile : Bool) → nat_lt 0 n ≡ true
    → range_in (memory d b n (1 + (2 * bit_of hot + 4 * bit_of non_volatile)))
    ≡ Some (record { domain = d; base = b; length = n; is_hot_pluggable = hot; is_non_volatile = non_volatile })
range_by d b n true true some = rw some refl
range_by d b n true false some = rw some refl
range_by d b n false true some = rw some refl
range_by d b n false false some = rw some refl

ranges_by : (rs : List MemoryRange) → list_all is_range rs ≡ true
    → filter_map (λ r. range_in (memory_item r)) rs ≡ rs
ranges_by [] all = refl
ranges_by (r ∷ rs) all =
    let p = and_parts _ _ all in
    let q = and_parts _ _ p.0 in
    rw (range_by r.domain r.base r.length r.is_hot_pluggable r.is_non_volatile q.0)
    (ap (λ ys. r ∷ ys) (ranges_by rs p.1))

all_end : (rs : List MemoryRange) → list_all is_range rs ≡ true → list_all ends_below rs ≡ true
all_end [] all = refl
all_end (r ∷ rs) all =
    let p = and_parts (is_range r) (list_all is_range rs) all in
    let q = and_parts (nat_lt 0 r.length) (ends_below r) p.0 in
    rw (q.1, all_end rs p.1) refl

module _ (c : SratContents) where
  ranges_are : list_all is_range c.ranges.now ≡ true → filter_map range_in (items c) ≡ c.ranges.now
  ranges_are all =
      let none = same_of (λ p. range_in (apic_item p)) (λ p. None) (λ p. no_range_by (is_small p) p) c.apics.now in
      simp sorts (ap (λ z. z ++ filter_map (λ r. range_in (memory_item r)) c.ranges.now) (none ∙ in_none c.apics.now)
      ∙ ranges_by c.ranges.now all)

  apics_are : (id : ℕ) → filter_map (apic_domain id) (items c) ≡ filter_map
      (λ p. if p.local_apic_id == id then Some p.domain else None) c.apics.now
  apics_are id = simp sorts (same_of _ _ (λ p. apic_in_by (is_small p) id p) c.apics.now)

  giccs_are : (uid : ℕ) → filter_map (processor_domain uid) (items c)
      ≡ filter_map (λ p. if p.processor_uid == uid then Some p.domain else None) c.giccs.now
  giccs_are uid =
      let none = same_of (λ p. processor_domain uid (apic_item p)) (λ p. None)
      (λ p. no_uid_by (is_small p) uid p) c.apics.now in
      simp sorts (ap (λ z. z ++ filter_map (λ p. processor_domain uid (gicc_item p)) c.giccs.now)
      (none ∙ in_none c.apics.now))

-- ---- the table

entries_speak : (c : SratContents) → AreFit c → Speaks srat_layout Tells (srat_entries c) (items c)
entries_speak c f =
    speaks_both (speaks_all (Fits apic_fields) apic_entry apic_item apic_says c.apics.now
    (recursion_from_All (Fits apic_fields) c.apics.now f.apics))
    (speaks_both (speaks_all (Fits gicc_fields) gicc_entry gicc_item gicc_says c.giccs.now
    (recursion_from_All (Fits gicc_fields) c.giccs.now f.giccs))
    (speaks_all (Fits memory_fields) memory_entry memory_item memory_says c.ranges.now
    (recursion_from_All (Fits memory_fields) c.ranges.now f.ranges)))

ranges_read : (ranges : List MemoryRange) (t : List ℕ) → (cut_of t).1 ≡ [] → ranges_of t ≡ ranges
    → list_all ends_below ranges ≡ true → affinities_of t ≡ Ok ranges
ranges_read ranges t none same all = rw (none, same, all) refl

module _ (ids : TableIds) (c : SratContents) (t : List ℕ) (is : IsSrat ids c t) where
  after_reserved : drop 48 t ≡ srat_entries c
  after_reserved = sym (drop-drop 12 36 t) ∙ ap (drop 12) (table.rest refl is.written)

  speaks : Speaks srat_layout Tells (drop 48 t) (items c)
  speaks = rw after_reserved (entries_speak c is.fit)

  revision : revision_of t ≡ 3
  unfolding header_at
  revision = (table.says refl is.written).revision_is

  entries_are : entries_of t ≡ items c
  entries_are = ap (λ r. filter_map (entry_of r) (cut_of t).0) revision
      ∙ spoken srat_grammar speaks (λ bound same. cc) (entry_of 3) (λ x. Some x) (λ e x same. same) ∙ in_same (items c)

  says : SaysDomains c t
  says = record {
    ranges = ranges_read c.ranges.now t (spoken_cut srat_grammar speaks (λ bound same. cc)).1
        (ap (filter_map range_in) entries_are ∙ ranges_are c is.ranges) (all_end c.ranges.now is.ranges);
    apics = λ id. ap (last_or None) (ap (filter_map (apic_domain id)) entries_are ∙ apics_are c id);
    giccs = λ uid. ap (last_or None) (ap (filter_map (processor_domain uid)) entries_are ∙ giccs_are c uid);
  }

pub srat_read : SratIsRead
srat_read ids c t is = says ids c t is

-- ---- whether it is written

pub srat_is : (ids : TableIds) (c : SratContents) (t : List ℕ) → IsTableOf SRAT 3 ids (srat_body c) t → AreFit c
    → srat_checked c ≡ Ok tt → IsSrat ids c t
srat_is ids c t written fit good =
    let one = holds_ok (list_all is_one_apic c.apics.now) IdOfAll _ tt good in
    let two = holds_ok (list_all is_one_gicc c.giccs.now) IdOfAll _ tt one.1 in
    record { written = written; fit = fit; ranges = was_true _ _ two.1 }
