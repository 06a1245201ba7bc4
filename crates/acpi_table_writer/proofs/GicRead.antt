-- What a reader finds in the MADT of an Arm machine that is written.
use Rattle.std.proofs.Common.{◌≡◌, ℕ, ◌<◌, List, [], ◌∷◌, ◌++◌, map, drop, Option, Some, None, Result, Ok, refl, sym, ap, ◌∙◌, arith, lit≤, lit<, flat_map, if◌then◌else◌, not, slice_get, filter_map, option_map}
use Rattle.acpi_base.proofs.FromStd.{and_parts, drop-drop, recursion_from_All}
use Rattle.acpi_base.proofs.Words.{number-spelling, holds_ok}
use Rattle.acpi_base.specs.MadtEntries as entry
use Rattle.acpi_base.specs.declared.tables.madt.entry.MadtEntry.TheVariants as kinds
use Rattle.acpi_arm.specs.Gic as read
use Rattle.acpi_table_writer.specs.Words.{cons_option, has_bit, field_of, spelling, shown_of, header_at, cut_of, entries_of, entry_of, madt_grammar, madt_layout, is_left, ◌>>=◌, holds, AcpiError, InvalidMadt, InvalidEntryLength, MADT, MadtEntry, GicModel, GicCpuInterface, GicDistributor, GicMsiFrame, GicRedistributors, GicTranslationService, SpiRange, Fits, is_edge, all_checked, IsTableOf, bit_of, NoProcessor, TableIds, GicContents, AreGicFit, GicMadtIsRead, IsGicMadt, gic_body, gic_checked, gic_read, gicc_entry, gicc_fields, gicc_list, trace_field, gicd_entry, gicd_fields, gicr_entry, gicr_fields, has_spis, interface_checked, its_entry, its_fields, msi_entry, msi_fields, spis_of, is_empty, madt_fields, FitsField, fields_bytes, Zeros}
use Rattle.acpi_table_writer.proofs.Bits.{each_good, flag_bits, mode_is, was_true}
use Rattle.acpi_table_writer.proofs.FieldsRead.{read_at}
use Rattle.acpi_table_writer.proofs.Rows.{Speaks, both_known, in_same, known_same, sorts, speaks_both, speaks_each, speaks_row, spoken, spoken_cut}
use Rattle.acpi_table_writer.proofs.Tables as table

-- ---- entries as they are read

abbrev gicd_kind : GicDistributor → MadtEntry
gicd_kind x = kinds.Gicd (entry.gicd_at (gicd_entry x))

abbrev gicc_kind : GicCpuInterface → MadtEntry
gicc_kind x = kinds.Gicc (entry.gicc_at (gicc_entry x))

abbrev gicr_kind : GicRedistributors → MadtEntry
gicr_kind x = kinds.GicRedistributor (entry.gic_redistributor_at (gicr_entry x))

abbrev its_kind : GicTranslationService → MadtEntry
its_kind x = kinds.GicInterruptTranslationService (entry.gic_translation_service_at (its_entry x))

abbrev msi_kind : GicMsiFrame → MadtEntry
msi_kind x = kinds.GicMsiFrame (entry.gic_msi_frame_at (msi_entry x))

abbrev Tells : List ℕ → MadtEntry → Type 0
Tells e x = entry_of e ≡ Some x

gicd_entry_says : (x : GicDistributor) → Speaks madt_layout Tells (gicd_entry x) (gicd_kind x ∷ [])
unfolding gicd_fields spelling
gicd_entry_says x = speaks_row (lit≤ tt) (lit≤ tt) refl (lit≤ tt) refl

gicc_by : (x : GicCpuInterface) (o : Option ℕ) → let e = fields_bytes (gicc_list x o) in
    Speaks madt_layout Tells e (kinds.Gicc (entry.gicc_at e) ∷ [])
unfolding gicc_list spelling
gicc_by x (Some n) = speaks_row (lit≤ tt) (lit≤ tt) refl (lit≤ tt) refl
gicc_by x None = speaks_row (lit≤ tt) (lit≤ tt) refl (lit≤ tt) refl

gicr_entry_says : (x : GicRedistributors) → Speaks madt_layout Tells (gicr_entry x) (gicr_kind x ∷ [])
unfolding gicr_fields spelling
gicr_entry_says x = speaks_row (lit≤ tt) (lit≤ tt) refl (lit≤ tt) refl

its_entry_says : (x : GicTranslationService) → Speaks madt_layout Tells (its_entry x) (its_kind x ∷ [])
unfolding its_fields spelling
its_entry_says x = speaks_row (lit≤ tt) (lit≤ tt) refl (lit≤ tt) refl

msi_entry_says : (x : GicMsiFrame) → Speaks madt_layout Tells (msi_entry x) (msi_kind x ∷ [])
unfolding msi_fields spelling
msi_entry_says x = speaks_row (lit≤ tt) (lit≤ tt) refl (lit≤ tt) refl

-- ---- what each contains

abbrev some : {X : Type 0} → X → Option X
some x = Some x

gicd_says : (x : GicDistributor) → Fits gicd_fields x → read.distributor_in (gicd_kind x) ≡ Some x
unfolding gicd_fields
gicd_says x f =
    let r = λ (i : ℕ) (h : i < 8). read_at (gicd_fields x) f i h in
    rw (r 3 (lit< tt), r 4 (lit< tt), r 5 (lit< tt), r 6 (lit< tt)) refl

gicr_says : (x : GicRedistributors) → Fits gicr_fields x → read.redistributors_in 6 (gicr_kind x) ≡ Some x
unfolding gicr_fields
gicr_says x f =
    let r = λ (i : ℕ) (h : i < 5). read_at (gicr_fields x) f i h in
    rw (r 3 (lit< tt), r 4 (lit< tt)) refl

its_says : (x : GicTranslationService) → Fits its_fields x
    → read.translation_service_in 6 (its_kind x) ≡ Some x
unfolding its_fields
its_says x f =
    let r = λ (i : ℕ) (h : i < 6). read_at (its_fields x) f i h in
    rw (r 3 (lit< tt), r 4 (lit< tt)) refl

abbrev range : ℕ → ℕ → SpiRange
range b n = record { base = b; count = n }

spis_are : (o : Option SpiRange) → (if has_bit (bit_of (has_spis o)) 0
    then Some (range (spis_of o).base (spis_of o).count) else None) ≡ o
spis_are (Some r) = refl
spis_are None = refl

msi_says : (x : GicMsiFrame) → Fits msi_fields x → read.msi_frame_in 6 (msi_kind x) ≡ Some x
unfolding msi_fields
msi_says x f =
    let r = λ (i : ℕ) (h : i < 8). read_at (msi_fields x) f i h in
    rw (r 3 (lit< tt), r 4 (lit< tt), r 5 (lit< tt), r 6 (lit< tt), r 7 (lit< tt), spis_are x.spis) refl

-- ---- a processor

trace_is : (x : GicCpuInterface) (o : Option ℕ) → FitsField (trace_field o)
    → shown_of (entry.gicc_at (fields_bytes (gicc_list x o))).trbe_interrupt 6 ≡ o
unfolding gicc_list spelling field_of
trace_is x (Some n) h = ap some (number-spelling 2 n (omega (arith, h)))
trace_is x None h = refl

gicc_says : (x : GicCpuInterface) → Fits gicc_fields x → interface_checked x ≡ Ok tt
    → read.cpu_interface_in 6 (gicc_kind x) ≡ Some x
unfolding gicc_list
gicc_says x f has =
    let r = λ (i : ℕ) (h : i < 19). read_at (gicc_fields x) f i h in
    let bits = flag_bits x.is_enabled (is_edge x.performance_trigger) (is_edge x.maintenance_trigger)
    x.is_online_capable in
    let each = and_parts _ _ (was_true _ _ has) in
    let trace = trace_is x x.trace_buffer_interrupt (f 18 (Zeros 0) (lit< tt)) in
    rw (r 3 (lit< tt), r 4 (lit< tt), r 5 (lit< tt), r 6 (lit< tt), r 7 (lit< tt), r 8 (lit< tt), r 9 (lit< tt))
    (rw (r 10 (lit< tt), r 11 (lit< tt), r 12 (lit< tt), r 13 (lit< tt), r 14 (lit< tt), r 15 (lit< tt))
    (rw (r 17 (lit< tt), trace)
    (rw (bits.0, bits.1, bits.2, bits.3, mode_is x.performance_trigger each.0)
    (rw (mode_is x.maintenance_trigger each.1) refl))))

-- ---- the table

-- all entries, sort by sort
abbrev entries_read : GicContents → List MadtEntry
entries_read c =
    (gicd_kind c.distributor ∷ [])
    ++ (map gicc_kind c.cpu_interfaces.now
    ++ (map gicr_kind c.redistributors.now
    ++ (map its_kind c.translation_services.now
    ++ map msi_kind c.msi_frames.now)))

abbrev pub entry_bytes : GicContents → List ℕ
entry_bytes c =
    gicd_entry c.distributor
    ++ (flat_map gicc_entry c.cpu_interfaces.now
    ++ (flat_map gicr_entry c.redistributors.now
    ++ (flat_map its_entry c.translation_services.now
    ++ flat_map msi_entry c.msi_frames.now)))

speak : (c : GicContents) → Speaks madt_layout Tells (entry_bytes c) (entries_read c)
speak c =
    speaks_both (gicd_entry_says c.distributor)
    (speaks_both (speaks_each gicc_entry gicc_kind (λ x. gicc_by x x.trace_buffer_interrupt) c.cpu_interfaces.now)
    (speaks_both (speaks_each gicr_entry gicr_kind gicr_entry_says c.redistributors.now)
    (speaks_both (speaks_each its_entry its_kind its_entry_says c.translation_services.now)
    (speaks_each msi_entry msi_kind msi_entry_says c.msi_frames.now))))

-- what each sort contains
module _ (c : GicContents) (f : AreGicFit c) where
  distributors_are : filter_map read.distributor_in (entries_read c) ≡ c.distributor ∷ []
  distributors_are = simp sorts (ap (λ o. cons_option o []) (gicd_says c.distributor f.distributor))

  interfaces_are : all_checked interface_checked c.cpu_interfaces.now ≡ Ok tt
      → filter_map (read.cpu_interface_in 6) (entries_read c) ≡ c.cpu_interfaces.now
  interfaces_are good =
      let is = c.cpu_interfaces.now in
      let P = λ (x : GicCpuInterface). interface_checked x ≡ Ok tt in
      let each = both_known (Fits gicc_fields) P is (recursion_from_All (Fits gicc_fields) is f.cpu_interfaces)
      (each_good interface_checked is good) in
      simp sorts (known_same (λ x. Fits gicc_fields x × P x) (λ x. read.cpu_interface_in 6 (gicc_kind x))
      (λ x g. gicc_says x g.0 g.1) is each)

  redistributors_are : filter_map (read.redistributors_in 6) (entries_read c) ≡ c.redistributors.now
  redistributors_are =
      simp sorts (known_same (Fits gicr_fields) (λ x. read.redistributors_in 6 (gicr_kind x)) gicr_says
      c.redistributors.now (recursion_from_All (Fits gicr_fields) c.redistributors.now f.redistributors))

  services_are : filter_map (read.translation_service_in 6) (entries_read c) ≡ c.translation_services.now
  services_are =
      simp sorts (known_same (Fits its_fields) (λ x. read.translation_service_in 6 (its_kind x)) its_says
      c.translation_services.now
      (recursion_from_All (Fits its_fields) c.translation_services.now f.translation_services))

  frames_are : filter_map (read.msi_frame_in 6) (entries_read c) ≡ c.msi_frames.now
  frames_are =
      simp sorts (known_same (Fits msi_fields) (λ x. read.msi_frame_in 6 (msi_kind x)) msi_says
      c.msi_frames.now (recursion_from_All (Fits msi_fields) c.msi_frames.now f.msi_frames))

abbrev pass : {A : Type 0} → A → Result A AcpiError
pass x = Ok x

-- a distributor, and no byte after the entries
read_by : {A : Type 0} (t rest : List ℕ) (ds : List GicDistributor) (d : GicDistributor) (m : GicModel A) → rest ≡ []
    → slice_get ds 0 ≡ Some d → read.model_beside t d ≡ m
    → ((holds (not (is_left rest)) (InvalidMadt InvalidEntryLength) >>= λ _. pass (slice_get ds 0)) >>= λ o.
    pass (option_map (read.model_beside {A = A} t) o)) ≡ pass (Some m)
read_by t rest ds d m none found same = rw (none, found, same) refl

module _ (ids : TableIds) (c : GicContents) (t : List ℕ) (is : IsGicMadt ids c t) where
  after_fixed : drop 44 t ≡ entry_bytes c
  unfolding madt_fields spelling
  after_fixed = sym (drop-drop 8 36 t) ∙ ap (drop 8) (table.rest refl is.written)

  speaks : Speaks madt_layout Tells (drop 44 t) (entries_read c)
  speaks = rw after_fixed (speak c)

  no_rest : (cut_of t).1 ≡ []
  no_rest = (spoken_cut madt_grammar speaks (λ bound same. cc)).1

  entries_are : entries_of t ≡ entries_read c
  entries_are = spoken madt_grammar speaks (λ bound same. cc) entry_of (λ x. Some x) (λ e x same. same)
      ∙ in_same (entries_read c)

  revision_is : field_of t 8 1 ≡ 6
  unfolding header_at
  revision_is = (table.says refl is.written).revision_is

  items_are : {T : Type 0} (meaning : ℕ → MadtEntry → Option T)
      → read.items_of meaning t ≡ filter_map (meaning 6) (entries_read c)
  items_are meaning = ap (λ r. filter_map (meaning r) (entries_of t)) revision_is
      ∙ ap (filter_map (meaning 6)) entries_are

  first_is : slice_get (filter_map read.distributor_in (entries_of t)) 0 ≡ Some c.distributor
  first_is = ap (λ es. slice_get (filter_map read.distributor_in es) 0) entries_are
      ∙ ap (λ ds. slice_get ds 0) (distributors_are c is.fit)

  model_is : {A : Type 0} → read.model_beside {A = A} t c.distributor ≡ gic_read c
  model_is =
      rw (items_are read.cpu_interface_in ∙ interfaces_are c is.fit is.checked)
      (rw (items_are read.redistributors_in ∙ redistributors_are c is.fit)
      (rw (items_are read.translation_service_in ∙ services_are c is.fit)
      (rw (items_are read.msi_frame_in ∙ frames_are c is.fit) refl)))

pub gic_madt_read : {A : Type 0} → GicMadtIsRead A
gic_madt_read {A = A} ids c t is = read_by {A = A} t (cut_of t).1 (filter_map read.distributor_in (entries_of t))
    c.distributor (gic_read c) (no_rest ids c t is) (first_is ids c t is) (model_is ids c t is {A = A})

pub gic_madt_is : (ids : TableIds) (c : GicContents) (t : List ℕ) → IsTableOf MADT 6 ids (gic_body c) t → AreGicFit c
    → gic_checked c ≡ Ok tt → IsGicMadt ids c t
gic_madt_is ids c t written fit good =
    let some = holds_ok (not (is_empty c.cpu_interfaces.now)) NoProcessor _ tt good in
    record { written = written; fit = fit; checked = some.1 }
