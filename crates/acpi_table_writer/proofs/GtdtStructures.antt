-- What a reader finds in the Platform Timer Structures of a GTDT that is written.
use Rattle.std.proofs.Common.{◌≡◌, ℕ, ◌+◌, ◌*◌, ◌%◌, ◌^◌, ◌<◌, ◌≤◌, lit<, Bool, true, false, List, [], ◌∷◌, ◌++◌, length, map, drop, Option, Some, None, Result, Ok, refl, sym, ap, subst, ◌∙◌, arith, lit≤, inl, inr, length-append, ◌-◌, ◌==◌, flat_map, nat_le, All, filter_map}
use Rattle.acpi_base.proofs.FromStd.{or-true, and_parts, le-leb, leb-true, ltb-true, ne_eqb, drop_at, length-map, map-id, recursion_from_All}
use Rattle.acpi_arm.specs.Timers as read
use Rattle.acpi_table_writer.specs.Words.{AllByRecursion, concat, field_of, spelling, IsEntry, IsFew, number_at, ◌>>=◌, holds, Polarity, TriggerMode, polarity_in, trigger_in, unless_ones, GtFrame, SbsaWatchdog, base_checked, flags_of, is_edge, is_low, modes_checked, FitsField, field_at, field_size, field_value, fields_bytes, offset_of, FitsFrame, FitsStructure, FitsWatchdog, base_of, block_fields, frame_bytes, frame_checked, frame_fields, structure_bytes, structure_checked, timer_read, watchdog_fields, WriterError, TooManyFrames, PlatformTimerContents}
use Rattle.acpi_table_writer.proofs.FieldsRead.{each_long, read_at, read_front}
use Rattle.acpi_table_writer.specs.declared.gtdt.PlatformTimerContents.TheVariants as kinds
use Rattle.acpi_table_writer.proofs.Bits.{each_good, first_good, flag_bits, mode, mode_is, was_true, way, way_is}
use Rattle.acpi_table_writer.proofs.Rows.{Row, Speaks, in_some, many_rows, row_bytes, speaks_all, speaks_one, spoken, spoken_cut}

-- ---- addresses and interrupts

pub base_is : (o : Option ℕ) → base_checked o ≡ Ok tt → unless_ones (base_of o) ≡ o
base_is (Some a) good =
    let less : a < 0xffffffffffffffff = ltb-true a 0xffffffffffffffff (was_true _ _ good) in
    rw (ne_eqb a 0xffffffffffffffff (λ s. omega (arith, s, less))) refl
base_is None good = refl

-- a trigger mode and a polarity by flags 0 and 1
pub modes_are : (t : TriggerMode) (p : Polarity) (c d : Bool) → modes_checked t p ≡ Ok tt
    → (trigger_in (flags_of (is_edge t) (is_low p) c d) 0 ≡ t)
    × (polarity_in (flags_of (is_edge t) (is_low p) c d) 1 ≡ p)
modes_are t p c d good =
    let each = and_parts _ _ (was_true _ _ good) in
    let bits = flag_bits (is_edge t) (is_low p) c d in
    (ap mode bits.0 ∙ mode_is t each.0, ap way bits.1 ∙ way_is p each.1)

-- ---- frames

frame_is : (f : GtFrame) → FitsFrame f → (more : List ℕ) → frame_checked f ≡ Ok tt
    → read.frame_at (frame_bytes f ++ more) ≡ f
unfolding frame_fields
frame_is f fits more good =
    let field = λ (i : ℕ) (less : i < 9). read_front (frame_fields f) more fits i less in
    let first = first_good (base_checked f.el0_base) _ good in
    let second = first_good (modes_checked f.physical_timer.trigger_mode f.physical_timer.polarity) _ first.1 in
    let physical = modes_are f.physical_timer.trigger_mode f.physical_timer.polarity false false second.0 in
    let virtual = modes_are f.virtual_timer.trigger_mode f.virtual_timer.polarity false false second.1 in
    let common = flag_bits f.is_secure f.is_always_on false false in
    rw (field 0 (lit< tt), field 2 (lit< tt), field 3 (lit< tt), field 4 (lit< tt), field 5 (lit< tt))
    (rw (field 6 (lit< tt))
    (rw (field 7 (lit< tt), field 8 (lit< tt), base_is f.el0_base first.0)
    (rw (physical.0, physical.1, virtual.0, virtual.1, common.0, common.1) refl)))

frame_long : (f : GtFrame) → length (frame_bytes f) ≡ 40
unfolding frame_fields spelling
frame_long f = refl

frames_are : (fs : List GtFrame) → AllByRecursion FitsFrame fs → AllByRecursion (λ f. frame_checked f ≡ Ok tt) fs
    → read.frames_in (length fs) (flat_map frame_bytes fs) ≡ fs
frames_are [] all good = refl
frames_are (f ∷ fs) all good =
    rw (
      frame_is f all.0 (flat_map frame_bytes fs) good.0,
      drop_at (frame_bytes f) (flat_map frame_bytes fs) 40
          (frame_long f),
    ) (ap (λ z. f ∷ z) (frames_are fs all.1 good.1))

-- ---- structures

module _ (a : ℕ) (fs : List GtFrame) (few : length fs ≤ 1637) (fits : All FitsField (block_fields a (length fs))) where
  abbrev head : List ℕ
  head = fields_bytes (block_fields a (length fs))

  abbrev block : List ℕ
  block = head ++ flat_map frame_bytes fs

  block_long : length block ≡ 20 + 40 * length fs
  unfolding block_fields spelling
  block_long = omega (arith, each_long frame_bytes 40 frame_long fs)

  block_size : number_at read.timers_layout.length_place block ≡ 20 + 40 * length fs
  unfolding block_fields spelling
  block_size = omega (arith, few)

  block_is : IsEntry read.timers_layout block
  unfolding block_fields spelling
  block_is = record {
    entry_type = omega (arith, block_long);
    header = omega (arith, block_long);
    size = block_size ∙ sym block_long;
    least = omega (arith, block_long);
  }

  block_field : (i : ℕ) → i < length (block_fields a (length fs))
      → field_of block (offset_of (block_fields a (length fs)) i) (field_size (field_at (block_fields a (length fs)) i))
      ≡ field_value (field_at (block_fields a (length fs)) i)
  block_field i less = read_front (block_fields a (length fs)) (flat_map frame_bytes fs) fits i less

  block_count : read.frame_count block ≡ length fs
  unfolding block_fields
  block_count =
      let small : length fs % 2 ^ 32 ≡ length fs = omega (arith, few) in
      block_field 4 (lit< tt) ∙ small

  block_sound : read.is_sound block ≡ true
  unfolding block_fields
  block_sound =
      let within : nat_le (20 + 40 * length fs) (length block) ≡ true =
      le-leb (20 + 40 * length fs) (length block) (omega (arith, block_long)) in
      rw (block_field 0 (lit< tt), block_count, block_field 5 (lit< tt), within) (or-true (length fs == 0))

  block_frames : AllByRecursion FitsFrame fs → AllByRecursion (λ f. frame_checked f ≡ Ok tt) fs
      → read.frames_of block ≡ fs
  unfolding block_fields spelling
  block_frames all good =
      ap (λ n. read.frames_in n (drop (read.frames_offset block) block)) block_count
      ∙ ap (λ o. read.frames_in (length fs) (drop o block)) (block_field 5 (lit< tt)) ∙ frames_are fs all good

  block_says : AllByRecursion FitsFrame fs → AllByRecursion (λ f. frame_checked f ≡ Ok tt) fs
      → read.timer_of block ≡ Some (inl (a, fs))
  unfolding block_fields
  block_says all good = rw (block_field 0 (lit< tt), block_field 3 (lit< tt), block_frames all good) refl

module _ (w : SbsaWatchdog) where
  watchdog_is : IsEntry read.timers_layout (fields_bytes (watchdog_fields w))
  unfolding watchdog_fields spelling
  watchdog_is = record { entry_type = lit≤ tt; header = lit≤ tt; size = refl; least = lit≤ tt }

  watchdog_kind : read.kind_of (fields_bytes (watchdog_fields w)) ≡ 1
  unfolding watchdog_fields field_of
  watchdog_kind = refl

  watchdog_says : FitsWatchdog w → modes_checked w.trigger_mode w.polarity ≡ Ok tt
      → read.timer_of (fields_bytes (watchdog_fields w)) ≡ Some (inr w)
  unfolding watchdog_fields
  watchdog_says fits good =
      let field = λ (i : ℕ) (less : i < 7). read_at (watchdog_fields w) fits i less in
      let modes = modes_are w.trigger_mode w.polarity w.is_secure false good in
      let bits = flag_bits (is_edge w.trigger_mode) (is_low w.polarity) w.is_secure false in
      rw (watchdog_kind, field 3 (lit< tt), field 4 (lit< tt), field 5 (lit< tt), field 6 (lit< tt))
      (rw (modes.0, modes.1, bits.2) refl)

-- what is known of a structure
abbrev pub IsGood : PlatformTimerContents → Type 0
IsGood x = FitsStructure x × (structure_checked x ≡ Ok tt)

few_frames : (n : ℕ) (r : Result (Unit {0}) WriterError) → (holds (nat_le n 1637) TooManyFrames >>= λ _. r) ≡ Ok tt
    → (n ≤ 1637) × (r ≡ Ok tt)
few_frames n r good =
    let p = first_good (holds (nat_le n 1637) TooManyFrames) (λ _. r) good in
    (leb-true n 1637 (was_true (nat_le n 1637) TooManyFrames p.0), p.1)

-- what a reader makes of a structure
abbrev Tells : List ℕ → PlatformTimerContents → Type 0
Tells e x = (read.is_sound e ≡ true) × (read.timer_of e ≡ Some (timer_read x))

structure_says : (x : PlatformTimerContents) → IsGood x → Speaks read.timers_layout Tells (structure_bytes x) (x ∷ [])
structure_says (kinds.GtBlock b) h =
    let p = few_frames (length b.frames.now) _ h.1 in
    let fits = recursion_from_All FitsFrame b.frames.now h.0.1 in
    speaks_one _ _ (block_is b.address b.frames.now p.0 h.0.0) (
      block_sound b.address b.frames.now p.0 h.0.0,
      block_says b.address b.frames.now p.0 h.0.0 fits (each_good frame_checked b.frames.now p.1),
    )
structure_says (kinds.SbsaWatchdog w) h =
    speaks_one _ _ (watchdog_is w) (rw (watchdog_kind w) refl, watchdog_says w h.0 h.1)

-- ---- all structures

abbrev AreRows : List (Row PlatformTimerContents) → Type 0
AreRows rows = AllByRecursion (λ r. IsEntry read.timers_layout r.0 × Tells r.0 r.1) rows

each_sound : (rows : List (Row PlatformTimerContents)) → AreRows rows
    → read.sound_front (row_bytes rows) ≡ row_bytes rows
each_sound [] all = refl
each_sound (r ∷ rows) all = rw all.0.1.0 (ap (λ es. r.0 ∷ es) (each_sound rows all.1))

rows_many : (rows : List (Row PlatformTimerContents)) → AreRows rows → length rows ≤ length (concat (row_bytes rows))
rows_many [] all = lit≤ tt
rows_many (r ∷ rows) all =
    let more = rows_many rows all.1 in
    omega (arith, length-append r.0 (concat (row_bytes rows)), all.0.0.entry_type)

module _ (xs : List PlatformTimerContents) (all : AllByRecursion IsGood xs) where
  abbrev count : ℕ
  count = length xs

  speaks : Speaks read.timers_layout Tells (flat_map structure_bytes xs) xs
  speaks = subst (Speaks read.timers_layout Tells (flat_map structure_bytes xs)) (map-id xs)
      (speaks_all IsGood structure_bytes (λ x. x) structure_says xs all)

  pub structures_many : length xs ≤ length (flat_map structure_bytes xs)
  structures_many = omega (
    arith,
    rows_many speaks.rows speaks.each,
    ap length speaks.whole,
    ap length speaks.items_are,
    length-map speaks.rows (λ r. r.1),
  )

  few : IsFew (Some count) count
  few bound same =
      let whole : count ≡ bound = cc in
      omega arith

  structures_are : read.structures_in count (flat_map structure_bytes xs) ≡ row_bytes speaks.rows
  structures_are = ap read.sound_front (spoken_cut (read.timers_grammar count) speaks few).0
      ∙ each_sound speaks.rows speaks.each

  pub timers_are : read.timers_in count (flat_map structure_bytes xs) ≡ map timer_read xs
  timers_are =
      ap (filter_map read.timer_of) (structures_are ∙ sym (spoken_cut (read.timers_grammar count) speaks few).0)
      ∙ spoken (read.timers_grammar count) speaks few read.timer_of (λ x. Some (timer_read x)) (λ e x tells. tells.1)
      ∙ in_some timer_read xs

  pub none_missing : read.missing_in count (flat_map structure_bytes xs) ≡ 0
  none_missing =
      let none : count - length (row_bytes speaks.rows) ≡ 0 = omega (arith, many_rows speaks) in
      ap (λ es. count - length es) structures_are ∙ none
