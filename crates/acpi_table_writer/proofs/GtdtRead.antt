-- What a reader finds in a GTDT that is written.
use Rattle.std.proofs.Common.{◌≡◌, ℕ, ◌+◌, ◌%◌, ◌^◌, ◌<◌, true, false, List, [], ◌∷◌, length, drop, Some, Ok, refl, sym, ap, ◌∙◌, arith, lit<, if◌then◌else◌, ◌==◌, flat_map, nat_le, nat_lt, All}
use Rattle.acpi_base.proofs.FromStd.{or-true, le-leb, drop-drop, All-from_recursion, recursion_from_All}
use Rattle.acpi_arm.specs.Timers as read
use Rattle.acpi_table_writer.specs.Words.{AllByRecursion, field_of, part, spelling, header_at, arm_timer_at, gtdt_at, read_base_of, virtual_el2_of, ArmTimer, base_checked, is_edge, is_low, all_checked, FitsStructure, GtdtIsRead, IsGtdt, SaysTimers, gtdt_body, gtdt_fields, structure_bytes, structure_checked, timer_checked, timer_flags, FitsField, field_at, field_size, field_value, fields_bytes, offset_of, Field, U32, Zeros, GtdtContents, TableIds}
use Rattle.acpi_table_writer.proofs.GtdtStructures.{IsGood, base_is, modes_are, none_missing, structures_many, timers_are}
use Rattle.acpi_table_writer.proofs.Tables as table
use Rattle.acpi_table_writer.proofs.Bits.{each_good, first_good, flag_bits}
use Rattle.acpi_table_writer.proofs.FieldsRead.{read_at, read_in}
use Rattle.acpi_table_writer.proofs.Rows.{both_known}

-- ---- the table

-- the bytes have this timer's interrupt and flags at an offset
timer_is : (b : List ℕ) (o : ℕ) (t : ArmTimer) → timer_checked t ≡ Ok tt
    → field_of b o 4 ≡ t.interrupt → field_of b (o + 4) 4 ≡ timer_flags t → arm_timer_at b o ≡ t
timer_is b o t good interrupt flags =
    let modes = modes_are t.trigger_mode t.polarity t.always_on false good in
    let bits = flag_bits (is_edge t.trigger_mode) (is_low t.polarity) t.always_on false in
    rw (interrupt, flags) (rw (modes.0, modes.1, bits.2) refl)

abbrev el2_fields : ArmTimer → List Field
el2_fields t = U32 t.interrupt ∷ U32 (timer_flags t) ∷ []

module _ (c : GtdtContents) where
  el2_in_body : part (gtdt_body c) 60 8 ≡ fields_bytes (el2_fields c.virtual_el2_timer)
  unfolding gtdt_fields spelling
  el2_in_body = refl

  pub body_long : length (gtdt_body c) ≡ 68 + length (flat_map structure_bytes c.platform_timers.now)
  unfolding gtdt_fields spelling
  body_long = omega arith

module _ (ids : TableIds) (c : GtdtContents) (t : List ℕ) (is : IsGtdt ids c t) where
  -- what each check means
  good : (base_checked c.counter_control_base ≡ Ok tt) × (timer_checked c.secure_el1_timer ≡ Ok tt)
      × (timer_checked c.non_secure_el1_timer ≡ Ok tt) × (timer_checked c.virtual_el1_timer ≡ Ok tt)
      × (timer_checked c.el2_timer ≡ Ok tt) × (base_checked c.counter_read_base ≡ Ok tt)
      × (timer_checked c.virtual_el2_timer ≡ Ok tt) × (all_checked structure_checked c.platform_timers.now ≡ Ok tt)
  good =
      let control = first_good (base_checked c.counter_control_base) _ is.checked in
      let secure = first_good (timer_checked c.secure_el1_timer) _ control.1 in
      let non_secure = first_good (timer_checked c.non_secure_el1_timer) _ secure.1 in
      let virtual = first_good (timer_checked c.virtual_el1_timer) _ non_secure.1 in
      let el2 = first_good (timer_checked c.el2_timer) _ virtual.1 in
      let read = first_good (base_checked c.counter_read_base) _ el2.1 in
      let virtual_el2 = first_good (timer_checked c.virtual_el2_timer) _ read.1 in
      (control.0, secure.0, non_secure.0, virtual.0, el2.0, read.0, virtual_el2.0, virtual_el2.1)

  rest : drop 36 t ≡ gtdt_body c
  rest = table.rest refl is.written

  field : (i : ℕ) → i < length (gtdt_fields c)
      → field_of t (36 + offset_of (gtdt_fields c) i) (field_size (field_at (gtdt_fields c) i))
      ≡ field_value (field_at (gtdt_fields c) i)
  field i less = read_in t (flat_map structure_bytes c.platform_timers.now) 36 (gtdt_fields c) rest is.fit.0 i less

  revision_is : field_of t 8 1 ≡ 3
  unfolding header_at
  revision_is = (table.says refl is.written).revision_is

  all : AllByRecursion IsGood c.platform_timers.now
  all = both_known FitsStructure (λ x. structure_checked x ≡ Ok tt) c.platform_timers.now
      (recursion_from_All FitsStructure c.platform_timers.now is.fit.1)
      (each_good structure_checked c.platform_timers.now good.7)

  count_is : field_of t 88 4 ≡ length c.platform_timers.now
  unfolding gtdt_fields
  count_is =
      let few : length c.platform_timers.now % 2 ^ 32 ≡ length c.platform_timers.now =
      omega (arith, is.written.short, body_long c, structures_many c.platform_timers.now all) in
      field 11 (lit< tt) ∙ few

  offset_is : field_of t 92 4 ≡ 104
  unfolding gtdt_fields
  offset_is = field 12 (lit< tt)

  counted : read.timer_count t ≡ length c.platform_timers.now
  counted = rw (revision_is) count_is

  from_array : read.timer_bytes t ≡ flat_map structure_bytes c.platform_timers.now
  unfolding gtdt_fields spelling
  from_array = ap (λ o. if nat_lt o 96 then [] else drop o t) offset_is ∙ sym (drop-drop 68 36 t) ∙ ap (drop 68) rest

  el2_part : part t 96 8 ≡ fields_bytes (el2_fields c.virtual_el2_timer)
  el2_part = table.part_of refl is.written 60 8 ∙ el2_in_body c

  el2_within : nat_le 104 (length t) ≡ true
  el2_within =
      le-leb 104 (length t) (omega (arith, table.long refl is.written, body_long c))

  shows_read : read_base_of (gtdt_at t) ≡ c.counter_read_base
  unfolding gtdt_at header_at gtdt_fields
  shows_read = rw (revision_is, field 10 (lit< tt)) (base_is c.counter_read_base good.5)

  el2_fit : All FitsField (el2_fields c.virtual_el2_timer)
  unfolding gtdt_fields
  el2_fit = All-from_recursion FitsField (el2_fields c.virtual_el2_timer)
      (is.fit.0 13 (Zeros 0) (lit< tt), (is.fit.0 14 (Zeros 0) (lit< tt), tt))

  shows_el2 : virtual_el2_of (gtdt_at t) ≡ Some c.virtual_el2_timer
  unfolding gtdt_at header_at
  shows_el2 =
      let at = read_at (el2_fields c.virtual_el2_timer) el2_fit in
      rw (offset_is, or-true (field_of t 88 4 == 0), revision_is, el2_within, el2_part)
      (ap (λ (x : ArmTimer). Some x) (timer_is _ 0 c.virtual_el2_timer good.6 (at 0 (lit< tt)) (at 1 (lit< tt))))

  says : SaysTimers c t
  unfolding gtdt_at gtdt_fields
  says = record {
    control = rw (field 0 (lit< tt)) (base_is c.counter_control_base good.0);
    secure_el1 = timer_is t 48 c.secure_el1_timer good.1 (field 2 (lit< tt)) (field 3 (lit< tt));
    non_secure_el1 = timer_is t 56 c.non_secure_el1_timer good.2 (field 4 (lit< tt)) (field 5 (lit< tt));
    virtual_el1 = timer_is t 64 c.virtual_el1_timer good.3 (field 6 (lit< tt)) (field 7 (lit< tt));
    el2 = timer_is t 72 c.el2_timer good.4 (field 8 (lit< tt)) (field 9 (lit< tt));
    read = shows_read;
    virtual_el2 = shows_el2;
    platform = ap (λ n. read.timers_in n (read.timer_bytes t)) counted
        ∙ ap (read.timers_in (length c.platform_timers.now)) from_array ∙ timers_are c.platform_timers.now all;
    whole = ap (λ n. read.missing_in n (read.timer_bytes t)) counted
        ∙ ap (read.missing_in (length c.platform_timers.now)) from_array ∙ none_missing c.platform_timers.now all;
  }

pub gtdt_read : GtdtIsRead
gtdt_read ids c t is = says ids c t is
