-- What a reader finds in a FADT that is written, and when one is.
use Rattle.std.proofs.Common.{◌≡◌, ℕ, zero, suc, ◌+◌, ◌*◌, ◌<◌, true, false, List, [], ◌∷◌, ◌++◌, length, take, drop, get_or, Option, Some, None, Ok, refl, sym, ap, ◌∙◌, arith, lit<, append_assoc, length-append, ◌==◌, nat_le, flat_map, replicate, ok_or, option_map}
use Rattle.acpi_base.proofs.FromStd.{and_parts, drop-drop, drop_at, take_at}
use Rattle.acpi.specs.Types.{Fadt}
use Rattle.acpi_fixed.proofs.Profiles.{profile_read}
use Rattle.acpi_writer.specs.Words.{AllByRecursion, list_all, timer_of, generic_address_of, has_bit, field_of, filled_part, part, spelling, header_at, GenericAddress, AcpiError, InvalidDsdtAddress, InvalidFacsAddress, fadt_at, is_profile, pm_timer_of, profile_for, feature_bits, gpe_of, address_or, block_at, extended_address, extended_number, has_extended, optional_block_of, register_of, timer_block_of, address_fields, address_or_zero, are_blocks, are_placed, arm_flags, body_with, bytes_wide, fadt_body, feature_flags, fixed_of, front_fields, gpe_register, has_address, narrow, pc_flags, registers, wide_fields, AreFitFor, FadtIsRead, HasFields, HasFlags, HasHardware, HasLegacy, HasNeededBlocks, IsFadt, field_at, field_bytes, field_size, field_value, fields_bytes, offset_of, FitsRegister, is_register, register_bytes, FadtContents, FadtHardware, Fixed, Reduced, FixedHardware, TableIds, BadProfile, NoAddress, are_registers, is_block, optional_blocks}
use Rattle.acpi_writer.specs.Fadt.{IsReadAs}
use Rattle.acpi_base.proofs.Words.{holds_ok}
use Rattle.acpi_table_writer.proofs.Bits.{flags_read, is_off, was_true}
use Rattle.acpi_table_writer.proofs.FieldsRead.{each_long, part_in, part_of, read_in}
use Rattle.acpi_writer.proofs.RegisterRead.{block_is, block_read, filled, given_read, gpe_read, made, optional_read, register_long, register_read, timer_read}
use Rattle.acpi_table_writer.proofs.Tables as table

-- ---- values

address_read : (e : AcpiError) (wide less : ℕ) → (wide == 0) ≡ false → address_or e wide less ≡ Ok wide
address_read e wide less some = rw some (rw some refl)

facs_read : (o : Option ℕ) → has_address o ≡ true
    → address_or InvalidFacsAddress (address_or_zero o) (narrow (address_or_zero o)) ≡ ok_or o InvalidFacsAddress
facs_read None is = refl
facs_read (Some a) is = address_read InvalidFacsAddress a (narrow a) (is_off _ is)

-- the blocks that a machine need not have
abbrev AreBlocks : List (Option GenericAddress) → Type 0
AreBlocks blocks = AllByRecursion (λ block. is_block block ≡ true) blocks

each_block : (blocks : List (Option GenericAddress)) → list_all is_block blocks ≡ true → AreBlocks blocks
each_block [] all = tt
each_block (block ∷ blocks) all =
    let p = and_parts (is_block block) (list_all is_block blocks) all in
    (p.0, each_block blocks p.1)

blocks_of : (hardware : FadtHardware) → are_blocks hardware ≡ true
    → AreBlocks (optional_blocks (fixed_of hardware)) × (is_register (fixed_of hardware).pm_timer ≡ true)
blocks_of Reduced is = (each_block (optional_blocks (fixed_of Reduced)) refl, refl)
blocks_of (Fixed h) is =
    let p = and_parts _ _ is in
    ((each_block (Some h.pm1a_event ∷ Some h.pm1a_control ∷ optional_blocks h) p.1).1.1, p.0)

-- the blocks that fixed hardware has
needed_of : (hardware : FadtHardware) (f : Fadt) → are_blocks hardware ≡ true
    → FitsRegister (Some (fixed_of hardware).pm1a_event) → FitsRegister (Some (fixed_of hardware).pm1a_control)
    → f.registers.pm1a_event ≡ made (bytes_wide (Some (fixed_of hardware).pm1a_event))
    (Some (fixed_of hardware).pm1a_event)
    → f.registers.pm1a_control ≡ made (bytes_wide (Some (fixed_of hardware).pm1a_control))
    (Some (fixed_of hardware).pm1a_control)
    → HasNeededBlocks hardware f
needed_of Reduced f is event control e k = tt
needed_of (Fixed h) f is event control e k =
    let are = each_block (Some h.pm1a_event ∷ Some h.pm1a_control ∷ optional_blocks h) (and_parts _ _ is).1 in
    record {
      pm1a_event = rw e (block_read (bytes_wide (Some h.pm1a_event)) h.pm1a_event event are.0);
      pm1a_control = rw k (block_read (bytes_wide (Some h.pm1a_control)) h.pm1a_control control are.1.0);
    }

timer_by : (f : Fadt) (c : FadtContents) (o : Option GenericAddress) → pm_timer_of f ≡ Ok o
    → has_bit (feature_bits f.flags) 8 ≡ c.features.pm_timer_is_32_bit
    → timer_of f ≡ Ok (option_map (λ b. record { base = b; supports_32bit = c.features.pm_timer_is_32_bit }) o)
timer_by f c None e flag = rw e refl
timer_by f c (Some b) e flag = rw (e, flag) refl

-- ---- the registers at its end

register_in : (os : List (Option GenericAddress)) (rest : List ℕ) (i : ℕ) → i < length os
    → part (flat_map register_bytes os ++ rest) (12 * i) 12 ≡ register_bytes (get_or os i None)
register_in [] rest i less = absurd (omega arith)
register_in (o ∷ os) rest zero less =
    ap (take 12) (append_assoc (register_bytes o) (flat_map register_bytes os) rest)
    ∙ take_at (register_bytes o) (flat_map register_bytes os ++ rest) 12 (register_long o)
register_in (o ∷ os) rest (suc i) less =
    let more = flat_map register_bytes os ++ rest in
    let past : drop 12 (flat_map register_bytes (o ∷ os) ++ rest) ≡ more =
    ap (drop 12) (append_assoc (register_bytes o) (flat_map register_bytes os) rest)
    ∙ drop_at (register_bytes o) more 12 (register_long o) in
    let place : 12 * suc i ≡ 12 + 12 * i = omega arith in
    rw place (part_in (flat_map register_bytes (o ∷ os) ++ rest) more 12 past (12 * i) 12
    ∙ register_in os rest i (omega arith))

module _ (c : FadtContents) (h : FixedHardware) where
  abbrev last : List ℕ
  last = flat_map register_bytes (registers c h) ++ replicate 8 0

  abbrev after_reset : List ℕ
  after_reset = fields_bytes (wide_fields c) ++ last

  abbrev after_front : List ℕ
  after_front = register_bytes c.reset_register ++ after_reset

  pub body_long : length (body_with c h) ≡ 240
  unfolding front_fields wide_fields address_fields spelling
  body_long = omega (
    arith,
    length-append (flat_map register_bytes (registers c h)) (replicate 8 0),
    each_long register_bytes 12 register_long (registers c h),
  )

-- ---- a table with these bytes after its header

module _ (c : FadtContents) (h : FixedHardware) (t : List ℕ) (from36 : drop 36 t ≡ body_with c h)
    (long : length t ≡ 276) (revision : field_of t 8 1 ≡ 6) (fit : AreFitFor c h) where
  has : (o n : ℕ) → nat_le (o + n) 276 ≡ true → has_extended t o n ≡ true
  has o n within = rw (revision, long, within) refl

  number_has : (o : ℕ) → nat_le (o + 8) 276 ≡ true → extended_number t o ≡ field_of t o 8
  number_has o within = rw (has o 8 within) refl

  from116 : drop 116 t ≡ after_front c h
  unfolding front_fields spelling
  from116 = sym (drop-drop 80 36 t) ∙ ap (drop 80) from36

  from128 : drop 128 t ≡ after_reset c h
  unfolding address_fields spelling
  from128 = sym (drop-drop 12 116 t) ∙ ap (drop 12) from116

  from148 : drop 148 t ≡ last c h
  unfolding wide_fields spelling
  from148 = sym (drop-drop 20 128 t) ∙ ap (drop 20) from128

  -- a field before RESET_REG, and its bytes
  front : (i : ℕ) → i < length (front_fields c h)
      → field_of t (36 + offset_of (front_fields c h) i) (field_size (field_at (front_fields c h) i))
      ≡ field_value (field_at (front_fields c h) i)
  front i less = read_in t (after_front c h) 36 (front_fields c h) from36 fit.0 i less

  port : (i : ℕ) → i < length (front_fields c h)
      → part t (36 + offset_of (front_fields c h) i) (field_size (field_at (front_fields c h) i))
      ≡ field_bytes (field_at (front_fields c h) i)
  port i less = part_of t (after_front c h) 36 (front_fields c h) from36 i less

  wide : (i : ℕ) → i < length (wide_fields c)
      → field_of t (128 + offset_of (wide_fields c) i) (field_size (field_at (wide_fields c) i))
      ≡ field_value (field_at (wide_fields c) i)
  wide i less = read_in t (last c h) 128 (wide_fields c) from128 fit.1.1.0 i less

  register : (i : ℕ) → i < 10 → part t (148 + 12 * i) 12 ≡ register_bytes (get_or (registers c h) i None)
  register i less = part_in t (last c h) 148 from148 (12 * i) 12 ∙ register_in (registers c h) (replicate 8 0) i less

  -- a block, by the places of its length and of its port among the fields, and of its register among those
  pm1a_event_is : block_at t 56 88 148 ≡ made (bytes_wide (Some h.pm1a_event)) (Some h.pm1a_event)
  unfolding front_fields
  pm1a_event_is = block_is t 56 88 148 _ (Some h.pm1a_event) (front 18 (lit< tt)) (port 10 (lit< tt)) (has 148 12 refl)
      (register 0 (lit< tt))

  pm1a_control_is : block_at t 64 89 172 ≡ made (bytes_wide (Some h.pm1a_control)) (Some h.pm1a_control)
  unfolding front_fields
  pm1a_control_is = block_is t 64 89 172 _ (Some h.pm1a_control) (front 19 (lit< tt)) (port 12 (lit< tt))
      (has 172 12 refl) (register 2 (lit< tt))

  reset_is : filled_part t 116 12 ≡ register_bytes c.reset_register
  reset_is =
      filled 12 t (register_bytes c.reset_register) 116
      (ap (take 12) from116 ∙ take_at (register_bytes c.reset_register) (after_reset c h) 12
      (register_long c.reset_register))
      (register_long c.reset_register)

  -- the registers for sleep, which have no other fields
  sleep : (i : ℕ) → i < 10 → nat_le (148 + 12 * i + 12) 276 ≡ true
      → extended_address t (148 + 12 * i) ≡ Some (register_bytes (get_or (registers c h) i None))
  sleep i less within =
      rw (has (148 + 12 * i) 12 within)
      (rw (filled 12 t _ (148 + 12 * i) (register i less) (register_long (get_or (registers c h) i None))) refl)

  flags_are : HasFlags c (fadt_at t)
  unfolding fadt_at front_fields wide_fields
  flags_are = record {
    features = λ k. ap (λ n. has_bit n k) (front 37 (lit< tt)) ∙ flags_read (feature_flags c) k;
    pc = λ k. ap (λ n. has_bit n k) (front 35 (lit< tt)) ∙ flags_read (pc_flags c.pc_boot) k;
    arm = λ k. ap (λ n. has_bit n k) (wide 1 (lit< tt)) ∙ flags_read (arm_flags c.arm_boot) k;
  }

  legacy_is : HasLegacy c.legacy (fadt_at t)
  unfolding fadt_at front_fields
  legacy_is = record {
    c2 = front 26 (lit< tt);
    c3 = front 27 (lit< tt);
    size = front 28 (lit< tt);
    stride = front 29 (lit< tt);
    duty_offset = front 30 (lit< tt);
    duty_width = front 31 (lit< tt);
    day = front 32 (lit< tt);
    month = front 33 (lit< tt);
    century = front 34 (lit< tt);
  }

  fields_are : are_placed c ≡ true → is_profile c.power_profile ≡ true → is_register c.reset_register ≡ true
      → is_register c.sleep_control ≡ true → is_register c.sleep_status ≡ true
      → FitsRegister c.sleep_control → FitsRegister c.sleep_status → HasFields c (fadt_at t)
  unfolding fadt_at front_fields wide_fields
  fields_are placed profile reset control status u v =
      let p = and_parts _ _ placed in
      record {
        dsdt = rw (number_has 140 refl, wide 4 (lit< tt), front 1 (lit< tt))
            (address_read InvalidDsdtAddress c.dsdt (narrow c.dsdt) (is_off _ p.0));
        facs = rw (number_has 132 refl, wide 3 (lit< tt), front 0 (lit< tt)) (facs_read c.facs p.1);
        profile = ap profile_for (front 3 (lit< tt)) ∙ profile_read c.power_profile profile;
        sci = front 4 (lit< tt);
        reset_register = ap generic_address_of reset_is ∙ given_read c.reset_register fit.1.0 reset;
        reset_value = wide 0 (lit< tt);
        sleep_control = ap register_of (sleep 8 (lit< tt) refl) ∙ register_read c.sleep_control u control;
        sleep_status = ap register_of (sleep 9 (lit< tt) refl) ∙ register_read c.sleep_status v status;
      }

  hardware_is : AreBlocks (optional_blocks h) × (is_register h.pm_timer ≡ true) → HasHardware h (fadt_at t)
  unfolding fadt_at front_fields
  hardware_is are =
      let fits = λ (i : ℕ) (less : i < 10). fit.1.1.1.0 i None less in
      record {
        smi = front 5 (lit< tt);
        enable = front 6 (lit< tt);
        disable = front 7 (lit< tt);
        s4 = front 8 (lit< tt);
        performance = front 9 (lit< tt);
        c_state = front 25 (lit< tt);
        pm1b_event =
            ap optional_block_of (block_is t 60 88 160 _ h.pm1b_event (front 18 (lit< tt)) (port 11 (lit< tt))
            (has 160 12 refl) (register 1 (lit< tt))) ∙ optional_read _ h.pm1b_event (fits 1 (lit< tt)) are.0.0;
        pm1b_control =
            ap optional_block_of (block_is t 68 89 184 _ h.pm1b_control (front 19 (lit< tt)) (port 13 (lit< tt))
            (has 184 12 refl) (register 3 (lit< tt))) ∙ optional_read _ h.pm1b_control (fits 3 (lit< tt)) are.0.1.0;
        pm2_control =
            ap optional_block_of (block_is t 72 90 196 _ h.pm2_control (front 20 (lit< tt)) (port 14 (lit< tt))
            (has 196 12 refl) (register 4 (lit< tt))) ∙ optional_read _ h.pm2_control (fits 4 (lit< tt)) are.0.1.1.0;
        pm_timer =
            ap timer_block_of (block_is t 76 91 208 _ h.pm_timer (front 21 (lit< tt)) (port 15 (lit< tt))
            (has 208 12 refl) (register 5 (lit< tt))) ∙ timer_read h.pm_timer (fits 5 (lit< tt)) are.1;
        gpe0 =
            ap gpe_of (block_is t 80 92 220 _ (gpe_register h.gpe0) (front 22 (lit< tt)) (port 16 (lit< tt))
            (has 220 12 refl) (register 6 (lit< tt))) ∙ gpe_read h.gpe0 (fits 6 (lit< tt)) are.0.1.1.1.0;
        gpe1 =
            ap gpe_of (block_is t 84 93 232 _ (gpe_register h.gpe1) (front 23 (lit< tt)) (port 17 (lit< tt))
            (has 232 12 refl) (register 7 (lit< tt))) ∙ gpe_read h.gpe1 (fits 7 (lit< tt)) are.0.1.1.1.1.0;
        gpe1_base = front 24 (lit< tt);
      }

module _ (ids : TableIds) (c : FadtContents) (t : List ℕ) (is : IsFadt ids c t) where
  passed : (are_placed c ≡ true) × (is_profile c.power_profile ≡ true) × (are_registers c ≡ true)
  passed =
      let one = holds_ok (are_placed c) NoAddress _ tt is.checked in
      let two = holds_ok (is_profile c.power_profile) BadProfile _ tt one.1 in
      (one.0, two.0, was_true _ _ two.1)

  abbrev from36 : drop 36 t ≡ fadt_body c
  from36 = table.rest refl is.written

  long_is : length t ≡ 276
  long_is = table.long refl is.written ∙ ap (λ n. 36 + n) (body_long c (fixed_of c.hardware))

  revision_is : field_of t 8 1 ≡ 6
  unfolding header_at
  revision_is = (table.says refl is.written).revision_is

  blocks_are : HasNeededBlocks c.hardware (fadt_at t)
  unfolding fadt_at
  blocks_are =
      let h = fixed_of c.hardware in
      let p = and_parts _ _ passed.2 in
      needed_of c.hardware (fadt_at t) p.0 (is.fit.1.1.1.0 0 None (lit< tt)) (is.fit.1.1.1.0 2 None (lit< tt))
      (pm1a_event_is c h t from36 long_is revision_is is.fit)
      (pm1a_control_is c h t from36 long_is revision_is is.fit)

  read_is : IsReadAs c (fadt_at t)
  read_is =
      let h = fixed_of c.hardware in
      let p = and_parts _ _ passed.2 in
      let q = and_parts _ _ p.1 in
      let r = and_parts _ _ q.1 in
      record {
        fields = fields_are c h t from36 long_is revision_is is.fit passed.0 passed.1 q.0 r.0 r.1
            (is.fit.1.1.1.0 8 None (lit< tt)) (is.fit.1.1.1.0 9 None (lit< tt));
        flags = flags_are c h t from36 long_is revision_is is.fit;
        legacy = legacy_is c h t from36 long_is revision_is is.fit;
        hardware = hardware_is c h t from36 long_is revision_is is.fit (blocks_of c.hardware p.0);
        blocks = blocks_are;
        timer = timer_by (fadt_at t) c h.pm_timer
            (hardware_is c h t from36 long_is revision_is is.fit (blocks_of c.hardware p.0)).pm_timer
            ((flags_are c h t from36 long_is revision_is is.fit).features 8);
      }

pub fadt_read : FadtIsRead
fadt_read ids c t is = read_is ids c t is
