-- What a reader finds in an SPCR that is written, and when one is.
use Rattle.std.proofs.Common.{◌≡◌, ℕ, ◌+◌, ◌-◌, ◌%◌, ◌^◌, ◌<◌, Bool, true, false, List, [], ◌∷◌, ◌++◌, length, take, drop, Option, Some, None, Result, Ok, refl, sym, ap, ◌∙◌, arith, length-append, ◌==◌, ◌&&◌, if◌then◌else◌, nat_le, replicate, option_map, bytes_eq, lit<}
use Rattle.acpi_base.proofs.FromStd.{and_parts, eqb-true, le-leb, ltb-true, drop-drop, take_all, bytes_eq-Decides, IsUtf8-append, IsUtf8-from_is_utf8, is_utf8-from_IsUtf8, All-from_recursion}
use Rattle.acpi_writer.specs.Words.{option_or, chars, is_utf8, generic_address_of, field_of, filled_part, part, spelling, header_at, configured_baud, interface_of, is_interface, namespace_of, spcr_at, unless, bits_of, has_bit, interrupt_bits, GenericAddress, AcpiError, FitsAddress, FitsRegister, address_bytes, address_fields, register_or_zeros, baud_code, device_written, fixed_list, is_base, is_somewhere, spcr_body, spcr_fields, IsSpcr, SaysConsole, SaysDevice, SaysPort, SpcrIsRead, readable, BadCode, NoAddress, TableIds, SpcrContents, FitsField, field_at, field_size, field_value, offset_of, Zeros}
use Rattle.acpi_base.proofs.Words.{holds_ok, interface_read}
use Rattle.acpi_table_writer.proofs.Bits.{is_off, was_true}
use Rattle.acpi_table_writer.proofs.FieldsRead.{read_in}
use Rattle.acpi_writer.proofs.RegisterRead.{address_field, address_read}
use Rattle.acpi_table_writer.proofs.Tables as table

-- ---- the rate

baud_by : (rate : ℕ) (none : Bool) → (rate == 0) ≡ none
    → option_or (unless 0 rate) (configured_baud (baud_code rate)) ≡ unless 0 rate
baud_by rate true e = rw (eqb-true rate 0 e) refl
baud_by rate false e = rw e refl

-- ---- interrupts

abbrev some_number : ℕ → Option ℕ
some_number n = Some n

irq_kept : (has : Bool) (n : ℕ) → (if has then some_number (if has then n else 0) else None)
    ≡ (if has then Some n else None)
irq_kept true n = refl
irq_kept false n = refl

interrupt_kept : (none : Bool) (n : ℕ) → (if none then None else some_number (if none then 0 else n))
    ≡ (if none then None else Some n)
interrupt_kept true n = refl
interrupt_kept false n = refl

-- ---- the base address

all_zeros : field_of (replicate 12 0) 4 8 ≡ 0
unfolding field_of
all_zeros = refl

some_base : (zeros : Bool) (a : GenericAddress) → bytes_eq (address_bytes a) (replicate 12 0) ≡ zeros → FitsAddress a
    → (a.address == 0) ≡ false → zeros ≡ false
some_base false a e h somewhere = refl
some_base true a e h somewhere =
    let same : address_bytes a ≡ replicate 12 0 = (bytes_eq-Decides (address_bytes a) (replicate 12 0)).0 e in
    let zero : a.address ≡ 0 = sym (address_field a h) ∙ ap (λ b. field_of b 4 8) same ∙ all_zeros in
    let is : (a.address == 0) ≡ true = ap (λ n. n == 0) zero in
    cc

abbrev base_found : List ℕ → Option (Result GenericAddress AcpiError)
base_found raw = if bytes_eq raw (replicate 12 0) then None else Some (generic_address_of raw)

no_base : base_found (address_bytes (register_or_zeros None)) ≡ None
unfolding address_fields spelling
no_base = refl

base_by : (o : Option GenericAddress) → FitsRegister o → is_base o ≡ true → is_somewhere o ≡ true
    → base_found (address_bytes (register_or_zeros o)) ≡ option_map readable o
base_by None h own somewhere = no_base
base_by (Some a) h own somewhere =
    rw (some_base (bytes_eq (address_bytes a) (replicate 12 0)) a refl h (is_off (a.address == 0) somewhere))
    (rw (address_read a h own) refl)

filled : (a : GenericAddress) → address_bytes a ++ replicate (12 - length (address_bytes a)) 0 ≡ address_bytes a
unfolding address_fields spelling
filled a = refl

-- ---- the table

module _ (c : SpcrContents) where
  base_in : part (spcr_body c) 4 12 ≡ address_bytes (register_or_zeros c.base_address)
  unfolding fixed_list address_fields spelling
  base_in = refl

  after_fields : drop 52 (spcr_body c) ≡ c.namespace_string.now ++ (0 ∷ [])
  unfolding fixed_list spelling
  after_fields = refl

  pub body_long : length (spcr_body c) ≡ 53 + length c.namespace_string.now
  unfolding fixed_list spelling
  body_long = omega (arith, length-append c.namespace_string.now (0 ∷ []))

zero_ends : is_utf8 (0 ∷ []) ≡ true
unfolding is_utf8 chars lib.Utf8.encode
zero_ends = refl

module _ (ids : TableIds) (c : SpcrContents) (t : List ℕ) (is : IsSpcr ids c t) where
  passed : (is_interface c.interface_type ≡ true) × (is_base c.base_address ≡ true)
      × (is_somewhere c.base_address ≡ true) × (length c.namespace_string.now < 0xffff)
  passed =
      let one = holds_ok (is_interface c.interface_type && is_base c.base_address) BadCode _ tt is.checked in
      let two = holds_ok (is_somewhere c.base_address) NoAddress _ tt one.1 in
      let codes = and_parts (is_interface c.interface_type) (is_base c.base_address) one.0 in
      (codes.0, codes.1, two.0, ltb-true (length c.namespace_string.now) 0xffff (was_true _ _ two.1))

  rest : drop 36 t ≡ spcr_body c
  rest = table.rest refl is.written

  revision : (header_at t).revision ≡ 4
  revision = (table.says refl is.written).revision_is

  raw : filled_part t 40 12 ≡ address_bytes (register_or_zeros c.base_address)
  raw =
      let found : part t 40 12 ≡ address_bytes (register_or_zeros c.base_address) =
      table.part_of refl is.written 4 12 ∙ base_in c in
      ap (λ p. p ++ replicate (12 - length p) 0) found ∙ filled (register_or_zeros c.base_address)

  -- a field, by its place among them
  at_place : (i : ℕ) → i < length (spcr_fields c)
      → field_of t (36 + offset_of (spcr_fields c) i) (field_size (field_at (spcr_fields c) i))
      ≡ field_value (field_at (spcr_fields c) i)
  at_place i less = read_in t (c.namespace_string.now ++ (0 ∷ [])) 36 (spcr_fields c) rest is.fit.0 i less

  address_fits : FitsRegister c.base_address
  unfolding fixed_list address_fields
  address_fits =
      let fits = λ (i : ℕ) (less : i < 27). is.fit.0 i (Zeros 0) less in
      All-from_recursion FitsField (address_fields (register_or_zeros c.base_address))
      (fits 2 (lit< tt), (fits 3 (lit< tt), (fits 4 (lit< tt), (fits 5 (lit< tt), (fits 6 (lit< tt), tt)))))

  port : SaysPort c (spcr_at t)
  unfolding spcr_at fixed_list
  port =
      let kind = at_place 7 (lit< tt) in
      record {
        interface_type = ap interface_of (at_place 0 (lit< tt)) ∙ interface_read c.interface_type passed.0;
        base_address = ap base_found raw ∙ base_by c.base_address address_fits passed.1 passed.2;
        interrupt_type = kind;
        irq = rw (kind, at_place 8 (lit< tt)) (irq_kept (has_bit (interrupt_bits c.interrupt_type) 0) c.irq);
        global_system_interrupt =
            rw (kind, at_place 9 (lit< tt))
            (interrupt_kept (bits_of (interrupt_bits c.interrupt_type) 1 4 == 0) c.global_system_interrupt);
        baud_rate = rw (at_place 24 (lit< tt), at_place 10 (lit< tt)) (baud_by c.baud_rate (c.baud_rate == 0) refl);
        parity = at_place 11 (lit< tt);
        stop_bits = at_place 12 (lit< tt);
        flow_control = at_place 13 (lit< tt);
        terminal_type = at_place 14 (lit< tt);
        language = at_place 15 (lit< tt);
        uart_clock_frequency = rw (revision, at_place 23 (lit< tt)) refl;
      }

  device : SaysDevice (device_written c.pci_device) (spcr_at t)
  unfolding spcr_at fixed_list
  device = record {
    device_id = ap (unless 0xffff) (at_place 16 (lit< tt));
    vendor_id = ap (unless 0xffff) (at_place 17 (lit< tt));
    bus = ap (unless 0) (at_place 18 (lit< tt));
    device = ap (unless 0) (at_place 19 (lit< tt));
    function = ap (unless 0) (at_place 20 (lit< tt));
    flags = at_place 21 (lit< tt);
    segment = at_place 22 (lit< tt);
  }

  abbrev name : List ℕ
  name = c.namespace_string.now ++ (0 ∷ [])

  name_text : is_utf8 name ≡ true
  name_text = is_utf8-from_IsUtf8 name (IsUtf8-append c.namespace_string.now (0 ∷ []) is.fit.1
      (IsUtf8-from_is_utf8 (0 ∷ []) zero_ends))

  name_in : part t 88 (length c.namespace_string.now + 1) ≡ name
  name_in =
      ap (take (length c.namespace_string.now + 1)) (sym (drop-drop 52 36 t) ∙ ap (drop 52) rest ∙ after_fields c)
      ∙ take_all (length c.namespace_string.now + 1) name (omega (arith, length-append c.namespace_string.now (0 ∷ [])))

  within : nat_le (88 + (length c.namespace_string.now + 1)) (length t) ≡ true
  within = le-leb _ _ (omega (arith, table.long refl is.written, body_long c))

  named : namespace_of t ≡ Ok name
  unfolding spcr_at fixed_list
  named =
      let short : (length c.namespace_string.now + 1) % 2 ^ 16 ≡ length c.namespace_string.now + 1 =
      omega (arith, passed.3) in
      rw (at_place 26 (lit< tt), at_place 25 (lit< tt), short, within, name_in, name_text) refl

  says : SaysConsole c t
  says = record { port = port; device = device; name = named }

pub spcr_read : SpcrIsRead
spcr_read ids c t is = says ids c t is
