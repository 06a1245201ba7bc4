-- What a reader finds of a register that is written.
use Rattle.std.proofs.Common.{◌≡◌, ℕ, ◌<◌, true, false, List, length, lit<, Option, Some, None, Ok, refl, ◌==◌, if◌then◌else◌, zero, suc, arith, ◌-◌, ◌*◌, nat_le, nat_lt}
use Rattle.acpi_base.proofs.FromStd.{and_parts, append-nil, ne_eqb}
use Rattle.acpi_base.proofs.Words.{size_read, space_read}
use Rattle.acpi_writer.specs.Words.{generic_address_of, is_named_space, space_code, field_of, filled_part, part, spelling, GenericAddress, RegisterBlock, GpeBlock, gpe_of, block_at, block_of, has_extended, optional_block_of, register_of, timer_block_of, usable_extended, gpe_length, gpe_register, is_given, port_of, FitsAddress, FitsRegister, address_bytes, address_fields, is_register, register_bytes, register_or_zeros, field_at, field_size, field_value, offset_of, is_block}
use Rattle.acpi_table_writer.proofs.Bits.{is_off}
use Rattle.acpi_table_writer.proofs.FieldsRead.{read_at}

-- ---- its bytes

module _ (g : GenericAddress) (fits : FitsAddress g) where
  field : (i : ℕ) → i < length (address_fields g)
      → field_of (address_bytes g) (offset_of (address_fields g) i) (field_size (field_at (address_fields g) i))
      ≡ field_value (field_at (address_fields g) i)
  field i less = read_at (address_fields g) fits i less

  pub address_field : field_of (address_bytes g) 4 8 ≡ g.address
  unfolding address_fields
  address_field = field 4 (lit< tt)

  space_field : field_of (address_bytes g) 0 1 ≡ space_code g.address_space
  unfolding address_fields
  space_field = field 0 (lit< tt)

  pub address_read : is_named_space g.address_space ≡ true → generic_address_of (address_bytes g) ≡ Ok g
  unfolding generic_address_of address_fields
  address_read named =
      rw (field 0 (lit< tt), field 1 (lit< tt), field 2 (lit< tt), field 3 (lit< tt), field 4 (lit< tt))
      (rw (space_read g.address_space named, size_read g.access_size) refl)

  usable : (g.address == 0) ≡ false → usable_extended (address_bytes g) ≡ Some (address_bytes g)
  usable some = rw (address_field, some) refl

-- ---- blocks

-- the block whose register this is
abbrev pub made : ℕ → Option GenericAddress → RegisterBlock
made size o = record { size = size; port = spelling 4 (port_of o); extended = register_bytes o }

pub block_read : (size : ℕ) (g : GenericAddress) → FitsAddress g → is_block (Some g) ≡ true
    → block_of (made size (Some g)) ≡ Ok g
block_read size g fits is =
    let p = and_parts _ _ (and_parts _ _ is).0 in
    rw (usable g fits (is_off _ p.0)) (address_read g fits p.1)

given_block : (size : ℕ) (g : GenericAddress) → FitsAddress g → is_register (Some g) ≡ true
    → optional_block_of (made size (Some g)) ≡ Ok (Some g)
unfolding address_fields field_of spelling
given_block size g fits is =
    let p = and_parts _ _ is in
    rw (usable g fits (is_off _ p.0), address_read g fits p.1) refl

pub optional_read : (size : ℕ) (o : Option GenericAddress) → FitsRegister o → is_block o ≡ true
    → optional_block_of (made size o) ≡ Ok o
unfolding address_fields field_of spelling
optional_read size None fits is = refl
optional_read size (Some g) fits is = given_block size g fits (and_parts _ _ is).0

pub timer_read : (o : Option GenericAddress) → FitsRegister o → is_register o ≡ true
    → timer_block_of (made (if is_given o then 4 else 0) o) ≡ Ok o
unfolding address_fields field_of spelling
timer_read None fits is = refl
timer_read (Some g) fits is = given_block 4 g fits is

some_bytes : (n : ℕ) → nat_le 8 (if nat_lt n 32 then 8 * n else 255) ≡ true → (n == 0) ≡ false
some_bytes zero h = absurd cc
some_bytes (suc n) h = ne_eqb (suc n) 0 (omega arith)

pub gpe_read : (o : Option GpeBlock) → FitsRegister (gpe_register o) → is_block (gpe_register o) ≡ true
    → gpe_of (made (gpe_length o) (gpe_register o)) ≡ Ok o
gpe_read None fits is = refl
gpe_read (Some b) fits is =
    let g = register_or_zeros (gpe_register (Some b)) in
    let both = and_parts _ _ is in
    let p = and_parts _ _ both.0 in
    rw (some_bytes b.byte_length both.1, usable g fits (is_off _ p.0), space_field g)
    (rw (address_field g fits, space_read b.space p.1) refl)

pub given_read : (o : Option GenericAddress) → FitsRegister o → is_register o ≡ true
    → generic_address_of (register_bytes o) ≡ Ok (register_or_zeros o)
given_read None fits is = address_read (register_or_zeros None) fits refl
given_read (Some g) fits is =
    let p = and_parts _ _ is in
    address_read g fits p.1

pub register_read : (o : Option GenericAddress) → FitsRegister o → is_register o ≡ true
    → register_of (Some (register_bytes o)) ≡ Ok (Some (register_or_zeros o))
register_read o fits is = rw (given_read o fits is) refl

-- ---- where a table has them

pub filled : (n : ℕ) (t x : List ℕ) (o : ℕ) → part t o n ≡ x → length x ≡ n → filled_part t o n ≡ x
filled n t x o e long =
    let none : n - n ≡ 0 = omega arith in
    rw (e, long, none) (append-nil x)

pub register_long : (o : Option GenericAddress) → length (register_bytes o) ≡ 12
unfolding address_fields spelling
register_long o = refl

port_long : (n : ℕ) → length (spelling 4 n) ≡ 4
unfolding spelling
port_long n = refl

pub block_is : (t : List ℕ) (address size extended s : ℕ) (o : Option GenericAddress) → field_of t size 1 ≡ s
    → part t address 4 ≡ spelling 4 (port_of o) → has_extended t extended 12 ≡ true
    → part t extended 12 ≡ register_bytes o
    → block_at t address size extended ≡ made s o
unfolding block_at
block_is t address size extended s o e p has x =
    rw (e, filled 4 t (spelling 4 (port_of o)) address p (port_long (port_of o)), has)
    (rw (filled 12 t (register_bytes o) extended x (register_long o)) refl)
