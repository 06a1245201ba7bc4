-- What the tables of an Arm machine share: flags, the trigger mode and the polarity of an interrupt in them, and
-- addresses that may be missing.
use Rattle.std.specs.Prelude.{ℕ, ◌+◌, ◌*◌, ◌&&◌, Bool, true, false, nat_lt, Option, Some, None, Result, Ok}
use Rattle.acpi_base.specs.declared.model.interrupt.Polarity.TheVariants as polarity
use Rattle.acpi_base.specs.declared.model.interrupt.TriggerMode.TheVariants as trigger
use Rattle.acpi_table_writer.specs.Table.{bit_of}
use Rattle.acpi_table_writer.specs.Types.{holds, Polarity, TriggerMode, WriterError, NoAddress, SameAsBus}

-- four flags, from bit 0 on
abbrev pub flags_of : Bool → Bool → Bool → Bool → ℕ
flags_of a b c d = bit_of a + 2 * bit_of b + 4 * bit_of c + 8 * bit_of d

-- the flags of a trigger mode and of a polarity

abbrev pub is_edge : TriggerMode → Bool
is_edge trigger.Edge = true
is_edge _ = false

abbrev pub is_low : Polarity → Bool
is_low polarity.ActiveLow = true
is_low _ = false

-- they can't mean that it is as a bus has it

abbrev pub has_trigger : TriggerMode → Bool
has_trigger trigger.SameAsBus = false
has_trigger _ = true

abbrev pub has_polarity : Polarity → Bool
has_polarity polarity.SameAsBus = false
has_polarity _ = true

abbrev pub modes_checked : TriggerMode → Polarity → Result (Unit {0}) WriterError
modes_checked t p = holds (has_trigger t && has_polarity p) SameAsBus

-- all ones mean no address
abbrev pub base_checked : Option ℕ → Result (Unit {0}) WriterError
base_checked (Some address) = holds (nat_lt address 0xffffffffffffffff) NoAddress
base_checked None = Ok tt
