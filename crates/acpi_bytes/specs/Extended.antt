-- Fields that tables have from a revision on, and only if they are long enough.
use Rattle.std.specs.Prelude.{ℕ, ◌+◌, nat_le, List, length, Option, Some, None, if◌then◌else◌, option_map}
use Rattle.acpi_bytes.specs.Bytes.{part}
use Rattle.acpi_bytes.specs.Types.{ExtendedField}

-- the n bytes at an offset, if all of them are in the table
abbrev pub whole_part : List ℕ → ℕ → ℕ → Option (List ℕ)
whole_part bytes offset n =
    if nat_le (offset + n) (length bytes) then Some (part bytes offset n) else None

-- what a table of this revision has, if the field came with revision `least`
abbrev pub field_since : {T : Type 0} → ℕ → ℕ → Option T → Option T
field_since least revision held = if nat_le least revision then held else None

-- the value that a field was made with
abbrev pub held_of : {T : Type 0} {least : ℕ} → ExtendedField T least → Option T
held_of field = field.value

-- what it shows to a table of this revision
abbrev pub shown_of : {T : Type 0} {least : ℕ} → ExtendedField T least → ℕ → Option T
shown_of {least = least} field revision = field_since least revision (held_of field)

-- the field of n bytes at an offset, whose value is what its bytes mean
abbrev pub extended_at : {T : Type 0} {least : ℕ} → (List ℕ → T) → List ℕ → ℕ → ℕ
    → ExtendedField T least
extended_at meaning bytes offset n =
    record { value = option_map meaning (whole_part bytes offset n) }
