-- What numbers an argument encodes.
use Rattle.std.specs.Prelude.{ℕ, ◌&&◌, List, length, drop, nat_eq, nat_le, Option, Some, None, option_and_then, if◌then◌else◌, codes}
use Rattle.acpi_base.specs.FromStd.{is_digit, list_all, starts_with, digits_value}

-- the number that digits of a base encode, the highest first: at least one, and at most that many
abbrev pub numeral : ℕ → ℕ → List ℕ → Option ℕ
numeral base most digits =
    if nat_le 1 (length digits)
    && (nat_le (length digits) most && list_all (λ c. is_digit c base) digits)
    then Some (digits_value base digits)
    else None

-- a revision: one to three decimal digits, at most 255
abbrev pub revision_of : List ℕ → Option ℕ
revision_of argument =
    option_and_then (λ n. if nat_le n 255 then Some n else None) (numeral 10 3 argument)

-- an address: 0x, and one to sixteen hexadecimal digits of either case
abbrev pub address_of : List ℕ → Option ℕ
address_of argument =
    if starts_with nat_eq argument (codes "0x") then numeral 16 16 (drop 2 argument) else None
