-- The text of acpidump: for each table a heading, `FACP @ 0x00000000BFFE0000`, and rows of its bytes,
-- `    0010: 42 4F 43 48 ..`, up to a blank line. And that of the UEFI shell's acpiview: for each table
-- `Address  : 0xBFFE0000`, `Length   : 244`, a blank line, rows like `00000010 : 42 4F 43 48 .. - ..`, a blank line,
-- and what it says of the fields.
use Rattle.std.specs.Prelude.{ℕ, ◌+◌, ◌*◌, ◌==◌, Bool, true, ◌&&◌, ◌||◌, if◌then◌else◌, zero, suc, codes, is_some, nat_eq, List, [], ◌∷◌, ◌++◌, length, drop, Option, Some, None, option_map, option_and_then, Result, Ok, Err}
use Rattle.acpi_base.specs.FromStd.{digit_value, is_digit, after_first, before_first, starts_with, trim, trim_start}
use Rattle.acpi_cli.specs.Numbers.{address_of, numeral}

-- the lines of a text: what comes before each line feed, and after the last one if that isn't the end
abbrev pub onto_first : ℕ → List (List ℕ) → List (List ℕ)
onto_first c [] = (c ∷ []) ∷ []
onto_first c (line ∷ lines) = (c ∷ line) ∷ lines

unfoldable pub lines_of : List ℕ → List (List ℕ)
lines_of [] = []
lines_of (c ∷ text) = if c == 10 then [] ∷ lines_of text else onto_first c (lines_of text)

-- ---- a row

-- what ends a pair of digits, or is in place of one: a space, or the carriage return before a line feed
abbrev pub is_gap : ℕ → Bool
is_gap c = c == 32 || c == 13

abbrev pub begins_with_gap : List ℕ → Bool
begins_with_gap [] = true
begins_with_gap (c ∷ text) = is_gap c

-- the byte that two hexadecimal digits spell, the higher first
unfoldable pub byte_of : ℕ → ℕ → Option ℕ
byte_of high low =
    if is_digit high 16 && is_digit low 16 then Some (digit_value high * 16 + digit_value low) else None

-- the byte of the pair that a text begins with, and what comes after it and its gap
abbrev pub first_pair : List ℕ → Option (ℕ × List ℕ)
first_pair [] = None
first_pair (high ∷ []) = None
first_pair (high ∷ low ∷ []) = option_map (λ b. (b, [])) (byte_of high low)
first_pair (high ∷ low ∷ gap ∷ text) =
    if is_gap gap then option_map (λ b. (b, text)) (byte_of high low) else None

-- the pairs that are left, less the dash that acpiview has before the last eight
abbrev pub after_dash : ℕ → List ℕ → List ℕ
after_dash n [] = []
after_dash n (c ∷ []) = c ∷ []
after_dash n (c ∷ d ∷ text) = if n == 8 && c == 45 && d == 32 then text else c ∷ d ∷ text

-- bytes, and those that at most n pairs spell, up to a gap in place of a pair or the end
unfoldable pub with_pairs : ℕ → List ℕ → List ℕ → Option (List ℕ)
with_pairs zero bytes text = Some bytes
with_pairs (suc n) bytes text =
    if begins_with_gap (after_dash (suc n) text) then Some bytes
    else option_and_then (λ p. with_pairs n (bytes ++ p.0 ∷ []) p.1) (first_pair (after_dash (suc n) text))

-- a row: the offset, one to eight hexadecimal digits, after which acpiview has one space, and what comes after a colon
-- and a space
abbrev pub after_space : List ℕ → Option (List ℕ)
after_space text = if starts_with nat_eq text (codes " ") then Some (drop 1 text) else None

unfoldable pub offset_of : List ℕ → Option ℕ
offset_of text =
    if length (after_first (λ c. c == 32) text) == 0 then numeral 16 8 (before_first (λ c. c == 32) text) else None

unfoldable pub row_of : List ℕ → Option (ℕ × List ℕ)
row_of line =
    option_and_then (λ offset. option_map (λ pairs. (offset, pairs)) (after_space (after_first (λ c. c == 58) line)))
    (offset_of (trim_start (before_first (λ c. c == 58) line)))

-- ---- tables

-- the address in a heading, after acpiview's label or an `@`
abbrev pub after_label : List ℕ → List ℕ
after_label line =
    if starts_with nat_eq line (codes "Address  : ") then drop 11 line else after_first (λ c. c == 64) line

unfoldable pub heading_of : List ℕ → Option ℕ
heading_of line = address_of (trim (after_label line))

-- how many bytes a line of acpiview says that its table has
unfoldable pub length_of : List ℕ → Option ℕ
length_of line = if starts_with nat_eq line (codes "Length   : ") then numeral 10 10 (trim (drop 11 line)) else None

-- a table: the address in its heading, and the bytes of its rows
pub record Spelled : Type 0 where
  pub address : ℕ
  pub bytes : List ℕ

-- the tables of lines: those that are whole, and the one whose rows come, with how many bytes it is said to have
pub record Tables : Type 0 where
  pub complete : List Spelled
  pub current : Option Spelled
  pub stated_length : Option ℕ

abbrev pub all_of : Tables → List Spelled
all_of t = elim t.current [ None ↦ t.complete | Some s ↦ t.complete ++ s ∷ [] ]

abbrev pub opened : Tables → ℕ → Tables
opened t address = record {
  complete = all_of t;
  current = Some
      (record { address = address; bytes = [] });
  stated_length = None;
}

abbrev pub closed : Tables → Tables
closed t = record { complete = all_of t; current = None; stated_length = None }

-- how many bytes the table has so far whose rows come
abbrev pub held : Tables → Option ℕ
held t = option_map (λ s. length s.bytes) t.current

-- one more row: its offset is the number of the bytes before it
unfoldable pub with_row : Tables → ℕ × List ℕ → Option Tables
with_row t row = option_and_then
    (λ s. if row.0 == length s.bytes
    then option_map (λ bs. record {
      complete = t.complete;
      current = Some (record { address = s.address; bytes = bs });
      stated_length = t.stated_length;
    }) (with_pairs 16 s.bytes row.1)
    else None)
    t.current

-- a blank line ends a table, unless that is said to have bytes and none came yet; the line is wrong if others came than
-- it is said to have
unfoldable pub with_blank : Tables → Option Tables
with_blank t = elim (held t) [
  | None ↦ Some (closed t)
  | Some held ↦ elim t.stated_length [
    | None ↦ Some (closed t)
    | Some stated_length ↦ if stated_length == held then Some (closed t) else (if held == 0 then Some t else None)
  ]
]

-- in a table a length stands before its rows
unfoldable pub with_length : Tables → ℕ → Option Tables
with_length t stated_length = elim (held t) [
  | None ↦ Some t
  | Some held ↦ if held == 0 then Some
      (record { complete = t.complete; current = t.current; stated_length = Some stated_length }) else None
]

-- one more line, unless it is wrong; outside a table any line but a row may stand
unfoldable pub with_other : Tables → List ℕ → Option Tables
with_other t line =
    if length (trim line) == 0 then with_blank t
    else elim (length_of line) [
      | Some stated_length ↦ with_length t stated_length
      | None ↦ if is_some t.current then None else Some t
    ]

unfoldable pub with_line : Tables → List ℕ → Option Tables
with_line t line = elim (row_of line) [
  | Some row ↦ with_row t row
  | None ↦ elim (heading_of line) [ Some address ↦ Some (opened t address) | None ↦ with_other t line ]
]

abbrev pub or_wrong : ℕ → Option Tables → (Tables → Result (List Spelled) ℕ) → Result (List Spelled) ℕ
or_wrong n None more = Err n
or_wrong n (Some t) more = more t

-- the tables of lines of which the first has this number, or the number of the first wrong one
unfoldable pub tables_from : ℕ → Tables → List (List ℕ) → Result (List Spelled) ℕ
tables_from n t [] = Ok (all_of t)
tables_from n t (line ∷ lines) = or_wrong n (with_line t line) (λ more. tables_from (n + 1) more lines)

-- the tables that a text spells, or the number of its first wrong line, counted from 1
abbrev pub tables_of : List ℕ → Result (List Spelled) ℕ
tables_of text = tables_from 1 (record { complete = []; current = None; stated_length = None }) (lines_of text)
