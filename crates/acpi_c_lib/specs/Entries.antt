-- The entries of any table as C gets them, by where Type and Length are in each.
use Rattle.std.specs.Prelude.{ℕ, ◌+◌, ◌==◌, nat_le, nat_lt, List, [], ◌∷◌, drop, length, None, Result, Ok, Err, if◌then◌else◌}
use Rattle.acpi_base.specs.Words.{cut, number_at, header_at, ◌>>=◌, holds, own_accepted}
use Rattle.acpi_bytes.specs.declared.entries.Place.{Place}
use Rattle.acpi.specs.Types.{EntryLayout, Grammar, Width, One, Two, Four, SdtInvalidLength}
use Rattle.acpi_c_lib.specs.Answers.{flag, result_map}
use Rattle.acpi_c_lib.specs.Below.{Refusal, Source, check_policy, refused_as}
use Rattle.acpi_c_lib.specs.Regions.{memory_in}
use Rattle.acpi_c_lib.specs.Types.{Entry, Acpi, UnknownWidth, Walk}

-- the width of a number, by how many bytes it has
abbrev pub width_of_bytes : ℕ → Result Width Refusal
width_of_bytes n = if n == 1 then Ok One else if n == 2 then Ok Two else if n == 4 then Ok Four else Err UnknownWidth

-- the place of a number, by its offset and its number of bytes
abbrev pub number_place : ℕ → ℕ → Result Place Refusal
number_place offset n = result_map (λ w. record { at = offset; width = w }) (width_of_bytes n)

-- where Type and Length are in each entry of a walk; no type has a least length of its own
abbrev pub walk_layout : Walk → Result (EntryLayout 0) Refusal
walk_layout w = do
  kind_place ← number_place w.type_offset w.type_width
  length_place ← number_place w.length_offset w.length_width
  Ok (record { kind_place = kind_place; length_place = length_place; least_lengths = []; least_of_others = 0 })

-- any number of them
abbrev pub plain_grammar : EntryLayout 0 → Grammar 0
plain_grammar l = record { layout = l; most = None }

-- an entry at an address
abbrev pub entry_record : EntryLayout 0 → ℕ → List ℕ → Entry
entry_record l address e = record { address = address; entry_type = number_at l.kind_place e; length = length e }

-- entries one after the other, from an address on
abbrev pub entries_from : EntryLayout 0 → ℕ → List (List ℕ) → List Entry
entries_from l address [] = []
entries_from l address (e ∷ es) = entry_record l address e ∷ entries_from l (address + length e) es

-- the entries that bytes at an address are, and 1 if bytes are left after them, or else 0
abbrev pub entries_at : EntryLayout 0 → ℕ → List ℕ → List Entry × ℕ
entries_at l address bytes =
    let c = cut (plain_grammar l) bytes in
    (entries_from l address c.0, flag (nat_lt 0 (length c.1)))

-- the entries of the table at an address, from a walk's first on: its fixed fields end there, so a shorter one hasn't
-- all of them
abbrev pub entries_below : Source → ℕ → Walk → Result (List Entry × ℕ) Refusal
entries_below s address w = do
  m ← memory_in s.regions.now
  _ ← check_policy s
  l ← walk_layout w
  table ← refused_as (own_accepted s.accept m address)
  _ ← holds (nat_le w.first (length table)) (Acpi (SdtInvalidLength (header_at table).signature))
  Ok (entries_at l (address + w.first) (drop w.first table))

-- the entries alone, and whether bytes are left

abbrev pub entries_said : List Entry × ℕ → List Entry
entries_said found = found.0

abbrev pub left_said : List Entry × ℕ → ℕ
left_said found = found.1
