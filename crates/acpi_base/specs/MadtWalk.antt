-- What a walk along the MADT's entries shows. It begins with the table's `entries_of` and the rest of its `cut_of`, and
-- each step gives the first entry that is left.
use Rattle.std.specs.Prelude.{◌≡◌, ◌&&◌, Bool, true, false, ℕ, List, [], ◌∷◌, ◌≤◌, Option, Some, None, slice_index, filter_map}
use Rattle.acpi_bytes.specs.Entries.{cut}
use Rattle.acpi_base.specs.Madt.{entry_of, madt_grammar}
use Rattle.acpi_base.specs.Types.{MadtEntry, MadtEntryIter}

-- the entries of defined types that bytes begin with
abbrev pub entries_in : List ℕ → List MadtEntry
entries_in bytes = filter_map entry_of (cut madt_grammar bytes).0

-- the first one, if there is one, is of a defined type
abbrev pub BeginsDefined : List (List ℕ) → Type 0
BeginsDefined [] = Unit
BeginsDefined (e ∷ es) = slice_index e 0 ≤ 16

-- the entries that are still to come
abbrev pub entries_left : MadtEntryIter → List MadtEntry
entries_left s = entries_in s.rest.now

-- the rest after them, in which no entry begins
abbrev pub rest_left : MadtEntryIter → List ℕ
rest_left s = (cut madt_grammar s.rest.now).1

-- whether it has answered that no entry is left
abbrev pub has_ended : MadtEntryIter → Bool
has_ended s = s.ended

-- whether bytes are left
abbrev pub is_left : List ℕ → Bool
is_left [] = false
is_left (b ∷ rest) = true

-- whether it ended before the table did: what `ended_malformed` returns, which is no until the walk has given None
abbrev pub is_malformed : MadtEntryIter → Bool
is_malformed s = s.ended && is_left s.rest.now

-- a step leaves the rest as it is, and has ended exactly if it gives no entry
abbrev pub EndsAtRest : MadtEntryIter → Option MadtEntry → MadtEntryIter → Type 0
EndsAtRest s (Some entry) t = (rest_left t ≡ rest_left s) × (has_ended t ≡ has_ended s)
EndsAtRest s None t =
    (rest_left t ≡ rest_left s) × (is_malformed t ≡ is_left (rest_left s))
