-- What a walk along the SRAT's entries shows. It begins with the table's `entries_of` and the rest of its `cut_of`, and
-- each step returns the first entry that is left.
use Rattle.std.specs.Prelude.{◌≡◌, ◌&&◌, Bool, ℕ, List, Option, Some, None, filter_map}
use Rattle.acpi_base.specs.Words.{cut, is_left}
use Rattle.acpi_numa.specs.Srat.{entry_of, srat_grammar}
use Rattle.acpi_numa.specs.declared.srat.entry.SratEntry.{SratEntry}
use Rattle.acpi_numa.specs.declared.srat.walk.SratEntryIter.{SratEntryIter}

-- the entries that are still to come
abbrev pub entries_left : SratEntryIter → List SratEntry
entries_left s = filter_map (entry_of s.revision) (cut srat_grammar s.rest.now).0

-- the rest after them, in which no entry begins
abbrev pub rest_left : SratEntryIter → List ℕ
rest_left s = (cut srat_grammar s.rest.now).1

-- whether it has returned that no entry is left
abbrev pub has_ended : SratEntryIter → Bool
has_ended s = s.ended

-- whether it ended before the table did: what `ended_malformed` returns, which is no until the walk has returned None
abbrev pub is_malformed : SratEntryIter → Bool
is_malformed s = s.ended && is_left s.rest.now

-- a step leaves the rest as it is, and has ended exactly if it returns no entry
abbrev pub EndsAtRest : SratEntryIter → Option SratEntry → SratEntryIter → Type 0
EndsAtRest s (Some entry) t = (rest_left t ≡ rest_left s) × (has_ended t ≡ has_ended s)
EndsAtRest s None t =
    (rest_left t ≡ rest_left s) × (is_malformed t ≡ is_left (rest_left s))
