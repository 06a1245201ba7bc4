-- The structures of platform timers at fault, as C gets them (GTDT, ACPI 6.4, section 5.2.24.1).
use Rattle.std.specs.Prelude.{ℕ, ◌+◌, ◌-◌, List, [], ◌∷◌, length, nat_lt, slice_index, Option, Some, None, Result, if◌then◌else◌}
use Rattle.acpi_c_lib.specs.Answers.{result_map}
use Rattle.acpi_c_lib.specs.Below.{found_table}
use Rattle.acpi_c_lib.specs.EntryFaults.{entry_fault, faults_from}
use Rattle.acpi_c_interrupts.specs.Types.{cut, field_of, frames_end, gtdt_kind, is_sound, timer_bytes, timer_count, timers_grammar, timers_offset, Refusal, Source, InvalidTimerLength, EntryFault}

-- the item of a structure at an address, if it is a GT Block whose frames aren't between its 20 fixed bytes and its
-- end: where in it no further frame begins
abbrev pub timer_fault : ℕ → List ℕ → Option EntryFault
timer_fault address e =
    if is_sound e then None else Some (entry_fault (address + frames_end e) (slice_index e 0) InvalidTimerLength)

-- where no further structure begins, a rest at an address, if some are missing; Type is 0 if no byte is left
abbrev pub front_faults : ℕ → List ℕ → ℕ → List EntryFault
front_faults missing rest address =
    if nat_lt 0 missing then entry_fault address (field_of rest 0 1) InvalidTimerLength ∷ [] else []

-- the structures up to the malformed front, and the rest
abbrev pub timers_cut : List ℕ → List (List ℕ) × List ℕ
timers_cut table = cut (timers_grammar (timer_count table)) (timer_bytes table)

-- what is at fault at the end of a table's structures
abbrev pub last_faults : List ℕ → ℕ → List EntryFault
last_faults table = front_faults (timer_count table - length (timers_cut table).0) (timers_cut table).1

-- the faults of the table at an address
abbrev pub gtdt_faults_of : ℕ × List ℕ → List EntryFault
gtdt_faults_of found =
    faults_from timer_fault (last_faults found.1) (found.0 + timers_offset found.1) (timers_cut found.1).0

abbrev pub gtdt_faults_below : Source → Result (List EntryFault) Refusal
gtdt_faults_below s = result_map gtdt_faults_of (found_table gtdt_kind s)
