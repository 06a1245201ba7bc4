-- The entries of a table at fault, as C gets them.
use Rattle.std.specs.Prelude.{ℕ, ◌+◌, List, [], ◌∷◌, length, replicate, slice_index, Option, option_map}
use Rattle.acpi_c_lib.specs.Below.{Refusal}
use Rattle.acpi_c_lib.specs.Codes.{code_of}
use Rattle.acpi_c_lib.specs.Types.{cons_option, EntryFault}

-- an entry of a Type, at an address, with its error
abbrev pub entry_fault : ℕ → ℕ → Refusal → EntryFault
entry_fault address entry_type error =
    record { address = address; entry_type = entry_type; status = code_of error; reserved = replicate 2 0 }

-- the item of an entry at an address, if it is at fault: at its first byte
abbrev pub fault_at : (List ℕ → Option Refusal) → ℕ → List ℕ → Option EntryFault
fault_at fault_in address e = option_map (entry_fault address (slice_index e 0)) (fault_in e)

-- the items of entries one after the other, from an address on, and then the last ones, from their end on
abbrev pub faults_from : (ℕ → List ℕ → Option EntryFault) → (ℕ → List EntryFault) → ℕ → List (List ℕ) → List EntryFault
faults_from item_at last address [] = last address
faults_from item_at last address (e ∷ es) =
    cons_option (item_at address e) (faults_from item_at last (address + length e) es)

-- a rest at an address, if it isn't empty: no entry begins in it
abbrev pub rest_faults : Refusal → List ℕ → ℕ → List EntryFault
rest_faults error [] address = []
rest_faults error (b ∷ rest) address = entry_fault address b error ∷ []
