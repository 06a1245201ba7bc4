-- The entries of a MADT at fault, as C gets them (ACPI 6.4, section 5.2.12).
use Rattle.std.specs.Prelude.{ℕ, ◌+◌, List, Option, Some, Result, if◌then◌else◌, option_map}
use Rattle.acpi_riscv.specs.Words.{is_short}
use Rattle.acpi_c_lib.specs.Answers.{result_map}
use Rattle.acpi_c_lib.specs.Below.{found_table}
use Rattle.acpi_c_lib.specs.EntryFaults.{fault_at, faults_from, rest_faults}
use Rattle.acpi_c_interrupts.specs.Types.{cut_of, fault_of_entry, InvalidEntryLength, InvalidMadt, MadtError, madt_kind, Refusal, Source, Acpi, ShortRiscvEntry, EntryFault}

abbrev pub madt_refusal : MadtError → Refusal
madt_refusal error = Acpi (InvalidMadt error)

-- why an entry is at fault: it is of a RISC-V machine, and has fewer bytes than its layout (ACPI 6.6), or as the strict
-- model has it, which takes no notice of these
abbrev pub madt_fault : List ℕ → Option Refusal
madt_fault e = if is_short e then Some ShortRiscvEntry else option_map madt_refusal (fault_of_entry e)

-- the faults of the table at an address
abbrev pub madt_faults_of : ℕ × List ℕ → List EntryFault
madt_faults_of found = faults_from (fault_at madt_fault)
    (rest_faults (madt_refusal InvalidEntryLength) (cut_of found.1).1) (found.0 + 44) (cut_of found.1).0

abbrev pub madt_faults_below : Source → Result (List EntryFault) Refusal
madt_faults_below s = result_map madt_faults_of (found_table madt_kind s)
