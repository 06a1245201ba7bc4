-- The harts and interrupt controllers of a RISC-V machine as C gets them (ACPI 6.6, section 5.2.12).
use Rattle.std.specs.Prelude.{List, [], ◌∷◌, Option, Some, None, Result, Ok, Err, filter_map}
use Rattle.acpi_base.specs.Words.{◌>>=◌}
use Rattle.acpi_riscv.specs.Words.{entries_of}
use Rattle.acpi_c_interrupts.specs.Types.{madt_kind, Aplic, Imsic, Plic, Rintc, RiscvEntry, NoRiscv, Refusal, Source}
use Rattle.acpi_riscv.specs.declared.entry.RiscvEntry.TheVariants as entry
use Rattle.acpi_c_lib.specs.Answers.{result_map}
use Rattle.acpi_c_lib.specs.Below.{first_table}

abbrev pub rintc_in : RiscvEntry → Option Rintc
rintc_in (entry.Rintc e) = Some e
rintc_in _ = None

abbrev pub imsic_in : RiscvEntry → Option Imsic
imsic_in (entry.Imsic e) = Some e
imsic_in _ = None

abbrev pub aplic_in : RiscvEntry → Option Aplic
aplic_in (entry.Aplic e) = Some e
aplic_in _ = None

abbrev pub plic_in : RiscvEntry → Option Plic
plic_in (entry.Plic e) = Some e
plic_in _ = None

-- entries, if there is one
abbrev pub riscv_among : List RiscvEntry → Result (List RiscvEntry) Refusal
riscv_among [] = Err NoRiscv
riscv_among (e ∷ es) = Ok (e ∷ es)

-- the entries of the first valid MADT
unfoldable pub riscv_entries : Source → Result (List RiscvEntry) Refusal
riscv_entries s = do
  table ← first_table madt_kind s
  riscv_among (entries_of table)

-- the records of the entries of one type
abbrev pub below_riscv : {A : Type 0} → Source → (RiscvEntry → Option A) → Result (List A) Refusal
below_riscv s record_in = result_map (filter_map record_in) (riscv_entries s)
