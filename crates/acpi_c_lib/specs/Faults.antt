-- The tables that lookups skip.
use Rattle.std.specs.Prelude.{ℕ, List, [], ◌∷◌, replicate, if◌then◌else◌, Result, Ok, Err, bytes_eq}
use Rattle.acpi_base.specs.Words.{Kind, Memory, sdt_kind, table_at, accepted}
use Rattle.acpi.specs.Types.{BGRT, DMAR, FADT, GTDT, HPET, IVRS, MADT, MCFG, SLIT, SPCR, SRAT, SdtInvalidSignature}
use Rattle.acpi_c_lib.specs.Types.{Fault}
use Rattle.acpi_c_lib.specs.Below.{AcpiError, Refusal, Source, below_source}
use Rattle.acpi_c_lib.specs.Codes.{acpi_code}
use Rattle.acpi_c_lib.specs.Records as records
use Rattle.acpi_c_lib.specs.Shown.{Signature, signature_named}

-- why the table at an address isn't valid, or isn't accepted
abbrev pub fault_record : ℕ → ℕ → AcpiError → Fault
fault_record taken p e = record { address = p; status = acpi_code e; accepted = taken; reserved = replicate 3 0 }

-- of a table that is accepted, if it isn't valid
abbrev pub accepted_fault : ℕ → Result (List ℕ) AcpiError → List Fault
accepted_fault p (Ok table) = []
accepted_fault p (Err e) = fault_record 1 p e ∷ []

-- of one that isn't, and those after it; another signature is no fault
abbrev pub with_fault : ℕ → AcpiError → List Fault → List Fault
with_fault p (SdtInvalidSignature s) faults = faults
with_fault p e faults = fault_record 0 p e ∷ faults

abbrev pub fault_before : Memory → Kind → ℕ → Result (List ℕ) AcpiError → List Fault → List Fault
fault_before m k p (Ok table) faults = accepted_fault p (table_at m k p)
fault_before m k p (Err e) faults = with_fault p e faults

-- the faults of the members before the first that a lookup takes, and of that
abbrev pub faults_among : ℕ → Memory → Kind → List ℕ → List Fault
faults_among accept m k [] = []
faults_among accept m k (p ∷ ps) = fault_before m k p (table_at m (accepted accept k) p) (faults_among accept m k ps)

-- the bytes that a lookup of a name requests: up to the end of the last fixed field that this library reads, or a
-- header's 36
unfoldable pub least_named : Signature → ℕ
least_named s =
    if bytes_eq s.0 FADT.0 then 116
    else if bytes_eq s.0 MADT.0 then 44
    else if bytes_eq s.0 MCFG.0 then 44
    else if bytes_eq s.0 HPET.0 then 56
    else if bytes_eq s.0 BGRT.0 then 56
    else if bytes_eq s.0 SPCR.0 then 80
    else if bytes_eq s.0 GTDT.0 then 96
    else if bytes_eq s.0 SRAT.0 then 48
    else if bytes_eq s.0 SLIT.0 then 44
    else if bytes_eq s.0 DMAR.0 then 48
    else if bytes_eq s.0 IVRS.0 then 48
    else 36

abbrev pub kind_named : Signature → Kind
kind_named s = sdt_kind s (least_named s)

-- the faults of a lookup of a name
abbrev pub faults_below : Source → records.Signature → Result (List Fault) Refusal
faults_below s name = below_source s (λ m ps. Ok (faults_among s.accept m (kind_named (signature_named name)) ps))
