-- What the FADT and the MADT contain together.
use Rattle.std.specs.Prelude.{ℕ, List, None, Result, Ok, Err, IsOk}
use Rattle.acpi_base.specs.Words.{Memory, ◌>>=◌, Kind, sdt_kind}
use Rattle.acpi.specs.Types.{AcpiError, Unknown, MADT, PlatformInfo}
use Rattle.acpi_fixed.specs.Words.{fadt_at, profile_of}
use Rattle.acpi.specs.Later.{or_later}
use Rattle.acpi.specs.Lists.{fadt_kind}
use Rattle.acpi.specs.Lookup.{lookup}
use Rattle.acpi.specs.Timer.{timer_of}
use Rattle.acpi_base.specs.Model as model

abbrev pub madt_kind : Kind
madt_kind = sdt_kind MADT 44

-- the model of the first valid MADT; nothing is known if none is valid
abbrev pub model_in : {A : Type 0} → Memory → List ℕ → Result (model.Model A) AcpiError
model_in m ps =
    or_later (λ madt. model.model_of madt.1) (lookup m madt_kind ps) (Ok (Unknown, None))

-- the platform that the first valid FADT and the first valid MADT describe
abbrev pub platform_of : {A : Type 0} → Memory → List ℕ → Result (PlatformInfo A) AcpiError
platform_of m ps = do
  found ← lookup m fadt_kind ps
  let fadt = fadt_at found.1
  read_model ← model_in m ps
  timer ← timer_of fadt
  Ok (record {
    power_profile = profile_of fadt;
    interrupt_model = read_model.0;
    processor_info = read_model.1;
    pm_timer = timer;
  })

-- ---- out of memory

-- whether the model of the table found requests memory
abbrev pub FoundAsks : Result (ℕ × List ℕ) AcpiError → Type 0
FoundAsks (Ok found) = model.AsksMemory found.1
FoundAsks (Err e) = ⊥

abbrev pub ModelAsks : Memory → List ℕ → Type 0
ModelAsks m ps = FoundAsks (lookup m madt_kind ps)

-- memory is requested only if a FADT is found, and a MADT that describes APICs
abbrev pub PlatformAsks : Memory → List ℕ → Type 0
PlatformAsks m ps = IsOk (lookup m fadt_kind ps) × ModelAsks m ps
