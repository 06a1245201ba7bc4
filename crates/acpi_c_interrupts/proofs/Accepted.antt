-- What is accepted by 0 is what the crate `acpi` finds valid.
use Rattle.std.proofs.Common.{◌≡◌, ℕ, List, Option, Result, Ok, Err, refl}
use Rattle.acpi_base.specs.Words.{◌>>=◌}
use Rattle.acpi.specs.Types.{AcpiError, Fadt}
use Rattle.acpi.specs.Words.{fadt_kind, lookup, model_in, timer_of}
use Rattle.acpi_fixed.specs.Words.{fadt_at, profile_of}
use Rattle.acpi_c_interrupts.specs.AcceptLaws.{AcceptsAsReaders}
use Rattle.acpi_c_interrupts.specs.Types.{PlatformInfo, PmTimer}
use Rattle.acpi_c_interrupts.specs.Model.{Platform, models_of}
use Rattle.acpi_c_lib.specs.Words.{result_map}

by_timer : (f : Fadt) (read_model : Platform) (r : Result (Option PmTimer) AcpiError)
    → (r >>= λ _. Ok read_model) ≡ result_map models_of (r >>= λ timer. Ok (record {
      power_profile = profile_of f;
      interrupt_model = read_model.0;
      processor_info = read_model.1;
      pm_timer = timer;
    }))
by_timer f read_model (Ok timer) = refl
by_timer f read_model (Err e) = refl

abbrev pub info_by : Result Platform AcpiError → Fadt → Result (PlatformInfo (Unit {0})) AcpiError
info_by r f = do
  read_model ← r
  timer ← timer_of f
  Ok (record {
    power_profile = profile_of f;
    interrupt_model = read_model.0;
    processor_info = read_model.1;
    pm_timer = timer;
  })

by_model : (f : Fadt) (r : Result Platform AcpiError)
    → (r >>= λ read_model. timer_of f >>= λ _. Ok read_model) ≡ result_map models_of (info_by r f)
by_model f (Ok read_model) = by_timer f read_model (timer_of f)
by_model f (Err e) = refl

by_fadt : (r : Result (ℕ × List ℕ) AcpiError) (model : Result Platform AcpiError)
    → (r >>= λ found. model >>= λ read_model. timer_of (fadt_at found.1) >>= λ _. Ok read_model)
    ≡ result_map models_of (r >>= λ found. info_by model (fadt_at found.1))
by_fadt (Ok found) model = by_model (fadt_at found.1) model
by_fadt (Err e) model = refl

pub accepts_as_readers : AcceptsAsReaders
accepts_as_readers m ps = by_fadt (lookup m fadt_kind ps) (model_in m ps)
