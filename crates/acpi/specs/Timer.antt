-- The power management timer (ACPI 6.4, section 4.8.3.3).
use Rattle.std.specs.Prelude.{Option, Result, Ok, option_map}
use Rattle.acpi.specs.Types.{GenericAddress, AcpiError, Fadt, FixedFeatureFlags, PmTimer}
use Rattle.acpi_base.specs.Words.{has_bit, ◌>>=◌}
use Rattle.acpi_fixed.specs.Words.{pm_timer_of, feature_bits}

-- the timer of a block, with TMR_VAL_EXT, bit 8 of the Fixed Feature Flags (section 5.2.9)
abbrev pub timer_at : FixedFeatureFlags → GenericAddress → PmTimer
timer_at flags base = record { base = base; supports_32bit = has_bit (feature_bits flags) 8 }

-- the timer of the block that there is, if any
abbrev pub timer_from : Result (Option GenericAddress) AcpiError → FixedFeatureFlags
    → Result (Option PmTimer) AcpiError
timer_from block flags = do
  found ← block
  Ok (option_map (timer_at flags) found)

-- the timer, if the table has its block
abbrev pub timer_of : Fadt → Result (Option PmTimer) AcpiError
timer_of f = timer_from (pm_timer_of f) f.flags
